-- The scale in which the pieces of all tracks last whole ticks, and a movie that has no cut since there is none.
use Rattle.std.proofs.Common.{◌≡◌, ℕ, ℤ, zero, suc, pos, ◌*◌, ◌-◌, ◌<◌, ◌≤◌, List, [], ◌∷◌, ◌++◌, map, Option, Some, None, refl, sym, ap, subst, ◌∙◌, arith, inl, inr}
use Rattle.std.specs.Prelude.{IfNone, IfSome, option_map, slice_range, unsigned_abs, ◌-ℤ◌}
use Rattle.std.specs.Int.{◌∣◌}
use Rattle.std.specs.List.{AllByRecursion, flat_map}
use Rattle.std.proofs.Math.Nat.{dvd-mul_left, dvd-mul_right, dvd_refl, dvd_trans, le_of_dvd, mul-dvd-mul_left, pos_of_dvd_of_pos}
use Rattle.std.proofs.lemmas.Grind.{flat_map-append}
use Rattle.std.proofs.lemmas.List.{append_assoc, append-nil, map-append}
use Rattle.mp_frac.specs.declared.time.Frac.{Frac}
use Rattle.mp_frac.specs.Divisors.{IsLeastCommon, LimitedBy, most}
use Rattle.mp_frac.specs.Law.{WholenessIsDivision}
use Rattle.mp_frac.specs.Time.{IsWhole, in_ticks}
use Rattle.mp_timeline.specs.declared.segment.Segment.{Segment}
use Rattle.mp_timeline.specs.declared.segment.Segment.TheVariants.{Empty, Media}
use Rattle.mp_timeline.specs.Movie.{MovieHeadRecord, MovieRecord, SampleRecord, TrackRecord}
use Rattle.mp_edits.specs.Segments.{duration, shifted}
use Rattle.mp_movie.specs.CanBeWritten.{CanBeWritten}
use Rattle.mp_movie.specs.Placed.{PlacedTrack}
use Rattle.mp_movie.specs.Settling.{Serves, Settles}
use Rattle.mp_movie.specs.StandsFor.{samples_of, track_for}
use Rattle.mp_shown.specs.Law.{finer_sample}
use Rattle.mp_clip.specs.declared.shape.ClipShape.{ClipShape}
use Rattle.mp_clip.specs.Clipped.{as_times, starts, unit}
use Rattle.mp_clip.specs.Shape.{GivesShape, IsShape, least}
use Rattle.track_ops.specs.Law.{LeastScalesAreFound}
use Rattle.track_ops.specs.Scales.{settled}
use Rattle.track_ops.specs.Ticks.{sample_times, track_times}
use Rattle.track_ops.specs.Told.{all_some, or_empty, told_track}
use Rattle.cut_op.specs.Cut.{cut_durations, cut_scale, cut_settled, in_movie_scale}
use Rattle.cut_op.specs.Needed.{first_kept, is_needed, is_sync_sample, kept_samples, through_last}
use Rattle.cut_op.specs.Planned.{HasScale, NoCut}
use Rattle.cut_op.specs.Track.{cut_track, first_decode, late_by, moved_sample, track_pieces, track_samples}
use Rattle.cut_op.proofs.CutScales.{all_joined, all_parted, settles_alike, settles_before, whole_none}
use Rattle.cut_op.proofs.CutSettles.{samples_have, ticks_have}
use Rattle.cut_op.proofs.KeptSamples.{slice-map}
use Rattle.cut_op.proofs.PlannedTracks.{first-finer}
use Rattle.cut_op.proofs.Units.{times_some}

-- ---- times of two lists

serves_front : (scale : ℕ) (times others : List Frac) (k : ℕ) → Serves scale (times ++ others) k → Serves scale times k
serves_front scale times others k serves = record { multiple = serves.multiple; whole = (all_parted (IsWhole k) times others serves.whole).0 }

serves_behind : (scale : ℕ) (times others : List Frac) (k : ℕ) → Serves scale (times ++ others) k → Serves scale others k
serves_behind scale times others k serves = record { multiple = serves.multiple; whole = (all_parted (IsWhole k) times others serves.whole).1 }

pub none_front : (scale : ℕ) (times others : List Frac) → Settles scale times None → Settles scale (times ++ others) None
none_front scale times others above = λ k some serves. above k some (serves_front scale times others k serves)

pub none_behind : (scale : ℕ) (times others : List Frac) → Settles scale others None → Settles scale (times ++ others) None
none_behind scale times others above = λ k some serves. above k some (serves_behind scale times others k serves)

pub whole_in_multiple : WholenessIsDivision → (a k : ℕ) (times : List Frac) → 0 < a → 0 < k → a ∣ k → AllByRecursion (IsWhole a) times → AllByRecursion (IsWhole k) times
whole_in_multiple law a k [] some_a some_k divides all = tt
whole_in_multiple law a k (time ∷ times) some_a some_k divides all = (one time all.0, whole_in_multiple law a k times some_a some_k divides all.1)
  where
    one : (time : Frac) → IsWhole a time → IsWhole k time
    one time whole =
        let positive = whole.1.other_positive in
        let here : time.d ∣ unsigned_abs time.n * a = (law a time some_a positive).0 whole in
        (law k time some_k positive).1 (dvd_trans time.d here (mul-dvd-mul_left a (unsigned_abs time.n) divides))

pub joins : WholenessIsDivision → (scale : ℕ) (times others : List Frac) (a b c : ℕ) → Settles scale times (Some a) → Settles scale others (Some b) → LimitedBy most (IsLeastCommon a b) (Some c) → Settles scale (times ++ others) (Some c)
joins law scale times others a b c first second common =
    let some : 0 < c = pos_of_dvd_of_pos (common.0.divides (a * b) (dvd-mul_right a b) (dvd-mul_left b a)) (times_some a b first.0.some second.0.some) in (
      record {
        some = some;
        serves = record {
          multiple = dvd_trans scale first.0.serves.multiple common.0.first;
          whole = all_joined (IsWhole c) times others (whole_in_multiple law a c times first.0.some some common.0.first first.0.serves.whole) (whole_in_multiple law b c others second.0.some some common.0.second second.0.serves.whole);
        };
        divides = λ other serves. common.0.divides other (first.0.divides other (serves_front scale times others other serves)) (second.0.divides other (serves_behind scale times others other serves));
      },
      common.1,
    )

pub joins_none : (scale : ℕ) (times others : List Frac) (a b : ℕ) → Settles scale times (Some a) → Settles scale others (Some b) → LimitedBy most (IsLeastCommon a b) None → Settles scale (times ++ others) None
joins_none scale times others a b first second (n, common, above) = λ k some serves.
    let divides = common.divides k (first.0.divides k (serves_front scale times others k serves)) (second.0.divides k (serves_behind scale times others k serves)) in
    let le = le_of_dvd some divides in
    omega (arith, le, above)

-- ---- how long the segments of a cut last

module _ (k u : ℕ) (some_k : 0 < k) (some_u : 0 < u) (by : ℤ) where
  there_moved : (ps : List Segment) → AllByRecursion (IsWhole k) (as_times u (map duration ps)) → AllByRecursion (IsWhole k) (map (λ (s : Segment). in_ticks (pos (duration s)) u) (map (shifted by) ps))
  there_moved [] all = tt
  there_moved (Empty dur ∷ ps) all = (all.0, there_moved ps all.1)
  there_moved (Media start dur ∷ ps) all = (all.0, there_moved ps all.1)

  back_moved : (ps : List Segment) → AllByRecursion (IsWhole k) (map (λ (s : Segment). in_ticks (pos (duration s)) u) (map (shifted by) ps)) → AllByRecursion (IsWhole k) (as_times u (map duration ps))
  back_moved [] all = tt
  back_moved (Empty dur ∷ ps) all = (all.0, back_moved ps all.1)
  back_moved (Media start dur ∷ ps) all = (all.0, back_moved ps all.1)

  lasts_there : (ps : List Segment) → AllByRecursion (IsWhole k) (as_times u (map duration ps)) → AllByRecursion (IsWhole k) (map (λ (s : Segment). in_ticks (pos (duration s)) u) (or_empty (map (shifted by) ps)))
  lasts_there [] all = (whole_none k u some_k some_u, tt)
  lasts_there (p ∷ ps) all = there_moved (p ∷ ps) all

  lasts_back : (ps : List Segment) → AllByRecursion (IsWhole k) (map (λ (s : Segment). in_ticks (pos (duration s)) u) (or_empty (map (shifted by) ps))) → AllByRecursion (IsWhole k) (as_times u (map duration ps))
  lasts_back [] all = tt
  lasts_back (p ∷ ps) all = back_moved (p ∷ ps) all

durations_have : (u : ℕ) (segments : List Segment) → 0 < u → AllByRecursion (λ time. 0 < time.d) (map (λ (s : Segment). in_ticks (pos (duration s)) u) segments)
durations_have u [] some = tt
durations_have u (segment ∷ segments) some = (some, durations_have u segments some)

-- the times of a cut, whose first kept sample was decoded then
abbrev pub times_at : (segments : List Segment) (samples : List SampleRecord) (unit decode : ℕ) → List Frac
times_at segments samples unit decode =
    flat_map (sample_times unit) (map (moved_sample decode (decode - least (starts segments))) samples)
    ++ as_times unit (starts (or_empty (map (shifted (pos (decode - least (starts segments)) -ℤ pos decode)) segments)))

times_have : (segments : List Segment) (samples : List SampleRecord) (unit : ℕ) → 0 < unit → AllByRecursion (λ time. 0 < time.d) (times_at segments samples unit (first_decode samples))
times_have segments samples unit some =
    samples_have unit (map (moved_sample (first_decode samples) (first_decode samples - least (starts segments))) samples)
    (as_times unit (starts (or_empty (map (shifted (pos (first_decode samples - least (starts segments)) -ℤ pos (first_decode samples))) segments)))) some
    (ticks_have unit (starts (or_empty (map (shifted (pos (first_decode samples - least (starts segments)) -ℤ pos (first_decode samples))) segments))) some)

-- ---- all tracks

abbrev pub movie_of : ℕ → MovieHeadRecord → List TrackRecord → MovieRecord
movie_of scale head tracks = record { scale = scale; head = head; tracks = tracks }

all_none : (options : List (Option TrackRecord)) (others : List (Option TrackRecord)) → all_some (options ++ None ∷ others) ≡ None
all_none [] others = refl
all_none (None ∷ options) others = refl
all_none (Some track ∷ options) others = ap (option_map (λ (items : List TrackRecord). track ∷ items)) (all_none options others)

module _ (files : List (List ℕ)) (old : ℕ) (from to : Frac) (some_old : 0 < old) (some_from : 0 < from.d) (some_to : 0 < to.d) where
  some_unit : (scale : ℕ) → 0 < scale → 0 < unit scale old from to
  some_unit scale some = times_some (old * scale) (from.d * to.d) (times_some old scale some_old some) (times_some from.d to.d some_from some_to)

  abbrev pub lasts : TrackRecord → List Frac
  lasts track = cut_durations old from to track

  -- what the durations of its pieces settle to those of its cut settle to
  lasts_settle : (track : PlacedTrack) (result : Option ℕ) → 0 < track.scale → Settles old (as_times (unit track.scale old from to) (map duration (track_pieces old from to (track_for files track)))) result → Settles old (lasts (track_for files track)) result
  lasts_settle track result some is =
      let segments = track_pieces old from to (track_for files track) in
      let samples = kept_samples segments (track_samples old from to (track_for files track)) in
      let by : ℤ = pos (late_by segments samples) -ℤ pos (first_decode samples) in
      settles_alike old (as_times (unit track.scale old from to) (map duration segments)) (lasts (track_for files track)) result
      (λ k some_k multiple all. lasts_there k (unit track.scale old from to) some_k (some_unit track.scale some) by segments all)
      (λ k some_k multiple all. lasts_back k (unit track.scale old from to) some_k (some_unit track.scale some) by segments all) is

  -- all the durations
  all_have : (tracks : List PlacedTrack) → AllByRecursion CanBeWritten tracks → AllByRecursion (λ time. 0 < time.d) (flat_map lasts (map (track_for files) tracks))
  all_have [] can = tt
  all_have (track ∷ tracks) can =
      all_joined (λ time. 0 < time.d) (lasts (track_for files track)) (flat_map lasts (map (track_for files) tracks)) (durations_have (unit track.scale old from to) _ (some_unit track.scale can.0.scale)) (all_have tracks can.1)

  in_parts : (before behind : List PlacedTrack) → flat_map lasts (map (track_for files) (before ++ behind)) ≡ flat_map lasts (map (track_for files) before) ++ flat_map lasts (map (track_for files) behind)
  in_parts before behind = ap (flat_map lasts) (map-append (track_for files) before behind) ∙ flat_map-append lasts (map (track_for files) before) (map (track_for files) behind)

  none_settles : LeastScalesAreFound → (tracks : List PlacedTrack) → AllByRecursion CanBeWritten tracks → Settles old (flat_map lasts (map (track_for files) tracks)) None → NoCut files old from to tracks
  none_settles found tracks can is = λ head.
      ap (in_movie_scale from to (record { scale = old; head = head; tracks = map (track_for files) tracks })) (found old (flat_map lasts (map (track_for files) tracks)) None some_old (all_have tracks can) is)

  media_none : LeastScalesAreFound → (track : PlacedTrack) → 0 < track.scale → Settles track.scale (as_times (unit track.scale old from to) (starts (track_pieces old from to (track_for files track)))) None → settled track.scale (track_times (cut_track old from to (track_for files track))) ≡ None
  media_none found track some is =
      let tick = old * (from.d * to.d) in
      let segments = track_pieces old from to (track_for files track) in
      let all = samples_of files track in
      let low : ℕ = first_kept is_sync_sample (is_needed segments) (map (finer_sample tick) all) in
      let high : ℕ = through_last (is_needed segments) (map (finer_sample tick) all) in
      let one_unit : tick * track.scale ≡ unit track.scale old from to = turn old (from.d * to.d) track.scale in
      let some_tick = times_some old (from.d * to.d) some_old (times_some from.d to.d some_from some_to) in
      let kept : kept_samples segments (track_samples old from to (track_for files track)) ≡ map (finer_sample tick) (slice_range all low high) = slice-map (finer_sample tick) all low high in
      let part = slice_range all low high in
      let cut : Settles track.scale (times_at segments (map (finer_sample tick) part) (tick * track.scale) (first_decode part * tick)) None =
      settles_before track.scale tick some some_tick part segments None (subst (λ (u : ℕ). Settles track.scale (as_times u (starts segments)) None) (sym one_unit) is) in
      let whole : Settles track.scale (track_times (cut_track old from to (track_for files track))) None =
      subst (λ (samples : List SampleRecord). Settles track.scale (times_at segments samples (unit track.scale old from to) (first_decode samples)) None) (sym kept)
      (subst (λ (n : ℕ). Settles track.scale (times_at segments (map (finer_sample tick) part) (unit track.scale old from to) n) None) (sym (first-finer tick part))
      (subst (λ (u : ℕ). Settles track.scale (times_at segments (map (finer_sample tick) part) u (first_decode part * tick)) None) one_unit cut)) in
      found track.scale (track_times (cut_track old from to (track_for files track))) None some
      (times_have segments (kept_samples segments (track_samples old from to (track_for files track))) (unit track.scale old from to) (some_unit track.scale some)) whole
    where
      turn : (m p s : ℕ) → m * p * s ≡ m * s * p
      turn m p s = omega arith

  no_track : LeastScalesAreFound → (before behind : List PlacedTrack) (track : PlacedTrack) → settled track.scale (track_times (cut_track old from to (track_for files track))) ≡ None → NoCut files old from to (before ++ track ∷ behind)
  no_track found before behind track none = λ head. by (cut_scale from to (record { scale = old; head = head; tracks = map (track_for files) (before ++ track ∷ behind) })) head
    where
      by : (scale : Option ℕ) (head : MovieHeadRecord) → in_movie_scale from to (record { scale = old; head = head; tracks = map (track_for files) (before ++ track ∷ behind) }) scale ≡ None
      by None head = refl
      by (Some scale) head =
          ap (λ (options : List (Option TrackRecord)). option_map (λ (tracks : List TrackRecord). movie_of scale head tracks) (all_some options))
          (ap (map (cut_settled old scale from to)) (map-append (track_for files) before (track ∷ behind))
          ∙ (map-append (cut_settled old scale from to) (map (track_for files) before) (track_for files track ∷ map (track_for files) behind)
          ∙ ap (λ (one : Option TrackRecord). map (cut_settled old scale from to) (map (track_for files) before) ++ one ∷ map (cut_settled old scale from to) (map (track_for files) behind))
          (ap (option_map (λ (s : ℕ). told_track s scale (cut_track old from to (track_for files track)))) none)))
          ∙ ap (option_map (λ (tracks : List TrackRecord). movie_of scale head tracks)) (all_none (map (cut_settled old scale from to) (map (track_for files) before)) (map (cut_settled old scale from to) (map (track_for files) behind)))

  -- a scale that a track needs is too great
  pub no_shape : LeastScalesAreFound → (before behind : List PlacedTrack) (track : PlacedTrack) → AllByRecursion CanBeWritten (before ++ track ∷ behind)
      → GivesShape track.scale old (unit track.scale old from to) (track_pieces old from to (track_for files track)) None → NoCut files old from to (before ++ track ∷ behind)
  no_shape found before behind track can none =
      let here = (all_parted CanBeWritten before (track ∷ behind) can).1.0 in
      elim none [
        | inl media ↦ no_track found before behind track (media_none found track here.scale media)
        | inr movie ↦
            none_settles found (before ++ track ∷ behind) can
            (subst (λ (times : List Frac). Settles old times None) (sym (in_parts before (track ∷ behind)))
            (none_behind old (flat_map lasts (map (track_for files) before)) _ (none_front old (lasts (track_for files track)) _ (lasts_settle track None here.scale movie))))
      ]

  -- that of all of them is
  pub no_scale : LeastScalesAreFound → (before behind : List PlacedTrack) (track : PlacedTrack) (shape : ClipShape) (scale : ℕ) → AllByRecursion CanBeWritten (before ++ track ∷ behind)
      → HasScale files old from to before scale → IsShape track.scale old (unit track.scale old from to) (track_pieces old from to (track_for files track)) shape → LimitedBy most (IsLeastCommon scale shape.movie_scale) None
      → NoCut files old from to (before ++ track ∷ behind)
  no_scale found before behind track shape scale can has is none =
      let here = (all_parted CanBeWritten before (track ∷ behind) can).1.0 in
      none_settles found (before ++ track ∷ behind) can
      (subst (λ (times : List Frac). Settles old times None) (sym (in_parts before (track ∷ behind) ∙ sym (append_assoc (flat_map lasts (map (track_for files) before)) (lasts (track_for files track)) (flat_map lasts (map (track_for files) behind)))))
      (none_front old (flat_map lasts (map (track_for files) before) ++ lasts (track_for files track)) _
      (joins_none old (flat_map lasts (map (track_for files) before)) (lasts (track_for files track)) scale shape.movie_scale has (lasts_settle track (Some shape.movie_scale) here.scale is.movie_scale) none)))

  -- with one track more
  pub scale_more : WholenessIsDivision → (before : List PlacedTrack) (track : PlacedTrack) (shape : ClipShape) (scale new : ℕ) → 0 < track.scale
      → HasScale files old from to before scale → IsShape track.scale old (unit track.scale old from to) (track_pieces old from to (track_for files track)) shape → LimitedBy most (IsLeastCommon scale shape.movie_scale) (Some new)
      → HasScale files old from to (before ++ track ∷ []) new
  scale_more law before track shape scale new some has is common =
      subst (λ (times : List Frac). Settles old times (Some new)) (sym (in_parts before (track ∷ []) ∙ ap (λ (times : List Frac). flat_map lasts (map (track_for files) before) ++ times) (append-nil (lasts (track_for files track)))))
      (joins law old (flat_map lasts (map (track_for files) before)) (lasts (track_for files track)) scale shape.movie_scale new has (lasts_settle track (Some shape.movie_scale) some is.movie_scale) common)

  -- what is settled so is found
  pub scale_found : LeastScalesAreFound → (tracks : List PlacedTrack) (scale : ℕ) → AllByRecursion CanBeWritten tracks → HasScale files old from to tracks scale
      → settled old (flat_map lasts (map (track_for files) tracks)) ≡ Some scale
  scale_found found tracks scale can has = found old (flat_map lasts (map (track_for files) tracks)) (Some scale) some_old (all_have tracks can) has

  -- no track needs a scale
  pub none_needed : old ≤ most → HasScale files old from to [] old
  none_needed within = (record { some = some_old; serves = record { multiple = dvd_refl old; whole = tt }; divides = λ other serves. serves.multiple }, within)

  -- the scale of each of the tracks divides it
  pub whole_lasts : (track : PlacedTrack) (new : ℕ) → 0 < new → 0 < track.scale → AllByRecursion (IsWhole new) (lasts (track_for files track))
      → AllByRecursion (IsWhole new) (as_times (unit track.scale old from to) (map duration (track_pieces old from to (track_for files track))))
  whole_lasts track new some_new some whole =
      let segments = track_pieces old from to (track_for files track) in
      let samples = kept_samples segments (track_samples old from to (track_for files track)) in
      lasts_back new (unit track.scale old from to) some_new (some_unit track.scale some) (pos (late_by segments samples) -ℤ pos (first_decode samples)) segments whole

  pub multiple_of : (track : PlacedTrack) (shape : ClipShape) (new : ℕ) → 0 < new → 0 < track.scale → old ∣ new → AllByRecursion (IsWhole new) (lasts (track_for files track))
      → IsShape track.scale old (unit track.scale old from to) (track_pieces old from to (track_for files track)) shape → shape.movie_scale ∣ new
  multiple_of track shape new some_new some multiple whole is = is.movie_scale.0.divides new (record { multiple = multiple; whole = whole_lasts track new some_new some whole })

-- what is answered with one track more
pub some_answers : WholenessIsDivision → (old : ℕ) (from to : Frac) (track : PlacedTrack) (shape : ClipShape) (scale : ℕ) (result : Option ℕ) → 0 < old → 0 < from.d → 0 < to.d → 0 < track.scale
    → ((files : List (List ℕ)) → IsShape track.scale old (unit track.scale old from to) (track_pieces old from to (track_for files track)) shape) → LimitedBy most (IsLeastCommon scale shape.movie_scale) result
    → IfSome result (λ new. (files : List (List ℕ)) (before : List PlacedTrack) → HasScale files old from to before scale → HasScale files old from to (before ++ track ∷ []) new)
some_answers law old from to track shape scale None some_old some_from some_to some is common = tt
some_answers law old from to track shape scale (Some new) some_old some_from some_to some is common = λ files before has. scale_more files old from to some_old some_from some_to law before track shape scale new some has (is files) common

pub more_answers : (a b : ℕ) (result : Option ℕ) → 0 < a → 0 < b → LimitedBy most (IsLeastCommon a b) result → IfSome result (λ new. 0 < new)
more_answers a b None some other common = tt
more_answers a b (Some new) some other common = pos_of_dvd_of_pos (common.0.divides (a * b) (dvd-mul_right a b) (dvd-mul_left b a)) (times_some a b some other)

pub none_answers : LeastScalesAreFound → (old : ℕ) (from to : Frac) (track : PlacedTrack) (shape : ClipShape) (scale : ℕ) (result : Option ℕ) → 0 < old → 0 < from.d → 0 < to.d
    → ((files : List (List ℕ)) → IsShape track.scale old (unit track.scale old from to) (track_pieces old from to (track_for files track)) shape) → LimitedBy most (IsLeastCommon scale shape.movie_scale) result
    → IfNone result ((files : List (List ℕ)) (before behind : List PlacedTrack) → AllByRecursion CanBeWritten (before ++ track ∷ behind) → HasScale files old from to before scale → NoCut files old from to (before ++ track ∷ behind))
none_answers found old from to track shape scale None some_old some_from some_to is common = λ files before behind can has. no_scale files old from to some_old some_from some_to found before behind track shape scale can has (is files) common
none_answers found old from to track shape scale (Some new) some_old some_from some_to is common = tt
