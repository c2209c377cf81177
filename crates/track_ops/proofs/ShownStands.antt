-- What the movie stands for in which a track shows other segments.
use Rattle.std.proofs.Common.{◌≡◌, ◌≢◌, ℕ, zero, suc, ◌*◌, ◌/◌, ◌^◌, ◌<◌, ◌||◌, nat_le, nat_lt, pos, ℤ, All, Bool, true, false, List, [], ◌∷◌, length, map, get_or, set, Option, Some, None, refl, sym, ap, ◌∙◌, subst, arith}
use Rattle.std.specs.Prelude.{IfSome, Result, Ok, Err, if◌then◌else◌, unsigned_abs}
use Rattle.std.specs.List.{AllByRecursion, find, list_all, list_any, range_with_len}
use Rattle.std.specs.Int.{◌∣◌}
use Rattle.std.specs.Ordering.{int_eq}
use Rattle.std.proofs.Math.Nat.{dvd-mul_left_of_dvd, dvd-mul_right}
use Rattle.std.proofs.lemmas.List.{length-map}
use Rattle.std.proofs.lemmas.Option.{none-some, same_Some}
use Rattle.mp_frac.specs.declared.time.Frac.{Frac}
use Rattle.mp_frac.specs.Divisors.{most}
use Rattle.mp_ports.specs.declared.code.Code.{Code}
use Rattle.mp_ports.specs.declared.code.Code.TheVariants.{DeltaLimit, DurationLimit, NoTrack, OffsetLimit, SegmentLimit, StartLimit}
use Rattle.mp_ports.specs.declared.fault.Bad.{Bad}
use Rattle.mp_ports.specs.declared.fault.Fail.{Fail}
use Rattle.mp_ports.specs.declared.fault.Fail.TheVariants.{Bad as Refused, NoMemory}
use Rattle.mp_ports.specs.Checks.{bad_at, first_code, placed, unless, ◌>>=◌}
use Rattle.mp_ports.specs.Gives.{refusal}
use Rattle.mp_timeline.specs.declared.segment.Segment.{Segment}
use Rattle.mp_timeline.specs.Movie.{TrackRecord, MovieRecord}
use Rattle.mp_edits.specs.Segments.{duration, most_segments, starts_late, total}
use Rattle.mp_movie.specs.Placed.{PlacedTrack, PlacedMovie}
use Rattle.mp_movie.specs.PartsFit.{first_limit}
use Rattle.mp_movie.specs.PartsLaw.{ColumnsAreKept}
use Rattle.mp_movie.specs.StandsFor.{Hold, HoldTrack, stands_for, track_for}
use Rattle.mp_movie.specs.WholeParts.{AreColumns, AreParts, bare_track}
use Rattle.mp_clip.specs.Clipped.{as_times, starts}
use Rattle.track_ops.specs.Delay.{delay, delayed, reshown, showing, shown_in, told, unit, with_shown}
use Rattle.track_ops.specs.Does.{Does}
use Rattle.track_ops.specs.KeptShown.{IsShowing, kept_reshown, kept_shown, kept_shown_in, others_last_long}
use Rattle.track_ops.specs.KeptTimes.{CanRetime, IsWholeIn, kept_in_movie_scale, kept_retimed}
use Rattle.track_ops.specs.Kept.{has_number, kept_in_scale}
use Rattle.track_ops.specs.Limits.{within_limits}
use Rattle.track_ops.specs.Scales.{in_movie_scale, is_whole, settled}
use Rattle.track_ops.proofs.AddedParts.{own_columns}
use Rattle.track_ops.proofs.AddedStands.{limit_stands, scaled_stand}
use Rattle.track_ops.proofs.FitTicks.{narrow_fits, short_fits}
use Rattle.track_ops.proofs.MovieScaleIsSet.{held_in_scale, parts_in_scale}
use Rattle.track_ops.proofs.PartsStay.{track_stays}
use Rattle.track_ops.proofs.Retimed.{columns_retimed, stands_retimed}
use Rattle.track_ops.proofs.ShownLimits.{limit_shown}
use Rattle.track_ops.proofs.TrackIsSet.{IsThere, changed, formed_track_at, found, no_such, parts_with, track_some, track_whole}
use Rattle.track_ops.proofs.TracksAt.{all_set, map_at, map_set}

-- the scale that serves is a multiple
found_multiple : (test : ℕ → Bool) (scale : ℕ) (factors : List ℕ) (m : ℕ) → find test (map (λ factor. scale * factor) factors) ≡ Some m → scale ∣ m
found_multiple test scale [] m is = absurd (none-some m is)
found_multiple test scale (factor ∷ factors) m is = by (test (scale * factor)) (found_multiple test scale factors m) is
  where
    by : (b : Bool) → (find test (map (λ factor. scale * factor) factors) ≡ Some m → scale ∣ m) → (if b then Some (scale * factor) else find test (map (λ factor. scale * factor) factors)) ≡ Some m → scale ∣ m
    by true rest is = subst (λ (n : ℕ). scale ∣ n) (same_Some (scale * factor) m is) (dvd-mul_right scale factor)
    by false rest is = rest is

settled_multiple : (scale m : ℕ) (times : List Frac) → settled scale times ≡ Some m → scale ∣ m
settled_multiple scale m times is = found_multiple (λ multiple. list_all (is_whole multiple) times) scale (range_with_len 1 (most / scale)) m is

pub all_whole : (old new : ℕ) (column : List ℤ) → old ∣ new → All (IsWholeIn old new) column
all_whole old new column multiple = λ i d lt. dvd-mul_left_of_dvd old multiple (unsigned_abs (get_or column i d))

-- an answer, as what it stands for
abbrev pub stood : List (List ℕ) → Result PlacedMovie Code → Result MovieRecord Code
stood files (Ok kept) = Ok (stands_for files kept)
stood files (Err code) = Err code

-- the movie where the track at that place shows these edits
module _ (columns_law : ColumnsAreKept) (number at : ℕ) (track : PlacedTrack) (movie : PlacedMovie) (h : IsThere number at track movie) where
  columns : AreColumns track
  columns = track_whole movie at track h.whole h.inside h.is

  inside : (scale : ℕ) → at < length (map (kept_in_scale movie.scale scale) movie.tracks)
  inside scale = omega (arith, h.inside, length-map movie.tracks (kept_in_scale movie.scale scale))

  pub held_shown : (sizes : List ℕ) (media scale : ℕ) (edits : List Segment) → Hold sizes movie → Hold sizes (kept_shown at track media edits scale movie)
  held_shown sizes media scale edits hold =
      all_set (HoldTrack sizes) (map (kept_in_scale movie.scale scale) movie.tracks) at (kept_retimed media (Some edits) track) (held_in_scale sizes scale movie hold) (held_with_track sizes hold)
    where
      held_with_track : (sizes : List ℕ) → Hold sizes movie → HoldTrack sizes track
      held_with_track sizes hold = subst (HoldTrack sizes) h.is (at_place movie.tracks at h.inside hold)
        where
          at_place : (tracks : List PlacedTrack) (i : ℕ) → i < length tracks → AllByRecursion (HoldTrack sizes) tracks → HoldTrack sizes (get_or tracks i track)
          at_place [] i lt all = absurd (omega (arith, lt))
          at_place (t ∷ tracks) zero lt all = all.0
          at_place (t ∷ tracks) (suc i) lt all = at_place tracks i (omega (arith, lt)) all.1

  columns_shown : (media scale : ℕ) (edits : List Segment) → AllByRecursion AreColumns (kept_shown at track media edits scale movie).tracks
  columns_shown media scale edits =
      all_set AreColumns (map (kept_in_scale movie.scale scale) movie.tracks) at (kept_retimed media (Some edits) track) (own_columns movie.scale scale movie.tracks h.whole.columns) (columns_retimed track media (Some edits) columns)

  pub shown_stands : (files : List (List ℕ)) (media scale : ℕ) (segments : List Segment) → track.scale ∣ media
      → with_shown number (unit movie.scale track.scale) segments (stands_for files movie) media scale ≡ stands_for files (kept_shown at track media (map (told (unit movie.scale track.scale) media scale) segments) scale movie)
  shown_stands files media scale segments multiple =
      ap (λ (tracks : List TrackRecord). record (stands_for files movie) { scale = scale; tracks = tracks })
      (changed files number at track movie h.whole h.inside h.is h.numbered (showing (unit movie.scale track.scale) media scale segments) (in_movie_scale movie.scale scale)
      ∙ (ap (λ (tracks : List TrackRecord). set tracks at (showing (unit movie.scale track.scale) media scale segments (track_for files track))) (scaled_stand files movie.scale scale movie.tracks)
      ∙ (ap (λ (t : TrackRecord). set (map (track_for files) (map (kept_in_scale movie.scale scale) movie.tracks)) at t)
      (sym (stands_retimed files track media (Some (map (told (unit movie.scale track.scale) media scale) segments)) (track_some number at track movie h) (all_whole track.scale media track.deltas multiple) (all_whole track.scale media track.offsets multiple)))
      ∙ sym (map_set (track_for files) (map (kept_in_scale movie.scale scale) movie.tracks) at (kept_retimed media (Some (map (told (unit movie.scale track.scale) media scale) segments)) track)))))

  unless_stands : (files : List (List ℕ)) (limit : Option Code) (kept : PlacedMovie) → unless limit (stands_for files kept) ≡ stood files (unless limit kept)
  unless_stands files None kept = refl
  unless_stands files (Some code) kept = refl

  pub reshown_stands : (files : List (List ℕ)) (segments : List Segment) → Hold (map length files) movie → reshown number (stands_for files movie) (track_for files track) segments ≡ stood files (kept_reshown at movie track segments)
  reshown_stands files segments hold =
      by (settled track.scale (as_times (unit movie.scale track.scale) (starts segments))) (settled movie.scale (as_times (unit movie.scale track.scale) (map duration segments))) (λ m is. settled_multiple track.scale m _ is)
    where
      by : (media scale : Option ℕ) → ((m : ℕ) → media ≡ Some m → track.scale ∣ m)
          → shown_in (with_shown number (unit movie.scale track.scale) segments (stands_for files movie)) media scale
          ≡ stood files (kept_shown_in (λ media scale. kept_shown at track media (map (told (unit movie.scale track.scale) media scale) segments) scale movie) media scale)
      by None scale multiple = refl
      by (Some media) None multiple = refl
      by (Some media) (Some scale) multiple =
          ap within_limits (shown_stands files media scale segments (multiple media refl))
          ∙ (ap (λ (code : Option Code). unless code (stands_for files (kept_shown at track media (map (told (unit movie.scale track.scale) media scale) segments) scale movie)))
          (limit_stands columns_law files (kept_shown at track media (map (told (unit movie.scale track.scale) media scale) segments) scale movie) (columns_shown media scale (map (told (unit movie.scale track.scale) media scale) segments))
          (held_shown (map length files) media scale (map (told (unit movie.scale track.scale) media scale) segments) hold))
          ∙ unless_stands files (first_limit (kept_shown at track media (map (told (unit movie.scale track.scale) media scale) segments) scale movie)) (kept_shown at track media (map (told (unit movie.scale track.scale) media scale) segments) scale movie))

  -- ---- its parts

  pub parts_shown : (media scale : ℕ) (edits : List Segment) → 0 < media → media < 2 ^ 32 → 0 < scale → scale < 2 ^ 32 → edits ≢ [] → AreParts (kept_shown at track media edits scale movie)
  parts_shown media scale edits some_media short_media some_scale short_scale some =
      let formed = formed_track_at number at track movie h in
      let moved = parts_in_scale scale movie some_scale short_scale h.whole in
      parts_with at (kept_in_scale movie.scale scale track) (kept_retimed media (Some edits) track) (kept_in_movie_scale scale movie) moved (inside scale)
      (track_stays movie.scale scale (bare_track track) track.number track.head.flags track.head.language media (Some edits) formed formed.number formed.header.number formed.header.flags formed.media.language some_media short_media
      (λ same. some (same_Some edits [] same))) (columns_retimed track media (Some edits) columns)
      (sym (ap (λ (t : PlacedTrack). t.number) (map_at (kept_in_scale movie.scale scale) movie.tracks at track (kept_in_scale movie.scale scale track) h.inside ∙ ap (kept_in_scale movie.scale scale) h.is)))

  -- 64 bits hold what is told there
  none_of_two : (a b : Bool) (more : List (Bool × Code)) → first_code ((a, DeltaLimit) ∷ (b, OffsetLimit) ∷ more) ≡ None → (a ≡ false) × (b ≡ false)
  none_of_two true b more none = cc
  none_of_two false true more none = cc
  none_of_two false false more none = (refl, refl)

  pub can_retime : (media scale : ℕ) (edits : List Segment) (segments : List Segment) → IsShowing at movie track segments media edits scale → CanRetime track.scale media track.deltas track.offsets
  can_retime media scale edits segments is =
      let limits = none_of_two _ _ (
      (nat_le (2 ^ 62) (total edits) || others_last_long track.number movie.scale scale movie.tracks, DurationLimit) ∷ (list_any starts_late edits, StartLimit) ∷ (nat_lt most_segments (length edits), SegmentLimit) ∷ []
      ) (sym (limit_shown number at media scale edits track movie h is.scale_multiple) ∙ is.fits) in
      record {
        whole = all_whole track.scale media track.deltas is.multiple;
        whole_offsets = all_whole track.scale media track.offsets is.multiple;
        short = short_fits track.scale media track.deltas limits.0;
        narrow = narrow_fits track.scale media track.offsets limits.1;
      }

-- ---- the command

-- an answer holds one value
pub same_Ok : {A E : Type 0} (r : Result A E) (x y : A) → r ≡ Ok x → r ≡ Ok y → x ≡ y
same_Ok r x y p q = cc

same_Err : {A E : Type 0} (r : Result A E) (x y : E) → r ≡ Err x → r ≡ Err y → x ≡ y
same_Err r x y p q = cc

after_fault : {A B : Type 0} (r : Result A Code) (next : A → Result B Code) (bad : Bad) → placed 0 r ≡ Err bad → placed 0 (r >>= next) ≡ Err bad
after_fault {A = A} (Ok value) next bad is = cc
after_fault {A = A} (Err code) next bad is = ap (λ (b : Bad). Err b) (same_Err (placed {A = A} 0 (Err code)) (bad_at code 0) bad refl is)

after_value : {A B : Type 0} (r : Result A Code) (next : A → Result B Code) (value : A) → placed 0 r ≡ Ok value → (r >>= next) ≡ next value
after_value {A = A} (Ok first) next value is = ap next (same_Ok (placed {A = A} 0 (Ok first)) first value refl is)
after_value (Err code) next value is = cc

stood_fault : (files : List (List ℕ)) (r : Result PlacedMovie Code) (bad : Bad) → placed 0 r ≡ Err bad → placed 0 (stood files r) ≡ Err bad
stood_fault files (Ok kept) bad is = cc
stood_fault files (Err code) bad is = ap (λ (b : Bad). Err b) (same_Err (placed {A = PlacedMovie} 0 (Err code)) (bad_at code 0) bad refl is)

stood_value : (files : List (List ℕ)) (r : Result PlacedMovie Code) (kept : PlacedMovie) → placed 0 r ≡ Ok kept → placed 0 (stood files r) ≡ Ok (stands_for files kept)
stood_value files (Ok first) kept is = ap (λ (m : PlacedMovie). Ok (stands_for files m)) (same_Ok (placed 0 (Ok first)) first kept refl is)
stood_value files (Err code) kept is = cc

pub no_track_delayed : (number : ℕ) (ms : ℤ) (movie : PlacedMovie) (bad : Bad) → has_number number movie.tracks ≡ false → bad ≡ bad_at NoTrack 0 → Does {A = Unit {0}} refusal (delay number ms) movie movie (Err (Refused bad))
no_track_delayed number ms movie bad none is =
    rw is (record { gives = λ files hold. ap (placed 0) (no_such files number movie _ none); held = λ sizes hold. hold; same = refl })

pub not_delayed : (number at : ℕ) (ms : ℤ) (track : PlacedTrack) (movie new : PlacedMovie) → IsThere number at track movie → int_eq ms (pos 0) ≡ true → new ≡ movie → Does {A = Unit {0}} refusal (delay number ms) movie new (Ok tt)
not_delayed number at ms track movie new h none same =
    rw same (record { gives = λ files hold. ap (placed 0) (found files number at track movie h.whole h.inside h.is h.numbered _) ∙ rw none refl; held = λ sizes hold. hold; same = tt })

module _ (columns_law : ColumnsAreKept) (number at : ℕ) (ms : ℤ) (track : PlacedTrack) (movie : PlacedMovie) (h : IsThere number at track movie) (some_ms : int_eq ms (pos 0) ≡ false) where
  asked : (files : List (List ℕ)) → delay number ms (stands_for files movie) ≡ (delayed ms movie.scale (track_for files track) >>= reshown number (stands_for files movie) (track_for files track))
  asked files = found files number at track movie h.whole h.inside h.is h.numbered _ ∙ rw some_ms refl

  pub delay_refused : (fail : Fail) → ((files : List (List ℕ)) → IfSome (refusal fail) (λ bad. placed 0 (delayed ms movie.scale (track_for files track)) ≡ Err bad)) → Does {A = Unit {0}} refusal (delay number ms) movie movie (Err fail)
  delay_refused NoMemory why = record { gives = λ files hold. tt; held = λ sizes hold. hold; same = refl }
  delay_refused (Refused bad) why = record {
    gives = λ files hold. ap (placed 0) (asked files) ∙ after_fault (delayed ms movie.scale (track_for files track)) (reshown number (stands_for files movie) (track_for files track)) bad (why files);
    held = λ sizes hold. hold;
    same = refl;
  }

  module _ (segments : List Segment) (are : (files : List (List ℕ)) → placed 0 (delayed ms movie.scale (track_for files track)) ≡ Ok segments) where
    answered : (files : List (List ℕ)) → Hold (map length files) movie → delay number ms (stands_for files movie) ≡ stood files (kept_reshown at movie track segments)
    answered files hold =
        asked files
        ∙ (after_value (delayed ms movie.scale (track_for files track)) (reshown number (stands_for files movie) (track_for files track)) segments (are files)
        ∙ reshown_stands columns_law number at track movie h files segments hold)

    pub showing_refused : (fail : Fail) → IfSome (refusal fail) (λ bad. placed 0 (kept_reshown at movie track segments) ≡ Err bad) → Does {A = Unit {0}} refusal (delay number ms) movie movie (Err fail)
    showing_refused NoMemory why = record { gives = λ files hold. tt; held = λ sizes hold. hold; same = refl }
    showing_refused (Refused bad) why = record {
      gives = λ files hold. ap (placed 0) (answered files hold) ∙ stood_fault files (kept_reshown at movie track segments) bad why;
      held = λ sizes hold. hold;
      same = refl;
    }

    pub delay_done : (media scale : ℕ) (edits : List Segment) (new : PlacedMovie) → placed 0 (kept_reshown at movie track segments) ≡ Ok (kept_shown at track media edits scale movie) → new ≡ kept_shown at track media edits scale movie
        → Does {A = Unit {0}} refusal (delay number ms) movie new (Ok tt)
    delay_done media scale edits new made same =
        rw same
        (record {
          gives = λ files hold. ap (placed 0) (answered files hold) ∙ stood_value files (kept_reshown at movie track segments) (kept_shown at track media edits scale movie) made;
          held = λ sizes hold. held_shown columns_law number at track movie h sizes media scale edits hold;
          same = tt;
        })
