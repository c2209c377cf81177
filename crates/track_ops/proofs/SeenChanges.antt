-- Movies whose scale is set, or whose tracks are shown later or in ticks of another scale, are seen as the commands say.
use Rattle.std.proofs.Common.{◌≡◌, ◌≢◌, ℕ, ◌+◌, ◌*◌, ◌<◌, ◌==◌, Bool, true, false, List, [], ◌∷◌, map, Option, Some, None, ℤ, pos, refl, sym, ap, subst, ◌∙◌, arith, inl, inr}
use Rattle.std.specs.Prelude.{Result, Ok, Err, if◌then◌else◌}
use Rattle.std.specs.Ordering.{int_eq}
use Rattle.std.specs.List.{AllByRecursion, AllZip, find, flat_map, list_all}
use Rattle.std.proofs.lemmas.Bool.{cases_Bool, eqb-true}
use Rattle.mp_frac.specs.declared.time.Frac.{Frac}
use Rattle.mp_ports.specs.declared.code.Code.{Code}
use Rattle.mp_ports.specs.declared.code.Code.TheVariants.{NotWhole, ScaleLimit}
use Rattle.mp_ports.specs.Checks.{◌>>=◌}
use Rattle.mp_timeline.specs.declared.segment.Segment.{Segment}
use Rattle.mp_timeline.specs.Movie.{TrackRecord, MovieRecord}
use Rattle.mp_edits.specs.Segments.{duration}
use Rattle.mp_movie.specs.WellFormed.{AreDistinct}
use Rattle.mp_clip.specs.Clipped.{as_times, starts}
use Rattle.mp_shown.specs.Law.{ShowsByTimes}
use Rattle.track_ops.specs.Delay.{delay, delayed, reshown, showing, shown_in, unit, with_shown}
use Rattle.track_ops.specs.Later.{ShowsDelayed}
use Rattle.track_ops.specs.Limits.{limit, settled_to, within_limits}
use Rattle.track_ops.specs.Moments.{AreSeenAs, View, IsSeenAs, shown_later, with_delayed}
use Rattle.track_ops.specs.Numbers.{numbers_of}
use Rattle.track_ops.specs.Scales.{edit_times, in_movie_scale, is_whole, settled}
use Rattle.track_ops.specs.SetScales.{set_movie_scale, set_track_scale, where_whole}
use Rattle.track_ops.specs.Ticks.{in_track_scale, track_times}
use Rattle.track_ops.specs.Tracks.{changed_at, where_found}
use Rattle.track_ops.proofs.SeenCommands.{each_whole, own_seen, unless_is}
use Rattle.track_ops.proofs.SeenDelays.{seen_later}
use Rattle.track_ops.proofs.SeenScales.{seen_in_track_scale}
use Rattle.track_ops.proofs.SeenTracks.{alike}

-- ---- scales are set

whole_is : (whole : Bool) (value made : MovieRecord) → (if whole then within_limits value else Err NotWhole) ≡ Ok made → (whole ≡ true) × (value ≡ made)
whole_is true value made is = (refl, unless_is (limit value) value made is)
whole_is false value made is = cc

pub movie_scale_seen : ShowsByTimes → (scale : ℕ) (movie made : MovieRecord) (views : List View) → 0 < scale → set_movie_scale scale movie ≡ Ok made → AreSeenAs movie views → AreSeenAs made views
movie_scale_seen law scale movie made views some is seen =
    let done = whole_is (list_all (is_whole scale) (flat_map (edit_times movie.scale) movie.tracks)) (record movie { scale = scale; tracks = map (in_movie_scale movie.scale scale) movie.tracks }) made is in
    subst (λ (m : MovieRecord). AreSeenAs m views) done.1
    (own_seen law movie.scale scale some movie.tracks views (each_whole movie.scale scale movie.tracks done.0) seen)

unequal : (a b : ℕ) → a ≢ b → (a == b) ≡ false
unequal a b differ = elim (cases_Bool (a == b)) [
  | inl same ↦ absurd (differ (eqb-true a b same))
  | inr other ↦ other
]

module _ (law : ShowsByTimes) (movie number scale : ℕ) (some : 0 < scale) where
  others_stay : (tracks : List TrackRecord) (views : List View) → AllByRecursion (λ other. other ≢ number) (numbers_of tracks) → AllZip (IsSeenAs movie) tracks views
      → AllZip (IsSeenAs movie) (changed_at number (in_track_scale scale) tracks) views
  others_stay [] [] other seen = tt
  others_stay [] (view ∷ views) other seen = absurd seen
  others_stay (track ∷ tracks) [] other seen = absurd seen
  others_stay (track ∷ tracks) (view ∷ views) other seen = (rw (unequal track.number number other.0) seen.0, others_stay tracks views other.1 seen.1)

  found_seen : (found : TrackRecord) → list_all (is_whole scale) (track_times found) ≡ true → (tracks : List TrackRecord) (views : List View) → AreDistinct (numbers_of tracks)
      → find (λ track. track.number == number) tracks ≡ Some found → AllZip (IsSeenAs movie) tracks views → AllZip (IsSeenAs movie) (changed_at number (in_track_scale scale) tracks) views
  found_seen found whole [] [] distinct is seen = cc
  found_seen found whole [] (view ∷ views) distinct is seen = absurd seen
  found_seen found whole (track ∷ tracks) [] distinct is seen = absurd seen
  found_seen found whole (track ∷ tracks) (view ∷ views) distinct is seen =
      by (track.number == number) refl is (λ later. found_seen found whole tracks views distinct.1 later seen.1)
    where
      by : (test : Bool) → (track.number == number) ≡ test → (if test then Some track else find (λ track. track.number == number) tracks) ≡ Some found
          → (find (λ track. track.number == number) tracks ≡ Some found → AllZip (IsSeenAs movie) (changed_at number (in_track_scale scale) tracks) views)
          → AllZip (IsSeenAs movie) ((if test then in_track_scale scale track else track) ∷ changed_at number (in_track_scale scale) tracks) (view ∷ views)
      by true test is later =
          let same : track ≡ found = cc in
          let numbered = eqb-true track.number number test in (
            seen_in_track_scale law movie scale track view some (subst (λ (t : TrackRecord). list_all (is_whole scale) (track_times t) ≡ true) (sym same) whole) seen.0,
            others_stay tracks views (subst (λ (n : ℕ). AllByRecursion (λ other. other ≢ n) (numbers_of tracks)) numbered distinct.0) seen.1,
          )
      by false test is later = (seen.0, later is)

pub track_scale_seen : ShowsByTimes → (number scale : ℕ) (movie made : MovieRecord) (views : List View) → 0 < scale → AreDistinct (numbers_of movie.tracks) → set_track_scale number scale movie ≡ Ok made
    → AreSeenAs movie views → AreSeenAs made views
track_scale_seen law number scale movie made views some distinct is seen = by (find (λ track. track.number == number) movie.tracks) refl is
  where
    by : (found : Option TrackRecord) → find (λ track. track.number == number) movie.tracks ≡ found
        → where_found (λ track. where_whole scale (track_times track) (record movie { tracks = changed_at number (in_track_scale scale) movie.tracks })) found ≡ Ok made → AreSeenAs made views
    by None there is = cc
    by (Some track) there is =
        let done = whole_is (list_all (is_whole scale) (track_times track)) (record movie { tracks = changed_at number (in_track_scale scale) movie.tracks }) made is in
        subst (λ (m : MovieRecord). AreSeenAs m views) done.1 (found_seen law movie.scale number scale some track done.0 movie.tracks views distinct there seen)

-- ---- a track is shown later

pub record IsNamedAs (track other : TrackRecord) : Type 0 where
  pub number : other.number ≡ track.number
  pub handler : other.head.handler ≡ track.head.handler

same_names : (tracks : List TrackRecord) → AllZip IsNamedAs tracks tracks
same_names [] = tt
same_names (track ∷ tracks) = (record { number = refl; handler = refl }, same_names tracks)

shown_names : (number unit media old new : ℕ) (segments : List Segment) (tracks : List TrackRecord)
    → AllZip IsNamedAs tracks (map (λ track. if track.number == number then showing unit media new segments track else in_movie_scale old new track) tracks)
shown_names number unit media old new segments [] = tt
shown_names number unit media old new segments (track ∷ tracks) = (by (track.number == number), shown_names number unit media old new segments tracks)
  where
    by : (b : Bool) → IsNamedAs track (if b then showing unit media new segments track else in_movie_scale old new track)
    by true = record { number = refl; handler = refl }
    by false = record { number = refl; handler = refl }

module _ (number : ℕ) (movie made : MovieRecord) where
  reshown_names : (unit : ℕ) (segments : List Segment) (media scale : Option ℕ) → shown_in (with_shown number unit segments movie) media scale ≡ Ok made → AllZip IsNamedAs movie.tracks made.tracks
  reshown_names unit segments None scale is = cc
  reshown_names unit segments (Some media) None is = cc
  reshown_names unit segments (Some media) (Some scale) is =
      let m = with_shown number unit segments movie media scale in
      subst (λ (m : MovieRecord). AllZip IsNamedAs movie.tracks m.tracks) (unless_is (limit m) m made is) (shown_names number unit media movie.scale scale segments movie.tracks)

  delayed_names : (track : TrackRecord) (segments : Result (List Segment) Code) → (segments >>= reshown number movie track) ≡ Ok made → AllZip IsNamedAs movie.tracks made.tracks
  delayed_names track (Ok segments) is =
      let u = unit movie.scale track.scale in
      reshown_names u segments (settled track.scale (as_times u (starts segments))) (settled movie.scale (as_times u (map duration segments))) is
  delayed_names track (Err code) is = cc

  names : (ms : ℤ) → delay number ms movie ≡ Ok made → AllZip IsNamedAs movie.tracks made.tracks
  names ms is = by (find (λ track. track.number == number) movie.tracks) is
    where
      none : (zero : Bool) (track : TrackRecord) → (if zero then Ok movie else delayed ms movie.scale track >>= reshown number movie track) ≡ Ok made → AllZip IsNamedAs movie.tracks made.tracks
      none true track is = let same : movie ≡ made = cc in subst (λ (m : MovieRecord). AllZip IsNamedAs movie.tracks m.tracks) same (same_names movie.tracks)
      none false track is = delayed_names track (delayed ms movie.scale track) is

      by : (found : Option TrackRecord) → where_found (λ track. if int_eq ms (pos 0) then Ok movie else delayed ms movie.scale track >>= reshown number movie track) found ≡ Ok made
          → AllZip IsNamedAs movie.tracks made.tracks
      by None is = cc
      by (Some track) is = none (int_eq ms (pos 0)) track is

later_seen : (number : ℕ) (ms : ℤ) (old new : ℕ) (tracks others : List TrackRecord) (views : List View) → AllZip IsNamedAs tracks others
    → AllZip (λ track other. ShowsDelayed (track.number == number) ms old new track other) tracks others → AllZip (IsSeenAs old) tracks views → AllZip (IsSeenAs new) others (with_delayed number ms views)
later_seen number ms old new [] [] [] names shows seen = tt
later_seen number ms old new [] [] (view ∷ views) names shows seen = absurd seen
later_seen number ms old new [] (other ∷ others) views names shows seen = absurd names
later_seen number ms old new (track ∷ tracks) [] views names shows seen = absurd names
later_seen number ms old new (track ∷ tracks) (other ∷ others) [] names shows seen = absurd seen
later_seen number ms old new (track ∷ tracks) (other ∷ others) (view ∷ views) names shows seen = (
  subst (λ (n : ℕ). IsSeenAs new other (if n == number then shown_later ms view else view)) seen.0.number (by (track.number == number) shows.0),
  later_seen number ms old new tracks others views names.1 shows.1 seen.1,
)
  where
    by : (b : Bool) → ShowsDelayed b ms old new track other → IsSeenAs new other (if b then shown_later ms view else view)
    by true shows = seen_later ms old new track other view shows seen.0 names.0.number names.0.handler
    by false shows = alike old new track other view shows names.0.number names.0.handler seen.0

pub delay_seen : (number : ℕ) (ms : ℤ) (movie made : MovieRecord) (views : List View) → delay number ms movie ≡ Ok made
    → AllZip (λ track other. ShowsDelayed (track.number == number) ms movie.scale made.scale track other) movie.tracks made.tracks → AreSeenAs movie views → AreSeenAs made (with_delayed number ms views)
delay_seen number ms movie made views is shows seen = later_seen number ms movie.scale made.scale movie.tracks made.tracks views (names number movie made ms is) shows seen
