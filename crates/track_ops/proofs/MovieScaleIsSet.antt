-- A movie in ticks of another scale.
use Rattle.std.proofs.Common.{◌≡◌, ℕ, ◌*◌, ◌^◌, ◌<◌, nat_le, nat_lt, Bool, true, false, not, List, [], ◌∷◌, ◌++◌, length, map, Option, Some, None, All, refl, sym, ap, ◌∙◌, subst, arith}
use Rattle.std.specs.Prelude.{Ok, Err, if◌then◌else◌}
use Rattle.std.specs.List.{AllByRecursion, flat_map, list_any, list_all}
use Rattle.std.specs.Int.{◌∣◌}
use Rattle.std.proofs.lemmas.List.{length-map}
use Rattle.mp_columns.specs.declared.columns.TheConstants.{MOST_ITEMS}
use Rattle.mp_ports.specs.declared.code.Code.{Code}
use Rattle.mp_ports.specs.declared.code.Code.TheVariants.{DeltaLimit, SizeLimit, EntryLimit, SegmentLimit, OffsetLimit, DurationLimit, NotWhole, StartLimit, SampleLimit, TrackLimit}
use Rattle.mp_ports.specs.declared.fault.Bad.{Bad}
use Rattle.mp_ports.specs.Checks.{bad_at, first_code}
use Rattle.mp_frac.specs.declared.time.Frac.{Frac}
use Rattle.mp_frac.specs.Divisors.{IsGreatestCommon}
use Rattle.mp_timeline.specs.declared.segment.Segment.{Segment}
use Rattle.mp_timeline.specs.Movie.{TrackRecord, MovieRecord}
use Rattle.mp_edits.specs.EditBox.{segments_in}
use Rattle.mp_edits.specs.Segments.{duration}
use Rattle.mp_movie.specs.Durations.{greatest}
use Rattle.mp_movie.specs.Limits.{most_tracks}
use Rattle.mp_movie.specs.Placed.{PlacedTrack, PlacedMovie}
use Rattle.mp_movie.specs.PartsFit.{first_limit, limits, passes}
use Rattle.mp_movie.specs.PartsLaw.{ColumnsAreKept}
use Rattle.mp_movie.specs.StandsFor.{Hold, HoldTrack, stands_for, track_for}
use Rattle.mp_movie.specs.WholeParts.{AreParts}
use Rattle.mp_movie.specs.WellFormed.{AreDistinct}
use Rattle.track_ops.specs.declared.chosen.Choice.TheVariants.{All as EachTrack}
use Rattle.track_ops.specs.declared.summary.Summary.{Summary}
use Rattle.track_ops.specs.Does.{Does}
use Rattle.track_ops.specs.Kept.{kept_chosen, kept_durations, kept_in_scale, lasts}
use Rattle.track_ops.specs.KeptTimes.{are_whole, kept_in_movie_scale}
use Rattle.track_ops.specs.Limits.{within_limits}
use Rattle.track_ops.specs.Scales.{CanLast, edit_times, is_whole}
use Rattle.track_ops.specs.SetScales.{set_movie_scale, where_whole}
use Rattle.track_ops.specs.Summed.{IsSummary}
use Rattle.track_ops.proofs.AddedLimits.{early, few}
use Rattle.track_ops.proofs.AddedParts.{own_columns, own_formed, own_numbers}
use Rattle.track_ops.proofs.AddedStands.{limit_stands, scaled_stand, times_stand}
use Rattle.track_ops.proofs.AddedTracks.{all_short}
use Rattle.track_ops.proofs.JoinedLimits.{greatest_short}
use Rattle.track_ops.proofs.LimitsStay.{none_holds}
use Rattle.track_ops.proofs.Lists.{all_mapped, any_same, sum_same}
use Rattle.track_ops.proofs.LongEdits.{AreWhole, some_long}
use Rattle.track_ops.proofs.PartsStay.{numbers_distinct, parts_stay}
use Rattle.track_ops.proofs.SetAnswers.{Answers, answer, done_so, none_found, refused_by}
use Rattle.track_ops.proofs.Summaries.{all_chosen}
use Rattle.track_ops.proofs.WholeTicks.{all_divided, times_whole}

pub parts_in_scale : (scale : ℕ) (movie : PlacedMovie) → 0 < scale → scale < 2 ^ 32 → AreParts movie → AreParts (kept_in_movie_scale scale movie)
parts_in_scale scale movie some short h =
    parts_stay movie scale (map (kept_in_scale movie.scale scale) movie.tracks) h some short (own_formed movie.scale movie.scale scale movie.tracks h.bare.tracks)
    (subst AreDistinct (sym (own_numbers movie.scale scale movie.tracks)) (numbers_distinct movie h)) (own_columns movie.scale scale movie.tracks h.columns)

-- one limit is left where no other is passed
only_long : (delta offset long start size many tracks entry segment : Bool) → delta ≡ false → offset ≡ false → start ≡ false → size ≡ false → many ≡ false → tracks ≡ false → entry ≡ false → segment ≡ false
    → first_code (
    (delta, DeltaLimit)
    ∷ (offset, OffsetLimit)
    ∷ (long, DurationLimit)
    ∷ (start, StartLimit)
    ∷ (size, SizeLimit)
    ∷ (many, SampleLimit)
    ∷ (tracks, TrackLimit)
    ∷ (entry, EntryLimit)
    ∷ (segment, SegmentLimit)
    ∷ []
    )
    ≡ first_code ((long, DurationLimit) ∷ [])
only_long delta offset long start size many tracks entry segment a b c d e f g h = rw (a, b, c, d, e, f, g, h) refl

pub limit_in_scale : (scale : ℕ) (movie : PlacedMovie) → first_limit movie ≡ None
    → first_limit (kept_in_movie_scale scale movie) ≡ first_code ((list_any (passes DurationLimit) (map (kept_in_scale movie.scale scale) movie.tracks), DurationLimit) ∷ [])
limit_in_scale scale movie fits =
    let tests = none_holds (limits movie) fits in
    only_long _ _ _ _ _ _ _ _ _ (same DeltaLimit (λ track. refl) ∙ tests.0) (same OffsetLimit (λ track. refl) ∙ tests.1.0) (same StartLimit (early movie.scale scale) ∙ tests.1.1.1.0)
    (same SizeLimit (λ track. refl) ∙ tests.1.1.1.1.0)
    (ap (λ (n : ℕ). nat_lt MOST_ITEMS n) (sum_same (λ (t : PlacedTrack). length t.deltas) (kept_in_scale movie.scale scale) (λ track. refl) movie.tracks) ∙ tests.1.1.1.1.1.0)
    (ap (λ (n : ℕ). nat_lt most_tracks n) (length-map movie.tracks (kept_in_scale movie.scale scale)) ∙ tests.1.1.1.1.1.1.0)
    (same EntryLimit (λ track. refl) ∙ tests.1.1.1.1.1.1.1.0) (same SegmentLimit (few movie.scale scale) ∙ tests.1.1.1.1.1.1.1.1.0)
  where
    same : (code : Code) → ((track : PlacedTrack) → passes code (kept_in_scale movie.scale scale track) ≡ passes code track)
        → list_any (passes code) (map (kept_in_scale movie.scale scale) movie.tracks) ≡ list_any (passes code) movie.tracks
    same code each = any_same (passes code) (kept_in_scale movie.scale scale) each movie.tracks

-- edits whose durations are whole
pub edits_whole : (old new : ℕ) (tracks : List PlacedTrack) → AllByRecursion (λ number. old ∣ number * new) (kept_durations tracks) → AllByRecursion (λ track. AreWhole old new (segments_in track.edits)) tracks
edits_whole old new [] all = tt
edits_whole old new (track ∷ tracks) all = let both = split (segments_in track.edits) (kept_durations tracks) all in (both.0, edits_whole old new tracks both.1)
  where
    split : (segments : List Segment) (more : List ℕ) → AllByRecursion (λ number. old ∣ number * new) (map duration segments ++ more)
        → AreWhole old new segments × AllByRecursion (λ number. old ∣ number * new) more
    split [] more all = (tt, all)
    split (segment ∷ segments) more all = let rest = split segments more all.1 in ((all.0, rest.0), rest.1)

-- whether an edit list is too long there, by the longest one
pub long_in_scale : (scale longest : ℕ) (movie : PlacedMovie) → AreParts movie → first_limit movie ≡ None → are_whole movie.scale scale (kept_durations movie.tracks) ≡ true → longest ≡ greatest (map lasts movie.tracks)
    → list_any (passes DurationLimit) (map (kept_in_scale movie.scale scale) movie.tracks) ≡ nat_le (2 ^ 62 * movie.scale) (longest * scale)
long_in_scale scale longest movie h fits whole is =
    some_long movie.scale scale movie.tracks h.bare.header.some_scale (edits_whole movie.scale scale movie.tracks (all_divided movie.scale scale (kept_durations movie.tracks) whole))
    ∙ ap (λ (n : ℕ). nat_le (2 ^ 62 * movie.scale) (n * scale)) (sym is)

pub longest_is : (movie : PlacedMovie) (summary : Summary) → first_limit movie ≡ None → IsSummary (kept_chosen EachTrack movie.tracks) summary → summary.longest ≡ greatest (map lasts movie.tracks)
longest_is movie summary fits is =
    let tests = none_holds (limits movie) fits in
    let short = greatest_short movie.tracks tests.1.1.0 in
    let mine : IsSummary movie.tracks summary = subst (λ (ts : List PlacedTrack). IsSummary ts summary) (all_chosen movie.tracks) is in
    let e = mine.longest in
    omega (arith, e, short)

pub held_in_scale : (sizes : List ℕ) (scale : ℕ) (movie : PlacedMovie) → Hold sizes movie → Hold sizes (kept_in_movie_scale scale movie)
held_in_scale sizes scale movie hold = all_mapped (HoldTrack sizes) (HoldTrack sizes) (kept_in_scale movie.scale scale) (λ track h. h) movie.tracks hold

-- what the command answers
pub answers_in_scale : ColumnsAreKept → (scale : ℕ) (movie : PlacedMovie) → AreParts movie
    → Answers (set_movie_scale scale) movie (are_whole movie.scale scale (kept_durations movie.tracks)) (first_limit (kept_in_movie_scale scale movie)) (kept_in_movie_scale scale movie)
answers_in_scale law scale movie h files hold =
    ap (λ (tracks : List TrackRecord). where_whole scale times (record (stands_for files movie) { scale = scale; tracks = tracks })) (scaled_stand files movie.scale scale movie.tracks)
    ∙ (ap (λ (b : Bool). if b then within_limits made else Err NotWhole)
    (ap (list_all (is_whole scale)) (times_stand files movie.scale movie.tracks) ∙ times_whole movie.scale scale (kept_durations movie.tracks))
    ∙ ap (λ (code : Option Code). answer (are_whole movie.scale scale (kept_durations movie.tracks)) code made)
    (limit_stands law files (kept_in_movie_scale scale movie) (own_columns movie.scale scale movie.tracks h.columns) (held_in_scale (map length files) scale movie hold)))
  where
    made : MovieRecord
    made = stands_for files (kept_in_movie_scale scale movie)

    times : List Frac
    times = flat_map (edit_times movie.scale) (map (track_for files) movie.tracks)

-- 64 bits hold each duration there
pub short_in_scale : (scale : ℕ) (movie : PlacedMovie) → list_any (passes DurationLimit) (map (kept_in_scale movie.scale scale) movie.tracks) ≡ false → All (λ track. All (CanLast movie.scale scale) (segments_in track.edits)) movie.tracks
short_in_scale scale movie none = all_short movie.scale scale movie.tracks none

-- ---- the command

abbrev pub long_check : ℕ → PlacedMovie → List (Bool × Code)
long_check scale movie = (nat_le (2 ^ 62 * movie.scale) (greatest (map lasts movie.tracks) * scale), DurationLimit) ∷ []

-- what is asked before: whether all is whole, and whether an edit list is too long
abbrev pub movie_check : ℕ → PlacedMovie → Option Code
movie_check scale movie = first_code ((not (are_whole movie.scale scale (kept_durations movie.tracks)), NotWhole) ∷ long_check scale movie)

limits_told : (scale : ℕ) (movie : PlacedMovie) → AreParts movie → first_limit movie ≡ None → are_whole movie.scale scale (kept_durations movie.tracks) ≡ true
    → first_limit (kept_in_movie_scale scale movie) ≡ first_code (long_check scale movie)
limits_told scale movie h fits whole =
    limit_in_scale scale movie fits ∙ ap (λ (b : Bool). first_code ((b, DurationLimit) ∷ [])) (long_in_scale scale (greatest (map lasts movie.tracks)) movie h fits whole refl)

pub movie_refused : ColumnsAreKept → (scale : ℕ) (movie : PlacedMovie) (code : Code) (bad : Bad) → AreParts movie → first_limit movie ≡ None → Some code ≡ movie_check scale movie → bad ≡ bad_at code 0
    → Does {A = Unit {0}} Some (set_movie_scale scale) movie movie (Err bad)
movie_refused law scale movie code bad h fits fault is =
    refused_by (set_movie_scale scale) movie (kept_in_movie_scale scale movie) (are_whole movie.scale scale (kept_durations movie.tracks)) (long_check scale movie) code bad (answers_in_scale law scale movie h) (limits_told scale movie h fits)
    (sym fault) is

pub movie_fits : (scale : ℕ) (movie parts : PlacedMovie) → AreParts movie → first_limit movie ≡ None → None ≡ movie_check scale movie → parts ≡ movie → first_limit (kept_in_movie_scale scale parts) ≡ None
movie_fits scale movie parts h fits none same =
    let found = none_found (are_whole movie.scale scale (kept_durations movie.tracks)) (long_check scale movie) (sym none) in
    subst (λ (m : PlacedMovie). first_limit (kept_in_movie_scale scale m) ≡ None) (sym same) (limits_told scale movie h fits found.0 ∙ found.1)

pub movie_short : (scale : ℕ) (movie parts : PlacedMovie) → AreParts movie → first_limit movie ≡ None → None ≡ movie_check scale movie → parts ≡ movie → All (λ track. All (CanLast parts.scale scale) (segments_in track.edits)) parts.tracks
movie_short scale movie parts h fits none same =
    subst (λ (m : PlacedMovie). All (λ track. All (CanLast m.scale scale) (segments_in track.edits)) m.tracks) (sym same)
    (short_in_scale scale movie (none_holds (limits (kept_in_movie_scale scale movie)) (movie_fits scale movie movie h fits none refl)).1.1.0)

pub movie_done : ColumnsAreKept → (scale : ℕ) (movie parts new : PlacedMovie) → AreParts movie → first_limit movie ≡ None → None ≡ movie_check scale movie → parts ≡ movie → new ≡ kept_in_movie_scale scale parts
    → Does {A = Unit {0}} Some (set_movie_scale scale) movie new (Ok tt)
movie_done law scale movie parts new h fits none same is =
    let found = none_found (are_whole movie.scale scale (kept_durations movie.tracks)) (long_check scale movie) (sym none) in
    done_so (set_movie_scale scale) movie (kept_in_movie_scale scale movie) new (are_whole movie.scale scale (kept_durations movie.tracks)) (first_limit (kept_in_movie_scale scale movie)) (answers_in_scale law scale movie h)
    (λ sizes hold. held_in_scale sizes scale movie hold) found.0 (movie_fits scale movie movie h fits none refl) (is ∙ ap (kept_in_movie_scale scale) same)

-- the first check that fails
pub whole_fails : (scale old : ℕ) (movie : PlacedMovie) (summary : Summary) (whole : Bool) → IsSummary (kept_chosen EachTrack movie.tracks) summary → old ≡ movie.scale
    → ((ticks : List ℕ) → IsGreatestCommon ticks summary.divisor → whole ≡ are_whole old scale ticks) → whole ≡ false → Some NotWhole ≡ movie_check scale movie
whole_fails scale old movie summary whole is same tells none =
    let mine : IsSummary movie.tracks summary = subst (λ (ts : List PlacedTrack). IsSummary ts summary) (all_chosen movie.tracks) is in
    let test : are_whole movie.scale scale (kept_durations movie.tracks) ≡ false = subst (λ (s : ℕ). are_whole s scale (kept_durations movie.tracks) ≡ false) same (sym (tells (kept_durations movie.tracks) mine.divisor) ∙ none) in
    rw test refl

pub whole_passes : (scale old : ℕ) (movie : PlacedMovie) (summary : Summary) (whole long : Bool) (result : Option Code) → first_limit movie ≡ None → IsSummary (kept_chosen EachTrack movie.tracks) summary → old ≡ movie.scale
    → ((ticks : List ℕ) → IsGreatestCommon ticks summary.divisor → whole ≡ are_whole old scale ticks) → whole ≡ true → long ≡ nat_le (2 ^ 62 * old) (summary.longest * scale) → result ≡ first_code ((long, DurationLimit) ∷ [])
    → result ≡ movie_check scale movie
whole_passes scale old movie summary whole long result fits is same tells all long_is found =
    let mine : IsSummary movie.tracks summary = subst (λ (ts : List PlacedTrack). IsSummary ts summary) (all_chosen movie.tracks) is in
    let test : are_whole movie.scale scale (kept_durations movie.tracks) ≡ true = subst (λ (s : ℕ). are_whole s scale (kept_durations movie.tracks) ≡ true) same (sym (tells (kept_durations movie.tracks) mine.divisor) ∙ all) in
    let told : long ≡ nat_le (2 ^ 62 * movie.scale) (greatest (map lasts movie.tracks) * scale) = long_is ∙ (ap (λ (s : ℕ). nat_le (2 ^ 62 * s) (summary.longest * scale)) same ∙ ap (λ (n : ℕ). nat_le (2 ^ 62 * movie.scale) (n * scale)) (longest_is movie summary fits is)) in
    found ∙ (ap (λ (b : Bool). first_code ((b, DurationLimit) ∷ [])) told ∙ rw test refl)
