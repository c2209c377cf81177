-- A movie with another track in the place of one.
use Rattle.std.proofs.Common.{◌≡◌, ◌≢◌, ℕ, zero, suc, ◌^◌, ◌<◌, ◌==◌, ◌||◌, nat_le, nat_lt, Bool, true, false, not, List, [], ◌∷◌, length, map, get_or, set, option_map, Option, Some, None, refl, sym, ap, ◌∙◌, subst, arith}
use Rattle.std.specs.Prelude.{Result, Ok, Err, if◌then◌else◌}
use Rattle.std.specs.List.{AllByRecursion, list_any}
use Rattle.std.proofs.lemmas.List.{length-map}
use Rattle.std.proofs.lemmas.List.Sums.{sum_by-cons}
use Rattle.mp_columns.specs.declared.columns.TheConstants.{MOST_ITEMS}
use Rattle.mp_ports.specs.declared.code.Code.{Code}
use Rattle.mp_ports.specs.declared.code.Code.TheVariants.{DeltaLimit, SizeLimit, EntryLimit, SegmentLimit, OffsetLimit, DurationLimit, NotWhole, NoTrack, StartLimit, SampleLimit, TrackLimit}
use Rattle.mp_ports.specs.declared.fault.Bad.{Bad}
use Rattle.mp_ports.specs.Checks.{bad_at, first_code, placed, unless}
use Rattle.mp_timeline.specs.declared.segment.Segment.{Segment}
use Rattle.mp_timeline.specs.declared.segment.Segment.TheVariants.{Empty, Media}
use Rattle.mp_timeline.specs.Movie.{TrackRecord, MovieRecord}
use Rattle.mp_edits.specs.EditBox.{segments_in}
use Rattle.mp_edits.specs.Segments.{duration, most_segments, starts_late, total}
use Rattle.mp_movie.specs.Limits.{most_tracks}
use Rattle.mp_movie.specs.Placed.{PlacedTrack, PlacedMovie}
use Rattle.mp_movie.specs.PartsFit.{first_limit, is_long, is_wide, limits, passes}
use Rattle.mp_movie.specs.PartsLaw.{ColumnsAreKept, PartsStandForMovies}
use Rattle.mp_movie.specs.StandsFor.{Hold, HoldTrack, stands_for, track_for}
use Rattle.mp_movie.specs.WholeParts.{AreColumns, AreParts, bare_track}
use Rattle.mp_movie.specs.WellFormed.{AreDistinct, IsWellFormedTrack}
use Rattle.track_ops.specs.Does.{Does}
use Rattle.track_ops.specs.Kept.{has_number}
use Rattle.track_ops.specs.KeptTimes.{CanSetScale, IsWholeIn, are_whole, column_in_scale, kept_in_track_scale, kept_retimed, kept_ticks, some_late_in, with_track}
use Rattle.track_ops.specs.Limits.{within_limits}
use Rattle.track_ops.specs.SetScales.{set_track_scale, where_whole}
use Rattle.track_ops.specs.Ticks.{in_track_scale, starting, track_times}
use Rattle.track_ops.specs.Tracks.{changed_at, of_track, where_found}
use Rattle.track_ops.proofs.AddedStands.{limit_stands}
use Rattle.track_ops.proofs.FitTicks.{early_fits, narrow_fits, short_fits}
use Rattle.track_ops.proofs.LimitsStay.{none_holds}
use Rattle.track_ops.proofs.Lists.{neither}
use Rattle.track_ops.proofs.PartsStay.{numbers_distinct, parts_stay, track_stays}
use Rattle.track_ops.proofs.Retimed.{columns_retimed, stands_retimed}
use Rattle.track_ops.proofs.SetAnswers.{Answers, answer, done_so, none_found, refused_by}
use Rattle.track_ops.proofs.StandsForTracks.{numbers_stand}
use Rattle.track_ops.proofs.TracksAt.{all_at, all_set, any_set, changed_only, found_at, length_set, map_at, map_set, not_found, same_set, sum_set}
use Rattle.track_ops.proofs.TrackTimes.{listed, ticks_whole, track_tested}

pub parts_with : (at : ℕ) (track new : PlacedTrack) (movie : PlacedMovie) → AreParts movie → at < length movie.tracks → IsWellFormedTrack movie.scale (bare_track new) → AreColumns new → new.number ≡ (get_or movie.tracks at track).number
    → AreParts (with_track at new movie)
parts_with at track new movie h lt formed columns same =
    parts_stay movie movie.scale (set movie.tracks at new) h h.bare.header.some_scale h.bare.header.timescale
    (subst (AllByRecursion (IsWellFormedTrack movie.scale)) (sym (map_set bare_track movie.tracks at new)) (all_set (IsWellFormedTrack movie.scale) (map bare_track movie.tracks) at (bare_track new) h.bare.tracks formed))
    (subst AreDistinct (sym (same_set (λ (t : PlacedTrack). t.number) movie.tracks at new track same)) (numbers_distinct movie h)) (all_set AreColumns movie.tracks at new h.columns columns)

pub none_at : (passes : PlacedTrack → Bool) (tracks : List PlacedTrack) (at : ℕ) (d : PlacedTrack) → at < length tracks → list_any passes tracks ≡ false → passes (get_or tracks at d) ≡ false
none_at passes [] at d lt none = absurd (omega (arith, lt))
none_at passes (t ∷ tracks) zero d lt none = (neither (passes t) (list_any passes tracks) none).0
none_at passes (t ∷ tracks) (suc at) d lt none = none_at passes tracks at d (omega (arith, lt)) (neither (passes t) (list_any passes tracks) none).1

pub five : (delta offset long start size many tracks entry segment : Bool) → size ≡ false → many ≡ false → tracks ≡ false → entry ≡ false
    → first_code (
    (delta, DeltaLimit)
    ∷ (offset, OffsetLimit)
    ∷ (long, DurationLimit)
    ∷ (start, StartLimit)
    ∷ (size, SizeLimit)
    ∷ (many, SampleLimit)
    ∷ (tracks, TrackLimit)
    ∷ (entry, EntryLimit)
    ∷ (segment, SegmentLimit)
    ∷ []
    )
    ≡ first_code ((delta, DeltaLimit) ∷ (offset, OffsetLimit) ∷ (long, DurationLimit) ∷ (start, StartLimit) ∷ (segment, SegmentLimit) ∷ [])
five delta offset long start size many tracks entry segment a b c d = rw (a, b, c, d) refl

three : (delta offset long start segment : Bool) → long ≡ false → segment ≡ false
    → first_code ((delta, DeltaLimit) ∷ (offset, OffsetLimit) ∷ (long, DurationLimit) ∷ (start, StartLimit) ∷ (segment, SegmentLimit) ∷ [])
    ≡ first_code ((delta, DeltaLimit) ∷ (offset, OffsetLimit) ∷ (start, StartLimit) ∷ [])
three delta offset long start segment a b = rw (a, b) refl

pub same_five : (a b c d e f g h i j : Bool) → a ≡ f → b ≡ g → c ≡ h → d ≡ i → e ≡ j
    → first_code ((a, DeltaLimit) ∷ (b, OffsetLimit) ∷ (c, DurationLimit) ∷ (d, StartLimit) ∷ (e, SegmentLimit) ∷ [])
    ≡ first_code ((f, DeltaLimit) ∷ (g, OffsetLimit) ∷ (h, DurationLimit) ∷ (i, StartLimit) ∷ (j, SegmentLimit) ∷ [])
same_five a b c d e f g h i j p q r s t = rw (p, q, r, s, t) refl

-- a track with other times and edits, in a movie that passes no limit
pub limit_retimed : (at scale : ℕ) (edits : Option (List Segment)) (track : PlacedTrack) (movie : PlacedMovie) → first_limit movie ≡ None → at < length movie.tracks → get_or movie.tracks at track ≡ track
    → first_limit (with_track at (kept_retimed scale edits track) movie)
    ≡ first_code ((is_long (column_in_scale track.scale scale track.deltas), DeltaLimit)
    ∷ (is_wide (column_in_scale track.scale scale track.offsets), OffsetLimit)
    ∷ (passes DurationLimit (kept_retimed scale edits track), DurationLimit)
    ∷ (list_any starts_late (segments_in edits), StartLimit)
    ∷ (nat_lt most_segments (length (segments_in edits)), SegmentLimit)
    ∷ [])
limit_retimed at scale edits track movie fits lt is =
    let tests = none_holds (limits movie) fits in
    five _ _ _ _ _ _ _ _ _ (set_to SizeLimit tests.1.1.1.1.0 ∙ was SizeLimit refl tests.1.1.1.1.0)
    (ap (λ (n : ℕ). nat_lt MOST_ITEMS n) (sum_set (λ (t : PlacedTrack). length t.deltas) movie.tracks at new track (length-map track.deltas _ ∙ ap (λ (t : PlacedTrack). length t.deltas) (sym is))) ∙ tests.1.1.1.1.1.0)
    (ap (λ (n : ℕ). nat_lt most_tracks n) (length_set movie.tracks at new) ∙ tests.1.1.1.1.1.1.0) (set_to EntryLimit tests.1.1.1.1.1.1.1.0 ∙ was EntryLimit refl tests.1.1.1.1.1.1.1.0)
    ∙ same_five _ _ _ _ _ _ _ _ _ _ (set_to DeltaLimit tests.0) (set_to OffsetLimit tests.1.0) (set_to DurationLimit tests.1.1.0) (set_to StartLimit tests.1.1.1.0) (set_to SegmentLimit tests.1.1.1.1.1.1.1.1.0)
  where
    new : PlacedTrack
    new = kept_retimed scale edits track

    set_to : (code : Code) → list_any (passes code) movie.tracks ≡ false → list_any (passes code) (set movie.tracks at new) ≡ passes code new
    set_to code none = any_set (passes code) movie.tracks at new lt none

    was : (code : Code) → passes code new ≡ passes code track → list_any (passes code) movie.tracks ≡ false → passes code new ≡ false
    was code same none = same ∙ (ap (passes code) (sym is) ∙ none_at (passes code) movie.tracks at track lt none)

-- where starts alone change, edits last as long as before
lasting_starts : (old new : ℕ) (segments : List Segment) → total (map (starting old new) segments) ≡ total segments
lasting_starts old new [] = refl
lasting_starts old new (segment ∷ segments) =
    let rest = lasting_starts old new segments in
    omega (arith, rest, one segment, sum_by-cons duration segment segments, sum_by-cons duration (starting old new segment) (map (starting old new) segments))
  where
    one : (segment : Segment) → duration (starting old new segment) ≡ duration segment
    one (Empty dur) = refl
    one (Media start dur) = refl

pub limit_set : (at scale : ℕ) (track : PlacedTrack) (movie : PlacedMovie) → first_limit movie ≡ None → at < length movie.tracks → get_or movie.tracks at track ≡ track
    → first_limit (with_track at (kept_in_track_scale scale track) movie)
    ≡ first_code ((is_long (column_in_scale track.scale scale track.deltas), DeltaLimit)
    ∷ (is_wide (column_in_scale track.scale scale track.offsets), OffsetLimit)
    ∷ (some_late_in track.scale scale (segments_in track.edits), StartLimit)
    ∷ [])
limit_set at scale track movie fits lt is =
    let tests = none_holds (limits movie) fits in
    limit_retimed at scale (option_map (map (starting track.scale scale)) track.edits) track movie fits lt is
    ∙ (three _ _ _ _ _ (long track.edits (ap (passes DurationLimit) (sym is) ∙ none_at (passes DurationLimit) movie.tracks at track lt tests.1.1.0))
    (many track.edits (ap (passes SegmentLimit) (sym is) ∙ none_at (passes SegmentLimit) movie.tracks at track lt tests.1.1.1.1.1.1.1.1.0)) ∙ ap code_of (same track.edits))
  where
    code_of : Bool → Option Code
    code_of late = first_code ((is_long (column_in_scale track.scale scale track.deltas), DeltaLimit) ∷ (is_wide (column_in_scale track.scale scale track.offsets), OffsetLimit) ∷ (late, StartLimit) ∷ [])

    long : (edits : Option (List Segment)) → passes DurationLimit (record track { edits = edits }) ≡ false
        → passes DurationLimit (kept_retimed scale (option_map (map (starting track.scale scale)) edits) track) ≡ false
    long None none = none
    long (Some segments) none = ap (λ (n : ℕ). nat_le (2 ^ 62) n) (lasting_starts track.scale scale segments) ∙ none

    many : (edits : Option (List Segment)) → passes SegmentLimit (record track { edits = edits }) ≡ false → nat_lt most_segments (length (segments_in (option_map (map (starting track.scale scale)) edits))) ≡ false
    many None none = none
    many (Some segments) none = ap (λ (n : ℕ). nat_lt most_segments n) (length-map segments (starting track.scale scale)) ∙ none

    same : (edits : Option (List Segment)) → list_any starts_late (segments_in (option_map (map (starting track.scale scale)) edits)) ≡ some_late_in track.scale scale (segments_in edits)
    same None = refl
    same (Some segments) = any_mapped segments
      where
        any_mapped : (segments : List Segment) → list_any starts_late (map (starting track.scale scale) segments) ≡ some_late_in track.scale scale segments
        any_mapped [] = refl
        any_mapped (segment ∷ segments) = ap (λ (b : Bool). starts_late (starting track.scale scale segment) || b) (any_mapped segments)

pub held_with : (sizes : List ℕ) (at scale : ℕ) (edits : Option (List Segment)) (track : PlacedTrack) (movie : PlacedMovie) → at < length movie.tracks → get_or movie.tracks at track ≡ track → Hold sizes movie
    → Hold sizes (with_track at (kept_retimed scale edits track) movie)
held_with sizes at scale edits track movie lt is hold =
    all_set (HoldTrack sizes) movie.tracks at (kept_retimed scale edits track) hold (subst (HoldTrack sizes) is (all_at (HoldTrack sizes) movie.tracks at track lt hold))

-- what the track of that number, found at that place, stands for
map_id : {A : Type 0} (xs : List A) → map (λ x. x) xs ≡ xs
map_id [] = refl
map_id {A = A} (x ∷ xs) = ap (λ (ys : List A). x ∷ ys) (map_id xs)

module _ (files : List (List ℕ)) (number at : ℕ) (track : PlacedTrack) (movie : PlacedMovie) (h : AreParts movie) (lt : at < length movie.tracks) (is : get_or movie.tracks at track ≡ track) (numbered : track.number ≡ number) where
  distinct : AreDistinct (map (λ (t : TrackRecord). t.number) (map (track_for files) movie.tracks))
  distinct = subst AreDistinct (sym (numbers_stand files movie.tracks)) (numbers_distinct movie h)

  there : get_or (map (track_for files) movie.tracks) at (track_for files track) ≡ track_for files track
  there = map_at (track_for files) movie.tracks at track (track_for files track) lt ∙ ap (track_for files) is

  inside : at < length (map (track_for files) movie.tracks)
  inside = subst (λ (n : ℕ). at < n) (sym (length-map movie.tracks (track_for files))) lt

  pub found : (wanted : TrackRecord → Result MovieRecord Code) → of_track number wanted (stands_for files movie) ≡ wanted (track_for files track)
  found wanted =
      ap (where_found wanted) (found_at (λ (t : TrackRecord). t.number) number (map (track_for files) movie.tracks) at (track_for files track) distinct inside (ap (λ (t : TrackRecord). t.number) there ∙ numbered) ∙ ap Some there)

  pub changed : (change keep : TrackRecord → TrackRecord)
      → map (λ t. if t.number == number then change t else keep t) (map (track_for files) movie.tracks) ≡ set (map keep (map (track_for files) movie.tracks)) at (change (track_for files track))
  changed change keep =
      changed_only (λ (t : TrackRecord). t.number) number change keep (map (track_for files) movie.tracks) at (track_for files track) distinct inside (ap (λ (t : TrackRecord). t.number) there ∙ numbered)
      ∙ ap (λ (t : TrackRecord). set (map keep (map (track_for files) movie.tracks)) at (change t)) there

pub track_whole : (movie : PlacedMovie) (at : ℕ) (track : PlacedTrack) → AreParts movie → at < length movie.tracks → get_or movie.tracks at track ≡ track → AreColumns track
track_whole movie at track h lt is = subst AreColumns is (all_at AreColumns movie.tracks at track lt h.columns)

-- the command that sets the track's scale
pub answers_set : ColumnsAreKept → PartsStandForMovies → (number at scale : ℕ) (track : PlacedTrack) (movie : PlacedMovie) → AreParts movie → at < length movie.tracks → get_or movie.tracks at track ≡ track → track.number ≡ number
    → Answers (set_track_scale number scale) movie (are_whole track.scale scale (kept_ticks track)) (first_limit (with_track at (kept_in_track_scale scale track) movie)) (with_track at (kept_in_track_scale scale track) movie)
answers_set law stand number at scale track movie h lt is numbered files hold =
    found files number at track movie h lt is numbered (λ t. where_whole scale (track_times t) made)
    ∙ (ap (λ (b : Bool). if b then within_limits made else Err NotWhole) (track_tested law files scale track columns formed.times) ∙ by (are_whole track.scale scale (kept_ticks track)) refl)
  where
    made : MovieRecord
    made = record (stands_for files movie) { tracks = changed_at number (in_track_scale scale) (map (track_for files) movie.tracks) }

    kept : PlacedMovie
    kept = with_track at (kept_in_track_scale scale track) movie

    edits : Option (List Segment)
    edits = option_map (map (starting track.scale scale)) track.edits

    columns : AreColumns track
    columns = track_whole movie at track h lt is

    formed : IsWellFormedTrack movie.scale (track_for files track)
    formed =
        subst (IsWellFormedTrack movie.scale) (there files number at track movie h lt is numbered)
        (all_at (IsWellFormedTrack movie.scale) (map (track_for files) movie.tracks) at (track_for files track) (inside files number at track movie h lt is numbered) (stand.well_formed files movie h).tracks)

    same : are_whole track.scale scale (kept_ticks track) ≡ true → made ≡ stands_for files kept
    same whole =
        let parts = ticks_whole scale track whole in
        ap (λ (tracks : List TrackRecord). record (stands_for files movie) { tracks = tracks })
        (changed files number at track movie h lt is numbered (in_track_scale scale) (λ t. t)
        ∙ (ap (λ (tracks : List TrackRecord). set tracks at (in_track_scale scale (track_for files track))) (map_id (map (track_for files) movie.tracks))
        ∙ (ap (λ (t : TrackRecord). set (map (track_for files) movie.tracks) at t)
        (sym (stands_retimed files track scale edits formed.media.some_scale (listed (IsWholeIn track.scale scale) track.deltas parts.0) (listed (IsWholeIn track.scale scale) track.offsets parts.1)))
        ∙ sym (map_set (track_for files) movie.tracks at (kept_in_track_scale scale track)))))

    by : (b : Bool) → are_whole track.scale scale (kept_ticks track) ≡ b → (if b then within_limits made else Err NotWhole) ≡ answer b (first_limit kept) (stands_for files kept)
    by false e = refl
    by true e =
        ap within_limits (same e)
        ∙ ap (λ (code : Option Code). unless code (stands_for files kept))
        (limit_stands law files kept (all_set AreColumns movie.tracks at (kept_in_track_scale scale track) h.columns (columns_retimed track scale edits columns))
        (held_with (map length files) at scale edits track movie lt is hold))

-- ---- the command

abbrev pub track_checks : ℕ → PlacedTrack → List (Bool × Code)
track_checks scale track =
    (is_long (column_in_scale track.scale scale track.deltas), DeltaLimit)
    ∷ (is_wide (column_in_scale track.scale scale track.offsets), OffsetLimit)
    ∷ (some_late_in track.scale scale (segments_in track.edits), StartLimit)
    ∷ []

-- what is asked before: whether all is whole, and the limits
abbrev pub track_check : ℕ → PlacedTrack → Option Code
track_check scale track = first_code ((not (are_whole track.scale scale (kept_ticks track)), NotWhole) ∷ track_checks scale track)

none_of_three : (a b c : Bool) (p q r : Code) → first_code ((a, p) ∷ (b, q) ∷ (c, r) ∷ []) ≡ None → (a ≡ false) × (b ≡ false) × (c ≡ false)
none_of_three true b c p q r none = cc
none_of_three false true c p q r none = cc
none_of_three false false true p q r none = cc
none_of_three false false false p q r none = (refl, refl, refl)

pub track_can : (scale : ℕ) (track : PlacedTrack) → 0 < track.scale → None ≡ track_check scale track → CanSetScale scale track
track_can scale track some none =
    let found = none_found (are_whole track.scale scale (kept_ticks track)) (track_checks scale track) (sym none) in
    let parts = ticks_whole scale track found.0 in
    let limits = none_of_three _ _ _ DeltaLimit OffsetLimit StartLimit found.1 in
    record {
      some = some;
      columns = record {
        whole = listed (IsWholeIn track.scale scale) track.deltas parts.0;
        whole_offsets = listed (IsWholeIn track.scale scale) track.offsets parts.1;
        short = short_fits track.scale scale track.deltas limits.0;
        narrow = narrow_fits track.scale scale track.offsets limits.1;
      };
      early = early_fits track.scale scale (segments_in track.edits) limits.2;
    }

-- the track at the place of the number
pub record IsThere (number at : ℕ) (track : PlacedTrack) (movie : PlacedMovie) : Type 0 where
  pub whole : AreParts movie
  pub fits : first_limit movie ≡ None
  pub inside : at < length movie.tracks
  pub is : get_or movie.tracks at track ≡ track
  pub numbered : track.number ≡ number

pub track_some : (number at : ℕ) (track : PlacedTrack) (movie : PlacedMovie) → IsThere number at track movie → 0 < track.scale
track_some number at track movie h =
    subst (λ (t : PlacedTrack). 0 < t.scale) h.is
    (formed_at movie.tracks h.whole.bare.tracks at h.inside)
  where
    formed_at : (tracks : List PlacedTrack) → AllByRecursion (IsWellFormedTrack movie.scale) (map bare_track tracks) → (i : ℕ) → i < length tracks → 0 < (get_or tracks i track).scale
    formed_at [] all i lt = absurd (omega (arith, lt))
    formed_at (t ∷ tracks) all zero lt = all.0.media.some_scale
    formed_at (t ∷ tracks) all (suc i) lt = formed_at tracks all.1 i (omega (arith, lt))

pub formed_track_at : (number at : ℕ) (track : PlacedTrack) (movie : PlacedMovie) → IsThere number at track movie → IsWellFormedTrack movie.scale (bare_track track)
formed_track_at number at track movie h = subst (λ (t : PlacedTrack). IsWellFormedTrack movie.scale (bare_track t)) h.is (formed_at movie.tracks h.whole.bare.tracks at h.inside)
  where
    formed_at : (tracks : List PlacedTrack) → AllByRecursion (IsWellFormedTrack movie.scale) (map bare_track tracks) → (i : ℕ) → i < length tracks → IsWellFormedTrack movie.scale (bare_track (get_or tracks i track))
    formed_at [] all i lt = absurd (omega (arith, lt))
    formed_at (t ∷ tracks) all zero lt = all.0
    formed_at (t ∷ tracks) all (suc i) lt = formed_at tracks all.1 i (omega (arith, lt))

pub set_refused : ColumnsAreKept → PartsStandForMovies → (number at scale : ℕ) (track : PlacedTrack) (movie : PlacedMovie) (code : Code) (bad : Bad) → IsThere number at track movie → Some code ≡ track_check scale track → bad ≡ bad_at code 0
    → Does {A = Unit {0}} Some (set_track_scale number scale) movie movie (Err bad)
set_refused law stand number at scale track movie code bad h fault is =
    refused_by (set_track_scale number scale) movie (with_track at (kept_in_track_scale scale track) movie) (are_whole track.scale scale (kept_ticks track)) (track_checks scale track) code bad
    (answers_set law stand number at scale track movie h.whole h.inside h.is h.numbered) (λ whole. limit_set at scale track movie h.fits h.inside h.is) (sym fault) is

pub set_fits : (number at scale : ℕ) (track : PlacedTrack) (movie : PlacedMovie) → IsThere number at track movie → None ≡ track_check scale track → first_limit (with_track at (kept_in_track_scale scale track) movie) ≡ None
set_fits number at scale track movie h none =
    limit_set at scale track movie h.fits h.inside h.is ∙ (none_found (are_whole track.scale scale (kept_ticks track)) (track_checks scale track) (sym none)).1

pub set_whole : (number at scale : ℕ) (track : PlacedTrack) (movie : PlacedMovie) → IsThere number at track movie → 0 < scale → scale < 2 ^ 32 → AreParts (with_track at (kept_in_track_scale scale track) movie)
set_whole number at scale track movie h some short =
    let formed = formed_track_at number at track movie h in
    parts_with at track (kept_in_track_scale scale track) movie h.whole h.inside
    (track_stays movie.scale movie.scale (bare_track track) track.number track.head.flags track.head.language scale (option_map (map (starting track.scale scale)) track.edits) formed formed.number formed.header.number formed.header.flags
    formed.media.language some short (some_edits track.edits formed.edits)) (columns_retimed track scale (option_map (map (starting track.scale scale)) track.edits) (track_whole movie at track h.whole h.inside h.is))
    (ap (λ (t : PlacedTrack). t.number) (sym h.is))
  where
    some_edits : (edits : Option (List Segment)) → edits ≢ Some [] → option_map (map (starting track.scale scale)) edits ≢ Some []
    some_edits None some = λ same. cc
    some_edits (Some []) some = absurd (some refl)
    some_edits (Some (segment ∷ segments)) some = λ same. cc

pub set_done : ColumnsAreKept → PartsStandForMovies → (number at scale : ℕ) (track : PlacedTrack) (movie new : PlacedMovie) → IsThere number at track movie → None ≡ track_check scale track → new ≡ with_track at (kept_in_track_scale scale track) movie
    → Does {A = Unit {0}} Some (set_track_scale number scale) movie new (Ok tt)
set_done law stand number at scale track movie new h none is =
    done_so (set_track_scale number scale) movie (with_track at (kept_in_track_scale scale track) movie) new (are_whole track.scale scale (kept_ticks track)) (first_limit (with_track at (kept_in_track_scale scale track) movie))
    (answers_set law stand number at scale track movie h.whole h.inside h.is h.numbered) (λ sizes hold. held_with sizes at scale (option_map (map (starting track.scale scale)) track.edits) track movie h.inside h.is hold)
    (none_found (are_whole track.scale scale (kept_ticks track)) (track_checks scale track) (sym none)).0 (set_fits number at scale track movie h none) is

-- no track has the number
pub no_such : (files : List (List ℕ)) (number : ℕ) (movie : PlacedMovie) (wanted : TrackRecord → Result MovieRecord Code) → has_number number movie.tracks ≡ false → of_track number wanted (stands_for files movie) ≡ Err NoTrack
no_such files number movie wanted none = ap (where_found wanted) (not_found (λ (t : TrackRecord). t.number) number (map (track_for files) movie.tracks) (any_stand movie.tracks ∙ none))
  where
    any_stand : (tracks : List PlacedTrack) → list_any (λ t. t.number == number) (map (track_for files) tracks) ≡ has_number number tracks
    any_stand [] = refl
    any_stand (track ∷ tracks) = ap (λ (b : Bool). (track.number == number) || b) (any_stand tracks)

pub refused_number : (number scale : ℕ) (movie : PlacedMovie) (bad : Bad) → has_number number movie.tracks ≡ false → bad ≡ bad_at NoTrack 0 → Does {A = Unit {0}} Some (set_track_scale number scale) movie movie (Err bad)
refused_number number scale movie bad none is =
    rw is (record { gives = λ files hold. ap (placed 0) (no_such files number movie _ none); held = λ sizes hold. hold; same = refl })

pub is_there : (number at : ℕ) (track : PlacedTrack) (movie : PlacedMovie) (tracks : List PlacedTrack) → AreParts movie → first_limit movie ≡ None → tracks ≡ movie.tracks → at < length tracks
    → ((d : PlacedTrack) → (get_or tracks at d).number ≡ number) → get_or tracks at track ≡ track → IsThere number at track movie
is_there number at track movie tracks h fits same lt numbered is = record {
  whole = h;
  fits = fits;
  inside = subst (λ (ts : List PlacedTrack). at < length ts) same lt;
  is = subst (λ (ts : List PlacedTrack). get_or ts at track ≡ track) same is;
  numbered = ap (λ (t : PlacedTrack). t.number) (sym is) ∙ numbered track;
}
