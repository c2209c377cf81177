-- Parts are within the limits exactly where the movie that they stand for is, where files hold its pieces.
use Rattle.std.proofs.Common.{◌≡◌, ℕ, ℤ, zero, suc, pos, negsuc, ◌+◌, ◌-◌, ◌*◌, ◌^◌, ◌<◌, ◌≤◌, ◌||◌, ◌&&◌, not, Bool, true, false, List, [], ◌∷◌, length, map, take, get_or, refl, sym, ap, ◌∙◌, arith, subst, Option, Some, None, inl, inr, ◌⊎◌, nat_lt, nat_le}
use Rattle.std.specs.Prelude.{All, FitsSigned, slice_index, unsigned_abs, IfSome}
use Rattle.std.specs.List.{AllByRecursion, list_all, list_any, range_with_len, sum_by}
use Rattle.std.specs.Int.{w32, FitsUnsigned}
use Rattle.std.proofs.lemmas.Int.{ints}
use Rattle.std.proofs.Common.{ltb-true}
use Rattle.std.proofs.lemmas.Bool.{ltb-false, le-ltb, leb-false, lt-leb, leb-true, le-leb, lt-ltb}
use Rattle.std.proofs.lemmas.List.{length-map, get_or_default}
use Rattle.std.proofs.lemmas.List.FromFn.{get_or-map-range_with_len}
use Rattle.std.proofs.lemmas.List.Sums.{sum_by-cons}
use Rattle.mp_columns.specs.Numbers.{largest}
use Rattle.mp_columns.specs.declared.columns.TheConstants.{MOST_ITEMS}
use Rattle.mp_times.specs.Written.{FitOffsets, is_unsigned}
use Rattle.mp_timeline.specs.declared.segment.Segment.{Segment}
use Rattle.mp_timeline.specs.Movie.{SampleRecord, TrackRecord, MovieRecord}
use Rattle.mp_entries.specs.Description.{most_entries}
use Rattle.mp_edits.specs.EditBox.{segments_in}
use Rattle.mp_edits.specs.Segments.{most_segments, starts_late, total}
use Rattle.mp_movie.specs.Columns.{composition_offsets}
use Rattle.mp_movie.specs.Limits.{Fits, FitsEdits, FitsTrack, most_tracks}
use Rattle.mp_movie.specs.Placed.{PlacedTrack, PlacedMovie, naturals, sample_count}
use Rattle.mp_movie.specs.StandsFor.{Hold, HoldTrack, sample_at, samples_of, stands_for, track_for}
use Rattle.mp_movie.specs.WholeParts.{AreColumns, AreParts}
use Rattle.mp_ports.specs.declared.code.Code.TheVariants.{DeltaLimit, SizeLimit, EntryLimit, SegmentLimit, OffsetLimit, DurationLimit, StartLimit}
use Rattle.mp_movie.specs.PartsFit.{first_limit, is_long, is_signed, is_wide, limits, passes}
use Rattle.mp_movie.specs.PartsLaw.{AreWithinLimits, ColumnsAreKept, LimitsAreOfTracks}
use Rattle.mp_movie.proofs.ColumnsInNumbers.{at_place, by_recursion, each_within, largest_within}
use Rattle.mp_movie.proofs.ColumnsAreKept.{columns_are_kept, count_is, delta_at, size_at}
use Rattle.mp_movie.proofs.LimitsInOrder.{NoneHolds, each_fails, no_code, none_holds, none_passes}
use Rattle.mp_movie.proofs.PartsAreMovies.{each_sample}

-- ---- columns of 32 bits

-- each number of a column that isn't long
pub small_item : (column : List ℤ) (i : ℕ) → is_long column ≡ false → i < length column → unsigned_abs (get_or column i (pos 0)) < 2 ^ 32
small_item column i short lt =
    let small = at_place (λ (x : ℤ). unsigned_abs x ≤ 2 ^ 32 - 1) column i (pos 0) (each_within (2 ^ 32 - 1) column (ltb-false (2 ^ 32 - 1) (largest column) short)) lt in
    omega (arith, small)

-- and the other way round
not_long : (column : List ℤ) → ((i : ℕ) → i < length column → unsigned_abs (get_or column i (pos 0)) < 2 ^ 32) → is_long column ≡ false
not_long column each =
    le-ltb (2 ^ 32 - 1) (largest column)
    (largest_within (2 ^ 32 - 1) column (by_recursion (λ (x : ℤ). unsigned_abs x ≤ 2 ^ 32 - 1) column (λ i d lt. subst (λ (x : ℤ). unsigned_abs x ≤ 2 ^ 32 - 1) (sym (get_or_default column i d (pos 0) lt)) (within i lt))))
  where
    within : (i : ℕ) → i < length column → unsigned_abs (get_or column i (pos 0)) ≤ 2 ^ 32 - 1
    within i lt = omega (arith, each i lt)

sample_is : (files : List (List ℕ)) (track : PlacedTrack) (i : ℕ) (d : SampleRecord) → i < length track.deltas → get_or (samples_of files track) i d ≡ sample_at files track i
unfolding samples_of
sample_is files track i d lt = get_or-map-range_with_len (sample_at files track) 0 (length track.deltas) i i d lt (omega arith)

-- what holds of the samples holds of each
of_each : (P : SampleRecord → Type 0) (files : List (List ℕ)) (track : PlacedTrack) (i : ℕ) → AllByRecursion P (samples_of files track) → i < length track.deltas → P (sample_at files track i)
of_each P files track i all lt =
    subst P (sample_is files track i (sample_at files track i) lt) (at_place P (samples_of files track) i (sample_at files track i) all (omega (arith, lt, count_is files track)))

-- ---- offsets

both : (a b : Bool) → (a && b) ≡ true → (a ≡ true) × (b ≡ true)
both true b all = (refl, all)
both false b all = cc

each_unsigned : (offset : ℤ) → is_unsigned offset ≡ true → FitsUnsigned w32 offset
each_unsigned (pos n) fits = let small = leb-true n (2 ^ 32 - 1) fits in omega (arith, ints, small)
each_unsigned (negsuc n) fits = cc

each_signed : (offset : ℤ) → is_signed offset ≡ true → FitsSigned w32 offset
each_signed (pos n) fits = let small = ltb-true n (2 ^ 31) fits in omega (arith, ints, small)
each_signed (negsuc n) fits = let small = ltb-true n (2 ^ 31) fits in omega (arith, ints, small)

unsigned_test : (offset : ℤ) → FitsUnsigned w32 offset → is_unsigned offset ≡ true
unsigned_test (pos n) fits = le-leb n (2 ^ 32 - 1) (omega (arith, ints, fits.1))
unsigned_test (negsuc n) fits = absurd (omega (arith, ints, fits.0))

signed_test : (offset : ℤ) → FitsSigned w32 offset → is_signed offset ≡ true
signed_test (pos n) fits = lt-ltb n (2 ^ 31) (omega (arith, ints, fits))
signed_test (negsuc n) fits = lt-ltb n (2 ^ 31) (omega (arith, ints, fits))

-- a test of each item
all_pass : (test : ℤ → Bool) (P : ℤ → Type 0) (xs : List ℤ) → ((x : ℤ) → test x ≡ true → P x) → list_all test xs ≡ true → All P xs
all_pass test P [] each all i d lt = absurd (omega arith)
all_pass test P (x ∷ xs) each all zero d lt = each x (both (test x) (list_all test xs) all).0
all_pass test P (x ∷ xs) each all (suc i) d lt = all_pass test P xs each (both (test x) (list_all test xs) all).1 i d (omega arith)

all_tests : (test : ℤ → Bool) (P : ℤ → Type 0) (xs : List ℤ) → ((x : ℤ) → P x → test x ≡ true) → AllByRecursion P xs → list_all test xs ≡ true
all_tests test P [] each all = refl
all_tests test P (x ∷ xs) each all = rw (each x all.0) (all_tests test P xs each all.1)

pub offsets_fit : (offsets : List ℤ) → is_wide offsets ≡ false → FitOffsets offsets
offsets_fit offsets narrow = by (list_all is_unsigned offsets) (list_all is_signed offsets) refl refl narrow
  where
    by : (u s : Bool) → list_all is_unsigned offsets ≡ u → list_all is_signed offsets ≡ s → (not u && not s) ≡ false → FitOffsets offsets
    by true s unsigned signed e = inl (all_pass is_unsigned (FitsUnsigned w32) offsets each_unsigned unsigned)
    by false true unsigned signed e = inr (all_pass is_signed (FitsSigned w32) offsets each_signed signed)
    by false false unsigned signed e = cc

either : (u s : Bool) → (u ≡ true) ⊎ (s ≡ true) → (not u && not s) ≡ false
either true s one = refl
either false true one = refl
either false false (inl one) = cc
either false false (inr one) = cc

not_wide : (offsets : List ℤ) → FitOffsets offsets → is_wide offsets ≡ false
not_wide offsets (inl fits) = either (list_all is_unsigned offsets) (list_all is_signed offsets) (inl (all_tests is_unsigned (FitsUnsigned w32) offsets unsigned_test (by_recursion (FitsUnsigned w32) offsets fits)))
not_wide offsets (inr fits) = either (list_all is_unsigned offsets) (list_all is_signed offsets) (inr (all_tests is_signed (FitsSigned w32) offsets signed_test (by_recursion (FitsSigned w32) offsets fits)))

-- ---- edits

pub edits_fit : (edits : Option (List Segment)) → nat_le (2 ^ 62) (total (segments_in edits)) ≡ false → list_any starts_late (segments_in edits) ≡ false → nat_lt most_segments (length (segments_in edits)) ≡ false
    → IfSome edits FitsEdits
edits_fit None short early few = tt
edits_fit (Some edits) short early few = record { short = leb-false (2 ^ 62) (total edits) short; early = early; few = ltb-false most_segments (length edits) few }

short_edits : (edits : Option (List Segment)) → IfSome edits FitsEdits → nat_le (2 ^ 62) (total (segments_in edits)) ≡ false
short_edits None h = refl
short_edits (Some edits) h = lt-leb (2 ^ 62) (total edits) h.short

early_edits : (edits : Option (List Segment)) → IfSome edits FitsEdits → list_any starts_late (segments_in edits) ≡ false
early_edits None h = refl
early_edits (Some edits) h = h.early

few_edits : (edits : Option (List Segment)) → IfSome edits FitsEdits → nat_lt most_segments (length (segments_in edits)) ≡ false
few_edits None h = refl
few_edits (Some edits) h = le-ltb most_segments (length edits) h.few

-- ---- a track

-- none of the limits of a track is passed
pub record PassesNone (track : PlacedTrack) : Type 0 where
  pub durations : passes DeltaLimit track ≡ false
  pub offsets : passes OffsetLimit track ≡ false
  pub short : passes DurationLimit track ≡ false
  pub early : passes StartLimit track ≡ false
  pub sizes : passes SizeLimit track ≡ false
  pub entries : passes EntryLimit track ≡ false
  pub segments : passes SegmentLimit track ≡ false

short_sample : (files : List (List ℕ)) (track : PlacedTrack) (i : ℕ) → AreColumns track → passes DeltaLimit track ≡ false → i < length track.deltas → (sample_at files track i).dur < 2 ^ 32
short_sample files track i h short lt = let small = small_item track.deltas i short lt in let same = delta_at files track i h lt in omega (arith, ints, small, same)

small_sample : (files : List (List ℕ)) (track : PlacedTrack) (i : ℕ) → AreColumns track → HoldTrack (map length files) track → passes SizeLimit track ≡ false → i < length track.deltas
    → length (sample_at files track i).bytes < 2 ^ 32
small_sample files track i h hold short lt =
    let small = small_item track.sizes i short (omega (arith, lt, h.sizes_len)) in
    let same = size_at files track i h hold lt in
    omega (arith, ints, small, same)

track_fits : (files : List (List ℕ)) (track : PlacedTrack) → AreColumns track → HoldTrack (map length files) track → PassesNone track → FitsTrack (track_for files track)
track_fits files track h hold p = record {
  durations = each_sample (λ (s : SampleRecord). s.dur < 2 ^ 32) files track (λ i lt. short_sample files track i h p.durations lt);
  offsets = subst FitOffsets (sym (columns_are_kept.offsets files track h)) (offsets_fit track.offsets p.offsets);
  edits = edits_fit track.edits p.short p.early p.segments;
  sizes = each_sample (λ (s : SampleRecord). length s.bytes < 2 ^ 32) files track (λ i lt. small_sample files track i h hold p.sizes lt);
  entries = ltb-false most_entries (length track.entries) p.entries;
}

track_passes : (files : List (List ℕ)) (track : PlacedTrack) → AreColumns track → HoldTrack (map length files) track → FitsTrack (track_for files track) → PassesNone track
track_passes files track h hold fits = record {
  durations = not_long track.deltas (λ i lt.
      let small = of_each (λ (s : SampleRecord). s.dur < 2 ^ 32) files track i fits.durations lt in
      let same = delta_at files track i h lt in
      omega (arith, ints, small, same));
  offsets = not_wide track.offsets (subst FitOffsets (columns_are_kept.offsets files track h) fits.offsets);
  short = short_edits track.edits fits.edits;
  early = early_edits track.edits fits.edits;
  sizes = not_long track.sizes (λ i lt.
      let inside : i < length track.deltas = omega (arith, lt, h.sizes_len) in
      let small = of_each (λ (s : SampleRecord). length s.bytes < 2 ^ 32) files track i fits.sizes inside in
      let same = size_at files track i h hold inside in
      omega (arith, ints, small, same));
  entries = le-ltb most_entries (length track.entries) fits.entries;
  segments = few_edits track.edits fits.edits;
}

-- ---- all tracks

tracks_fit : (files : List (List ℕ)) (tracks : List PlacedTrack) → AllByRecursion AreColumns tracks → AllByRecursion (HoldTrack (map length files)) tracks → AllByRecursion PassesNone tracks
    → AllByRecursion FitsTrack (map (track_for files) tracks)
tracks_fit files [] h hold p = tt
tracks_fit files (track ∷ tracks) h hold p = (track_fits files track h.0 hold.0 p.0, tracks_fit files tracks h.1 hold.1 p.1)

tracks_pass : (files : List (List ℕ)) (tracks : List PlacedTrack) → AllByRecursion AreColumns tracks → AllByRecursion (HoldTrack (map length files)) tracks → AllByRecursion FitsTrack (map (track_for files) tracks)
    → AllByRecursion PassesNone tracks
tracks_pass files [] h hold fits = tt
tracks_pass files (track ∷ tracks) h hold fits = (track_passes files track h.0 hold.0 fits.0, tracks_pass files tracks h.1 hold.1 fits.1)

-- tests of all tracks, track by track
abbrev Fails : (PlacedTrack → Bool) → List PlacedTrack → Type 0
Fails test tracks = AllByRecursion (λ track. test track ≡ false) tracks

by_track : (tracks : List PlacedTrack) → Fails (passes DeltaLimit) tracks → Fails (passes OffsetLimit) tracks → Fails (passes DurationLimit) tracks → Fails (passes StartLimit) tracks → Fails (passes SizeLimit) tracks
    → Fails (passes EntryLimit) tracks → Fails (passes SegmentLimit) tracks → AllByRecursion PassesNone tracks
by_track [] a b c d e f g = tt
by_track (track ∷ tracks) a b c d e f g =
    (record { durations = a.0; offsets = b.0; short = c.0; early = d.0; sizes = e.0; entries = f.0; segments = g.0 }, by_track tracks a.1 b.1 c.1 d.1 e.1 f.1 g.1)

by_test : (test : PlacedTrack → Bool) (tracks : List PlacedTrack) → ((track : PlacedTrack) → PassesNone track → test track ≡ false) → AllByRecursion PassesNone tracks → list_any test tracks ≡ false
by_test test [] each all = refl
by_test test (track ∷ tracks) each all = rw (each track all.0) (by_test test tracks each all.1)

-- the tracks have as many samples together
count_for : (files : List (List ℕ)) (tracks : List PlacedTrack) → sum_by (λ (t : TrackRecord). length t.samples) (map (track_for files) tracks) ≡ sample_count tracks
count_for files [] = refl
count_for files (track ∷ tracks) =
    omega (
      arith,
      count_is files track,
      count_for files tracks,
      sum_by-cons (λ (t : TrackRecord). length t.samples) (track_for files track) (map (track_for files) tracks),
      sum_by-cons (λ (t : PlacedTrack). length t.deltas) track tracks,
    )

-- where the movie passes no limit, none of its tracks does
pub none_passed : (movie : PlacedMovie) → first_limit movie ≡ None → AllByRecursion PassesNone movie.tracks
none_passed movie none =
    let tests = none_holds (limits movie) none in
    let tracks = movie.tracks in
    by_track tracks (each_fails (passes DeltaLimit) tracks tests.0) (each_fails (passes OffsetLimit) tracks tests.1.0) (each_fails (passes DurationLimit) tracks tests.1.1.0) (each_fails (passes StartLimit) tracks tests.1.1.1.0)
    (each_fails (passes SizeLimit) tracks tests.1.1.1.1.0) (each_fails (passes EntryLimit) tracks tests.1.1.1.1.1.1.1.0) (each_fails (passes SegmentLimit) tracks tests.1.1.1.1.1.1.1.1.0)

pub fits : (files : List (List ℕ)) (movie : PlacedMovie) → AreParts movie → Hold (map length files) movie → first_limit movie ≡ None → Fits (stands_for files movie)
fits files movie h hold none =
    let passed = none_passed movie none in
    let tests = none_holds (limits movie) none in
    let tracks = movie.tracks in
    let count = ltb-false MOST_ITEMS (sample_count tracks) tests.1.1.1.1.1.0 in
    let some = ltb-false most_tracks (length tracks) tests.1.1.1.1.1.1.0 in
    record {
      each = tracks_fit files tracks h.columns hold passed;
      samples = omega (arith, count, count_for files tracks);
      tracks = omega (arith, some, length-map tracks (track_for files));
    }

-- and the other way round
pub none_passes_any : (movie : PlacedMovie) → AllByRecursion PassesNone movie.tracks → sample_count movie.tracks ≤ MOST_ITEMS → length movie.tracks ≤ most_tracks → first_limit movie ≡ None
none_passes_any movie passed few some =
    let tracks = movie.tracks in
    no_code (limits movie) (
      by_test (passes DeltaLimit) tracks (λ track p. p.durations) passed,
      (
        by_test (passes OffsetLimit) tracks (λ track p. p.offsets) passed,
        (
          by_test (passes DurationLimit) tracks (λ track p. p.short) passed,
          (
            by_test (passes StartLimit) tracks (λ track p. p.early) passed,
            (
              by_test (passes SizeLimit) tracks (λ track p. p.sizes) passed,
              (
                le-ltb MOST_ITEMS (sample_count tracks) few,
                (
                  le-ltb most_tracks (length tracks) some,
                  (
                    by_test (passes EntryLimit) tracks (λ track p. p.entries) passed,
                    (
                      by_test (passes SegmentLimit) tracks (λ track p. p.segments) passed,
                      tt,
                    ),
                  ),
                ),
              ),
            ),
          ),
        ),
      ),
    )

pub limited : (files : List (List ℕ)) (movie : PlacedMovie) → AreParts movie → Hold (map length files) movie → Fits (stands_for files movie) → first_limit movie ≡ None
limited files movie h hold within =
    let tracks = movie.tracks in
    none_passes_any movie (tracks_pass files tracks h.columns hold within.each) (omega (arith, within.samples, count_for files tracks)) (omega (arith, within.tracks, length-map tracks (track_for files)))

-- ---- the limits of a track

size_of_field : (x : ℤ) → FitsUnsigned w32 x → unsigned_abs x < 2 ^ 32
size_of_field (pos n) fits = omega (arith, ints, fits.1)
size_of_field (negsuc n) fits = absurd (omega (arith, ints, fits.0))

short_column : (column : List ℤ) → All (FitsUnsigned w32) column → is_long column ≡ false
short_column column fit = not_long column (λ i lt. size_of_field (get_or column i (pos 0)) (fit i (pos 0) lt))

within_limits : (track : PlacedTrack) → AreWithinLimits track → PassesNone track
within_limits track h = record {
  durations = short_column track.deltas h.durations;
  offsets = not_wide track.offsets h.offsets;
  short = short_edits track.edits h.edits;
  early = early_edits track.edits h.edits;
  sizes = short_column track.sizes h.sizes;
  entries = le-ltb most_entries (length track.entries) h.entries;
  segments = few_edits track.edits h.edits;
}

each_within_limits : (tracks : List PlacedTrack) → AllByRecursion AreWithinLimits tracks → AllByRecursion PassesNone tracks
each_within_limits [] h = tt
each_within_limits (track ∷ tracks) h = (within_limits track h.0, each_within_limits tracks h.1)

pub limits_are_of_tracks : LimitsAreOfTracks
limits_are_of_tracks movie h few some = none_passes_any movie (each_within_limits movie.tracks h) few some
