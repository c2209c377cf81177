-- Within the limits the samples of a track end before 2^64 ticks.
use Rattle.std.proofs.Common.{◌≡◌, ℕ, zero, suc, ◌+◌, ◌-◌, ◌*◌, ◌^◌, ◌<◌, ◌≤◌, max, not, ◌&&◌, Bool, true, false, ℤ, pos, negsuc, ◌+ℤ◌, ◌-ℤ◌, List, [], ◌∷◌, length, map, get_or, refl, sym, ap, ◌∙◌, subst, arith, inl, inr}
use Rattle.std.specs.Prelude.{fold, unsigned_abs}
use Rattle.std.specs.List.{AllByRecursion, list_all, list_any}
use Rattle.std.proofs.lemmas.Bool.{cases_Bool, leb-false, leb-true, ltb-false, ltb-true}
use Rattle.std.proofs.lemmas.Int.{ints}
use Rattle.std.proofs.lemmas.List.Sums.{sum_by-cons}
use Rattle.mp_columns.specs.declared.columns.TheConstants.{MOST_ITEMS}
use Rattle.mp_columns.specs.Numbers.{largest}
use Rattle.mp_ports.specs.declared.code.Code.TheVariants.{DeltaLimit, DurationLimit, OffsetLimit, StartLimit}
use Rattle.mp_timeline.specs.Movie.{SampleRecord}
use Rattle.mp_times.specs.Written.{is_unsigned}
use Rattle.mp_edits.specs.EditBox.{segments_in}
use Rattle.mp_edits.specs.Segments.{total}
use Rattle.mp_movie.specs.Columns.{composition_offsets, durations}
use Rattle.mp_movie.specs.Durations.{extent, not_before_start}
use Rattle.mp_movie.specs.Placed.{PlacedTrack, PlacedMovie, sample_count}
use Rattle.mp_movie.specs.PartsFit.{is_long, is_signed, is_wide, limits, passes}
use Rattle.mp_movie.specs.PartsLaw.{ColumnsAreKept, PartsStandForMovies}
use Rattle.mp_movie.specs.StandsFor.{samples_of, track_for}
use Rattle.mp_movie.specs.WellFormed.{AreConsecutive, IsWellFormedTrack}
use Rattle.mp_movie.specs.WholeParts.{AreColumns}
use Rattle.track_ops.specs.Wide.{CanWiden}
use Rattle.track_ops.proofs.LeastScales.{both}
use Rattle.track_ops.proofs.LimitsStay.{none_holds}
use Rattle.track_ops.proofs.TrackIsSet.{IsThere, none_at, track_whole}
use Rattle.track_ops.proofs.TracksAt.{all_at, map_at}

abbrev AreBelow : ℕ → List ℤ → Type 0
AreBelow most column = AllByRecursion (λ x. unsigned_abs x ≤ most) column

fold_more : (start : ℕ) (xs : List ℤ) → start ≤ fold (λ (m : ℕ) (x : ℤ). max m (unsigned_abs x)) start xs
fold_more start [] = omega arith
fold_more start (x ∷ xs) = let rest = fold_more (max start (unsigned_abs x)) xs in omega (arith, rest)

each_below : (start most : ℕ) (xs : List ℤ) → fold (λ (m : ℕ) (x : ℤ). max m (unsigned_abs x)) start xs ≤ most → AreBelow most xs
each_below start most [] le = tt
each_below start most (x ∷ xs) le =
    let more = fold_more (max start (unsigned_abs x)) xs in
    (omega (arith, le, more), each_below (max start (unsigned_abs x)) most xs le)

deltas_below : (deltas : List ℤ) → is_long deltas ≡ false → AreBelow (2 ^ 32) deltas
deltas_below deltas short = each_below 0 (2 ^ 32) deltas (let le = ltb-false (2 ^ 32 - 1) (largest deltas) short in omega (arith, le))

tested_below : (test : ℤ → Bool) (xs : List ℤ) → ((z : ℤ) → test z ≡ true → unsigned_abs z ≤ 2 ^ 32) → list_all test xs ≡ true → AreBelow (2 ^ 32) xs
tested_below test [] small all = tt
tested_below test (x ∷ xs) small all =
    let each = both (test x) (list_all test xs) all in
    (small x each.0, tested_below test xs small each.1)

unsigned_small : (z : ℤ) → is_unsigned z ≡ true → unsigned_abs z ≤ 2 ^ 32
unsigned_small (pos n) test = let le = leb-true n (2 ^ 32 - 1) test in omega (arith, le)
unsigned_small (negsuc n) test = cc

signed_small : (z : ℤ) → is_signed z ≡ true → unsigned_abs z ≤ 2 ^ 32
signed_small (pos n) test = let lt = ltb-true n (2 ^ 31) test in omega (arith, lt)
signed_small (negsuc n) test = let lt = ltb-true n (2 ^ 31) test in omega (arith, lt)

one_holds : (a b : Bool) → (not a && not b) ≡ false → a ≡ false → b ≡ true
one_holds a true none first = refl
one_holds true false none first = cc
one_holds false false none first = cc

offsets_below : (offsets : List ℤ) → is_wide offsets ≡ false → AreBelow (2 ^ 32) offsets
offsets_below offsets narrow =
    elim (cases_Bool (list_all is_unsigned offsets)) [
      | inl all ↦ tested_below is_unsigned offsets unsigned_small all
      | inr none ↦ tested_below is_signed offsets signed_small (one_holds _ (list_all is_signed offsets) narrow none)
    ]

-- the samples one after another
extent_below : (start : ℕ) (samples : List SampleRecord) → AreConsecutive start samples → AreBelow (2 ^ 32) (durations samples) → AreBelow (2 ^ 32) (composition_offsets samples)
    → extent samples ≤ start + length samples * 2 ^ 32 + 2 ^ 32
extent_below start [] times deltas offsets = omega arith
extent_below start (sample ∷ samples) times deltas offsets =
    let rest = extent_below (start + sample.dur) samples times.1 deltas.1 offsets.1 in
    let first = one sample.decode sample.dur sample.comp times.0 deltas.0 offsets.0 in
    omega (arith, rest, first)
  where
    one : (decode dur : ℕ) (comp : ℤ) → decode ≡ start → dur ≤ 2 ^ 32 → unsigned_abs (comp -ℤ pos decode) ≤ 2 ^ 32 → not_before_start (comp +ℤ pos dur) ≤ start + 2 ^ 32 + 2 ^ 32
    one decode dur comp is short near = by (comp +ℤ pos dur) refl
      where
        by : (end : ℤ) → comp +ℤ pos dur ≡ end → not_before_start end ≤ start + 2 ^ 32 + 2 ^ 32
        by (pos n) e = omega (arith, ints, e, is, short, near)
        by (negsuc n) e = omega arith

extent_short : ColumnsAreKept → (files : List (List ℕ)) (track : PlacedTrack) → AreColumns track → AreConsecutive 0 (samples_of files track) → length track.deltas ≤ MOST_ITEMS → is_long track.deltas ≡ false → is_wide track.offsets ≡ false
    → extent (samples_of files track) < 2 ^ 64
extent_short law files track columns times few short narrow =
    let le = extent_below 0 (samples_of files track) times (subst (AreBelow (2 ^ 32)) (sym (law.durations files track columns)) (deltas_below track.deltas short)) (subst (AreBelow (2 ^ 32)) (sym (law.offsets files track columns)) (offsets_below track.offsets narrow)) in
    let many = law.count files track in
    omega (arith, le, many, few)

few_at : (tracks : List PlacedTrack) (at : ℕ) (d : PlacedTrack) → at < length tracks → length (get_or tracks at d).deltas ≤ sample_count tracks
few_at [] at d lt = absurd (omega (arith, lt))
few_at (track ∷ tracks) zero d lt = omega (arith, sum_by-cons (λ (t : PlacedTrack). length t.deltas) track tracks)
few_at (track ∷ tracks) (suc at) d lt = omega (arith, few_at tracks at d (omega (arith, lt)), sum_by-cons (λ (t : PlacedTrack). length t.deltas) track tracks)

-- a track of a movie can be told in the unit
pub can_widen : ColumnsAreKept → PartsStandForMovies → (number at : ℕ) (track : PlacedTrack) (movie : PlacedMovie) → IsThere number at track movie → CanWiden track
can_widen law stand number at track movie h =
    let tests = none_holds (limits movie) h.fits in
    let columns = track_whole movie at track h.whole h.inside h.is in
    record {
      columns = columns;
      media = λ files. extent_short law files track columns (times files) few (is (passes DeltaLimit) tests.0) (is (passes OffsetLimit) tests.1.0);
      short = leb-false (2 ^ 62) (total (segments_in track.edits)) (is (passes DurationLimit) tests.1.1.0);
      early = is (passes StartLimit) tests.1.1.1.0;
    }
  where
    is : (passed : PlacedTrack → Bool) → list_any passed movie.tracks ≡ false → passed track ≡ false
    is passed none = subst (λ (t : PlacedTrack). passed t ≡ false) h.is (none_at passed movie.tracks at track h.inside none)

    few : length track.deltas ≤ MOST_ITEMS
    few =
        let all = subst (λ (t : PlacedTrack). length t.deltas ≤ sample_count movie.tracks) h.is (few_at movie.tracks at track h.inside) in
        let most = ltb-false MOST_ITEMS (sample_count movie.tracks) (none_holds (limits movie) h.fits).1.1.1.1.1.0 in
        omega (arith, all, most)

    times : (files : List (List ℕ)) → AreConsecutive 0 (samples_of files track)
    times files =
        let formed = all_at (IsWellFormedTrack movie.scale) (map (track_for files) movie.tracks) at (track_for files track) (omega (arith, h.inside, many movie.tracks)) (stand.well_formed files movie h.whole).tracks in
        (subst (IsWellFormedTrack movie.scale) (map_at (track_for files) movie.tracks at track (track_for files track) h.inside ∙ ap (track_for files) h.is) formed).times
      where
        many : (tracks : List PlacedTrack) → length (map (track_for files) tracks) ≡ length tracks
        many [] = refl
        many (t ∷ tracks) = ap suc (many tracks)
