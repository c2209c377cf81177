-- The latest end of the samples of a track, sample by sample, and what its headers state by its columns.
use Rattle.std.proofs.Common.{◌≡◌, ℕ, ℤ, zero, suc, pos, negsuc, ◌+◌, ◌-◌, ◌*◌, ◌^◌, ◌<◌, ◌≤◌, ◌≤ℤ◌, ◌+ℤ◌, max, List, [], ◌∷◌, ◌++◌, length, map, take, drop, replicate, get_or, refl, sym, ap, ◌∙◌, arith}
use Rattle.std.specs.Prelude.{All, slice_index, slice_index_or, sum, unsigned_abs}
use Rattle.std.specs.List.{range_with_len, sum_by}
use Rattle.std.proofs.lemmas.Int.{ints}
use Rattle.std.proofs.Math.Nat.{mul-le-mul_right}
use Rattle.std.proofs.lemmas.List.{get_or-drop, get_or-replicate, get_or_append_left, length-map, length-replicate, length-take}
use Rattle.std.proofs.lemmas.List.Elements.{All-take}
use Rattle.std.proofs.lemmas.List.FromFn.{map-range_with_len_more}
use Rattle.std.proofs.lemmas.Simd.{map-map}
use Rattle.mp_columns.specs.declared.columns.TheConstants.{MOST_ITEMS}
use Rattle.mp_columns.specs.declared.run.Run.{Run}
use Rattle.mp_columns.specs.Numbers.{largest, total}
use Rattle.mp_columns.specs.Runs.{IsLongestRun}
use Rattle.mp_times.specs.Times.{composition_time}
use Rattle.mp_timeline.specs.Movie.{SampleRecord, TrackRecord}
use Rattle.mp_movie.specs.Durations.{extent, greatest, not_before_start}
use Rattle.mp_movie.specs.Placed.{PlacedTrack, naturals}
use Rattle.mp_movie.specs.StandsFor.{sample_at, samples_of, track_for}
use Rattle.mp_movie.specs.WholeParts.{AreColumns, IsNatural}
use Rattle.mp_movie.proofs.ColumnsAreKept.{of_front}
use Rattle.mp_movie.proofs.ColumnsInNumbers.{each_within, sum_within, total_is}
use Rattle.mp_movie.proofs.PartsAreMovies.{next_time}

-- when the sample ends before which there are so many
abbrev pub end_at : PlacedTrack → ℕ → ℕ
end_at track before = let durations = naturals track.deltas in not_before_start (composition_time durations track.offsets before +ℤ pos (slice_index durations before))

-- the latest end of so many samples
abbrev pub latest_of : PlacedTrack → ℕ → ℕ
latest_of track count = greatest (map (end_at track) (range_with_len 0 count))

greatest_push : (numbers : List ℕ) (number : ℕ) → greatest (numbers ++ number ∷ []) ≡ max (greatest numbers) number
greatest_push [] number = omega arith
greatest_push (first ∷ numbers) number = omega (arith, greatest_push numbers number)

latest_more : (track : PlacedTrack) (count : ℕ) → latest_of track (count + 1) ≡ max (latest_of track count) (end_at track count)
latest_more track count =
    ap greatest (map-range_with_len_more (end_at track) 0 count count (omega arith)) ∙ greatest_push (map (end_at track) (range_with_len 0 count)) (end_at track count)

pub extent_is : (files : List (List ℕ)) (track : PlacedTrack) → extent (samples_of files track) ≡ latest_of track (length track.deltas)
unfolding samples_of sample_at
extent_is files track = ap greatest (map-map (λ (s : SampleRecord). not_before_start (s.comp +ℤ pos s.dur)) (sample_at files track) (range_with_len 0 (length track.deltas)))

-- a later time, with the same offset, is no earlier end
nbs_up : (a b : ℕ) (offset : ℤ) → a ≤ b → not_before_start (pos a +ℤ offset) ≤ not_before_start (pos b +ℤ offset)
nbs_up a b offset le = by (pos a +ℤ offset) (pos b +ℤ offset) (omega (arith, ints, le))
  where
    by : (x y : ℤ) → x ≤ℤ y → not_before_start x ≤ not_before_start y
    by (pos m) (pos n) h = omega (arith, ints, h)
    by (pos m) (negsuc n) h = absurd (omega (arith, ints, h))
    by (negsuc m) y h = omega arith

-- the end of the last of so many samples, with that offset
abbrev reach : PlacedTrack → ℤ → ℕ → ℕ
reach track offset count = not_before_start (pos (sum (take count (naturals track.deltas))) +ℤ offset)

end_is : (decode dur : ℕ) (offset : ℤ) → (pos decode +ℤ offset) +ℤ pos dur ≡ pos (decode + dur) +ℤ offset
end_is decode dur offset = omega (arith, ints)

end_reaches : (track : PlacedTrack) (k : ℕ) (offset : ℤ) → k < length track.deltas → get_or track.offsets k (pos 0) ≡ offset → end_at track k ≡ reach track offset (k + 1)
end_reaches track k offset lt same =
    let durations = naturals track.deltas in
    let next : sum (take (k + 1) durations) ≡ sum (take k durations) + slice_index durations k = next_time durations k (omega (arith, lt, length-map track.deltas unsigned_abs)) in
    rw (same, next) (ap not_before_start (end_is (sum (take k durations)) (slice_index durations k) offset))

-- the last of equal offsets ends latest
run_reaches : (track : PlacedTrack) (from m : ℕ) (offset : ℤ) → from + suc m ≤ length track.deltas → ((k : ℕ) → from ≤ k → k < from + suc m → get_or track.offsets k (pos 0) ≡ offset)
    → latest_of track (from + suc m) ≡ max (latest_of track from) (reach track offset (from + suc m))
run_reaches track from zero offset le each = omega (arith, latest_more track from, end_reaches track from offset (omega (arith, le)) (each from (omega arith) (omega arith)))
run_reaches track from (suc m) offset le each =
    let before = run_reaches track from m offset (omega (arith, le)) (λ k past lt. each k past (omega (arith, lt))) in
    let here = end_reaches track (from + suc m) offset (omega (arith, le)) (each (from + suc m) (omega arith) (omega arith)) in
    let durations = naturals track.deltas in
    let next : sum (take ((from + suc m) + 1) durations) ≡ sum (take (from + suc m) durations) + slice_index durations (from + suc m) = next_time durations (from + suc m) (omega (arith, le, length-map track.deltas unsigned_abs)) in
    let up : reach track offset (from + suc m) ≤ reach track offset ((from + suc m) + 1) = nbs_up _ _ offset (omega (arith, next)) in
    let place : from + suc (suc m) ≡ (from + suc m) + 1 = omega arith in
    rw place (omega (arith, latest_more track (from + suc m), before, here, up))

-- the items of a run are equal
in_run : (items : List ℤ) (from to k : ℕ) (run : Run) → IsLongestRun items from to run → from ≤ k → k < to → get_or items k (pos 0) ≡ run.value
in_run items from to k run is past lt =
    let end = is.end in
    let inside : k - from < run.count = omega (arith, end, past, lt) in
    let place : from + (k - from) ≡ k = omega (arith, past) in
    ap (λ (i : ℕ). get_or items i (pos 0)) (sym place)
    ∙ (sym (get_or-drop from items (k - from) (pos 0))
    ∙ (ap (λ (l : List ℤ). get_or l (k - from) (pos 0)) is.equal
    ∙ (get_or_append_left (replicate run.count run.value) (drop to items) (pos 0) (k - from) (omega (arith, inside, length-replicate run.count run.value))
    ∙ get_or-replicate run.count (k - from) run.value (pos 0) inside)))

-- the samples before this place, run by run of their offsets, and their latest end
pub record AreSeen (track : PlacedTrack) (place latest : ℕ) : Type 0 where
  pub inside : place ≤ length track.offsets
  pub ends : latest ≡ latest_of track place
  pub short : latest < 2 ^ 88

pub run_is_seen : (track : PlacedTrack) (place to latest time end : ℕ) (run : Run) → AreColumns track → AreSeen track place latest → IsLongestRun track.offsets place to run
    → time ≡ sum (take to (naturals track.deltas)) → end ≡ not_before_start (pos time +ℤ run.value) → end < 2 ^ 88 → AreSeen track to (max end latest)
run_is_seen track place to latest time end run h seen is at ends short =
    let some = is.some in
    let stop = is.end in
    let inside = is.inside in
    let last : to ≡ place + suc (run.count - 1) = omega (arith, some, stop) in
    let all = run_reaches track place (run.count - 1) run.value (omega (arith, last, inside, h.offsets_len)) (λ k past lt. in_run track.offsets place to k run is past (omega (arith, lt, last))) in
    let reached : latest_of track to ≡ max (latest_of track place) (reach track run.value to) = ap (latest_of track) last ∙ (all ∙ ap (λ (n : ℕ). max (latest_of track place) (reach track run.value n)) (sym last)) in
    let same : end ≡ reach track run.value to = ends ∙ ap (λ (n : ℕ). not_before_start (pos n +ℤ run.value)) at in
    record { inside = is.inside; ends = omega (arith, seen.ends, reached, same); short = omega (arith, short, seen.short) }

-- the numbers of the first items
naturals_of_front : (n : ℕ) (column : List ℤ) → naturals (take n column) ≡ take n (naturals column)
naturals_of_front zero column = refl
naturals_of_front (suc n) [] = refl
naturals_of_front (suc n) (item ∷ column) = ap (λ (numbers : List ℕ). unsigned_abs item ∷ numbers) (naturals_of_front n column)

-- when so many samples are over
pub time_is : (column : List ℤ) (count : ℕ) → All IsNatural column → total (take count column) ≡ pos (sum (take count (naturals column)))
time_is column count natural = total_is (take count column) (All-take IsNatural count column natural) ∙ ap (λ (numbers : List ℕ). pos (sum numbers)) (naturals_of_front count column)

pub time_is_short : (column : List ℤ) (count most : ℕ) → largest column ≤ most → most < 2 ^ 64 → count ≤ MOST_ITEMS → sum (take count (naturals column)) < 2 ^ 87
time_is_short column count most within small few =
    let front = take count column in
    let all = sum_within most front (of_front (λ (x : ℤ). unsigned_abs x ≤ most) count column (each_within most column within)) in
    let product : length front * most ≤ MOST_ITEMS * most = mul-le-mul_right most (omega (arith, few, length-take count column)) in
    omega (arith, all, ap sum (naturals_of_front count column), product, small)
