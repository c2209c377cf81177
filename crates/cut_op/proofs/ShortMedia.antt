-- The samples of a track that can be written end early.
use Rattle.std.proofs.Common.{◌≡◌, ℕ, ℤ, zero, suc, pos, negsuc, ◌+◌, ◌*◌, ◌^◌, ◌<◌, ◌≤◌, ◌+ℤ◌, ◌<ℤ◌, max, List, [], ◌∷◌, length, map, get_or, refl, sym, ap, subst, ◌∙◌, arith, inl, inr}
use Rattle.std.specs.Prelude.{slice_index, slice_index_or, sum, take, unsigned_abs}
use Rattle.std.specs.Int.{w32, FitsUnsigned}
use Rattle.std.specs.List.{range_with_len}
use Rattle.std.proofs.lemmas.Int.{ints}
use Rattle.std.proofs.lemmas.List.{get_or-map, get_or_default}
use Rattle.mp_columns.specs.declared.columns.TheConstants.{MOST_ITEMS}
use Rattle.mp_times.specs.Written.{FitOffsets}
use Rattle.mp_timeline.specs.Movie.{SampleRecord}
use Rattle.mp_movie.specs.CanBeWritten.{CanBeWritten}
use Rattle.mp_movie.specs.Durations.{extent, greatest, not_before_start}
use Rattle.mp_movie.specs.Placed.{PlacedTrack, naturals}
use Rattle.mp_movie.specs.StandsFor.{sample_at, samples_of}
use Rattle.cut_op.proofs.FrontSums.{by_recursion, front_short}

-- an offset is below 2^32
pub offset_short : (offsets : List ℤ) (i : ℕ) → FitOffsets offsets → i < length offsets → get_or offsets i (pos 0) <ℤ pos (2 ^ 32)
offset_short offsets i (inl unsigned) lt = let fits = unsigned i (pos 0) lt in omega (arith, ints, fits)
offset_short offsets i (inr signed) lt = let fits = signed i (pos 0) lt in omega (arith, ints, fits)

end_below : (d u : ℕ) (o : ℤ) → d ≤ 2 ^ 55 → u < 2 ^ 32 → o <ℤ pos (2 ^ 32) → not_before_start ((pos d +ℤ o) +ℤ pos u) ≤ 2 ^ 55 + 2 ^ 33
end_below d u o early short offset = by ((pos d +ℤ o) +ℤ pos u) (omega (arith, ints, early, short, offset))
  where
    by : (z : ℤ) → z <ℤ pos (2 ^ 55 + 2 ^ 33) → not_before_start z ≤ 2 ^ 55 + 2 ^ 33
    by (pos n) lt = omega (arith, ints, lt)
    by (negsuc n) lt = omega arith

one_short : (files : List (List ℕ)) (track : PlacedTrack) (i : ℕ) → CanBeWritten track → length track.deltas ≤ MOST_ITEMS → i < length track.deltas
    → (let sample = sample_at files track i in not_before_start (sample.comp +ℤ pos sample.dur)) ≤ 2 ^ 55 + 2 ^ 33
unfolding sample_at
one_short files track i h few lt =
    let columns = h.columns in
    let decode = front_short track.deltas i (by_recursion (FitsUnsigned w32) track.deltas h.deltas) in
    let delta = h.deltas i (pos 0) lt in
    let dur : slice_index (naturals track.deltas) i ≡ unsigned_abs (get_or track.deltas i (pos 0)) = get_or-map unsigned_abs track.deltas i (pos 0) 0 lt in
    let small : unsigned_abs (get_or track.deltas i (pos 0)) < 2 ^ 32 = number (get_or track.deltas i (pos 0)) delta in
    end_below (sum (take i (naturals track.deltas))) (slice_index (naturals track.deltas) i) (slice_index_or track.offsets i (pos 0))
    (omega (arith, decode, lt, few)) (omega (arith, dur, small)) (offset_short track.offsets i h.offsets (omega (arith, lt, columns.offsets_len)))
  where
    number : (z : ℤ) → FitsUnsigned w32 z → unsigned_abs z < 2 ^ 32
    number (pos n) fits = omega (arith, ints, fits)
    number (negsuc n) fits = omega (arith, ints, fits)

all_short : (files : List (List ℕ)) (track : PlacedTrack) (k n : ℕ) → CanBeWritten track → length track.deltas ≤ MOST_ITEMS → k + n ≤ length track.deltas
    → extent (map (sample_at files track) (range_with_len k n)) ≤ 2 ^ 55 + 2 ^ 33
all_short files track k zero h few le = omega arith
all_short files track k (suc n) h few le =
    let here = one_short files track k h few (omega (arith, le)) in
    let rest = all_short files track (k + 1) n h few (omega (arith, le)) in
    omega (arith, here, rest)

pub extent_short : (files : List (List ℕ)) (track : PlacedTrack) → CanBeWritten track → length track.deltas ≤ MOST_ITEMS → extent (samples_of files track) < 2 ^ 57
unfolding samples_of
extent_short files track h few = let most = all_short files track 0 (length track.deltas) h few (omega arith) in omega (arith, most)
