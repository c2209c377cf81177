-- The loop over the samples of a track: their decode times, and the texts of their numbers.
use Rattle.std.proofs.Common.{◌≡◌, ℕ, ℤ, ◌+◌, ◌*◌, ◌^◌, ◌<◌, ◌≤◌, List, [], ◌∷◌, ◌++◌, length, take, drop, get_or, refl, sym, ap, ◌∙◌, arith}
use Rattle.std.specs.Prelude.{slice_index, sum, unsigned_abs}
use Rattle.std.proofs.lemmas.List.{drop_all, length-map}
use Rattle.std.proofs.lemmas.List.Sums.{fold_more}
use Rattle.std.proofs.lemmas.List.FromFn.{get_or-map-range_with_len, length-map-range_with_len}
use Rattle.mp_times.specs.Times.{decode_time}
use Rattle.mp_movie.specs.Placed.{PlacedTrack, naturals}
use Rattle.mp_dump.specs.declared.row.Row.{Row}
use Rattle.mp_dump.specs.Track.{row_in, rows_in}
use Rattle.mp_dump.proofs.Chains.{one_more}

-- before so many samples: when the next one is decoded, and what is written of them
pub record AreWritten (F : ℕ → List Row → List ℕ) (track : PlacedTrack) (before decode : ℕ) (written start : List ℕ) : Type 0 where
  pub decode_is : decode ≡ decode_time (naturals track.deltas) before
  pub short : decode ≤ before * 2 ^ 64
  pub text : written ++ F before (drop before (rows_in track)) ≡ start ++ F 0 (rows_in track)

pub none_yet : (F : ℕ → List Row → List ℕ) (track : PlacedTrack) (start : List ℕ) → AreWritten F track 0 0 start start
none_yet F track start = record { decode_is = refl; short = omega arith; text = refl }

next_time : (durations : List ℕ) (k : ℕ) → k < length durations → sum (take (k + 1) durations) ≡ sum (take k durations) + slice_index durations k
next_time durations k lt = fold_more (λ (a : ℕ) (x : ℕ). a + x) 0 durations k 0 lt

naturals_len : (column : List ℤ) → length (naturals column) ≡ length column
naturals_len column = length-map column unsigned_abs

rows_len : (track : PlacedTrack) → length (rows_in track) ≡ length track.deltas
unfolding rows_in
rows_len track = length-map-range_with_len (row_in track) 0 (length track.deltas)

row_is : (track : PlacedTrack) (k : ℕ) → k < length track.deltas → get_or (rows_in track) k (row_in track 0) ≡ row_in track k
unfolding rows_in
row_is track k lt = get_or-map-range_with_len (row_in track) 0 (length track.deltas) k k (row_in track 0) lt (omega arith)

duration_of : (track : PlacedTrack) (k : ℕ) → (row_in track k).dur ≡ slice_index (naturals track.deltas) k
unfolding row_in
duration_of track k = refl

-- one more
pub row_written : (F : ℕ → List Row → List ℕ) (text : ℕ → Row → List ℕ) → ((n : ℕ) (row : Row) (rest : List Row) → F n (row ∷ rest) ≡ text n row ++ F (n + 1) rest)
    → (track : PlacedTrack) (row : Row) (before decode later : ℕ) (written new start : List ℕ) → before < length track.deltas → row ≡ row_in track before → row.dur < 2 ^ 64
    → later ≡ decode + row.dur → new ≡ written ++ text before row → AreWritten F track before decode written start → AreWritten F track (before + 1) later new start
row_written F text first track row before decode later written new start lt is small grown e w =
    let inside : before < length (naturals track.deltas) = omega (arith, lt, naturals_len track.deltas) in
    let dur : row.dur ≡ slice_index (naturals track.deltas) before = ap (λ (r : Row). r.dur) is ∙ duration_of track before in
    record {
      decode_is = omega (arith, grown, dur, w.decode_is, next_time (naturals track.deltas) before inside);
      short = omega (arith, grown, small, w.short);
      text =
          one_more F (text before row) (rows_in track) before (row_in track 0) written new (start ++ F 0 (rows_in track)) (omega (arith, lt, rows_len track))
          (λ rest. ap (λ (r : Row). F before (r ∷ rest)) (row_is track before lt ∙ sym is) ∙ first before row rest) e w.text;
    }

-- all of them
pub all_written : (F : ℕ → List Row → List ℕ) (track : PlacedTrack) (before decode : ℕ) (written start : List ℕ) → length track.deltas ≤ before
    → AreWritten F track before decode written start → written ++ F before [] ≡ start ++ F 0 (rows_in track)
all_written F track before decode written start past w =
    ap (λ (rest : List Row). written ++ F before rest) (sym (drop_all before (rows_in track) (omega (arith, past, rows_len track)))) ∙ w.text
