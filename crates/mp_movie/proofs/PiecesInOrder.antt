-- The bytes of a track's samples, one after another, are those of its pieces.
use Rattle.std.proofs.Common.{rules, ◌≡◌, ℕ, zero, suc, ◌+◌, ◌<◌, ◌≤◌, List, [], ◌∷◌, ◌++◌, length, map, take, drop, refl, sym, ap, ◌∙◌, arith}
use Rattle.std.specs.Prelude.{slice_index, sum, unsigned_abs}
use Rattle.std.specs.List.{flat_map, range_with_len}
use Rattle.std.proofs.lemmas.List.{drop_all, length-map, places, same_lists, take-append-drop, take_all}
use Rattle.std.proofs.lemmas.List.Concat.{flat_map-append}
use Rattle.std.proofs.lemmas.List.Sums.{sum_by-take-drop, sum_by-drop_more}
use Rattle.mp_pieces.specs.declared.piece.Piece.{Piece}
use Rattle.mp_pieces.specs.Piece.{piece_bytes, pieces_bytes}
use Rattle.mp_timeline.specs.Movie.{SampleRecord}
use Rattle.mp_movie.specs.Placed.{PlacedTrack, naturals}
use Rattle.mp_movie.specs.StandsFor.{pieces_at, pieces_of, sample_at, samples_of}
use Rattle.mp_movie.specs.WholeParts.{AreColumns}

drop-drop : (n m : ℕ) (pieces : List Piece) → drop (n + m) pieces ≡ drop m (drop n pieces)
drop-drop n m pieces = same_lists _ _ (search (rules, places)) (λ k d q. grind (arith, places))

counted-next : (counts : List ℕ) (k : ℕ) → k < length counts → sum (take (k + 1) counts) ≡ sum (take k counts) + slice_index counts k
counted-next counts k inside =
    omega (arith, sum_by-take-drop (λ (n : ℕ). n) counts k, sum_by-take-drop (λ (n : ℕ). n) counts (k + 1), sum_by-drop_more (λ (n : ℕ). n) counts k 0 inside)

-- the pieces of a sample, and those behind it
with-rest : (files : List (List ℕ)) (pieces : List Piece) (c s : ℕ) → pieces_bytes files (take c (drop s pieces)) ++ pieces_bytes files (drop (s + c) pieces) ≡ pieces_bytes files (drop s pieces)
with-rest files pieces c s =
    ap (λ (rest : List Piece). pieces_bytes files (take c (drop s pieces)) ++ pieces_bytes files rest) (drop-drop s c pieces)
    ∙ (sym (flat_map-append (piece_bytes files) (take c (drop s pieces)) (drop c (drop s pieces))) ∙ ap (pieces_bytes files) (take-append-drop c (drop s pieces)))

-- the samples from number k on have the pieces that are left
rest-joined : (files : List (List ℕ)) (counts : List ℕ) (pieces : List Piece) (n k : ℕ) → k + n ≡ length counts → sum counts ≡ length pieces
    → flat_map (λ (before : ℕ). pieces_bytes files (pieces_at counts pieces before)) (range_with_len k n) ≡ pieces_bytes files (drop (sum (take k counts)) pieces)
unfolding pieces_at
rest-joined files counts pieces zero k all counted =
    let none : drop (sum (take k counts)) pieces ≡ [] = rw (take_all k counts (omega (arith, all))) (drop_all (sum counts) pieces (omega (arith, counted))) in
    ap (pieces_bytes files) (sym none)
rest-joined files counts pieces (suc n) k all counted =
    let c = slice_index counts k in
    let s = sum (take k counts) in
    let rest = rest-joined files counts pieces n (k + 1) (omega (arith, all)) counted ∙ ap (λ (j : ℕ). pieces_bytes files (drop j pieces)) (counted-next counts k (omega (arith, all))) in
    ap (λ (b : List ℕ). pieces_bytes files (take c (drop s pieces)) ++ b) rest ∙ with-rest files pieces c s

of-samples : (files : List (List ℕ)) (track : PlacedTrack) (numbers : List ℕ)
    → flat_map (λ (sample : SampleRecord). sample.bytes) (map (sample_at files track) numbers) ≡ flat_map (λ (before : ℕ). pieces_bytes files (pieces_of track before)) numbers
unfolding sample_at
of-samples files track [] = refl
of-samples files track (before ∷ numbers) = ap (λ (b : List ℕ). pieces_bytes files (pieces_of track before) ++ b) (of-samples files track numbers)

pub pieces_joined : (files : List (List ℕ)) (track : PlacedTrack) → AreColumns track → flat_map (λ (sample : SampleRecord). sample.bytes) (samples_of files track) ≡ pieces_bytes files track.pieces
unfolding samples_of
pieces_joined files track columns =
    let many = columns.counts_len in
    of-samples files track (range_with_len 0 (length track.deltas))
    ∙ rest-joined files (naturals track.counts) track.pieces (length track.deltas) 0 (omega (arith, many, length-map track.counts unsigned_abs)) columns.counted
