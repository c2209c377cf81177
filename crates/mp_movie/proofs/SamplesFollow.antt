-- One sample more: its columns, and what it stands for.
use Rattle.std.proofs.Common.{◌≡◌, ℕ, ℤ, zero, suc, pos, ◌+◌, ◌<◌, ◌≤◌, ◌≤ℤ◌, Bool, true, false, List, [], ◌∷◌, ◌++◌, length, map, take, drop, get_or, refl, sym, ap, ◌∙◌, arith, ◌⊎◌, inl, inr}
use Rattle.std.specs.Prelude.{All, slice_index, slice_index_or, sum, unsigned_abs}
use Rattle.std.specs.List.{flat_map, range_with_len, sum_by}
use Rattle.std.proofs.lemmas.Int.{ints}
use Rattle.std.proofs.lemmas.List.{map-append, length-append, length-map, length-drop, get_or_append_left, take_all, drop_all}
use Rattle.std.proofs.lemmas.List.Elements.{All-append}
use Rattle.std.proofs.lemmas.List.FromFn.{map-range_with_len_more, fill_by_all, get_or-map-range_with_len, length-map-range_with_len}
use Rattle.std.proofs.lemmas.List.Sums.{sum_by-append, sum_by-take-drop, sum_by-drop_more}
use Rattle.mp_pieces.specs.declared.piece.Piece.{Piece}
use Rattle.mp_pieces.specs.Piece.{piece_bytes, piece_len}
use Rattle.mp_times.specs.Sync.{is_sync}
use Rattle.mp_times.specs.Written.{IsMark}
use Rattle.mp_movie.specs.Placed.{PlacedTrack, mark_of, naturals, with_sample}
use Rattle.mp_movie.specs.StandsFor.{pieces_at, pieces_of, sample_at, samples_of}
use Rattle.mp_movie.specs.WholeParts.{AreColumns, IsEntryNumber, IsNatural}
use Rattle.mp_movie.specs.PartsLaw.{SamplesFollow, next_sample}
use Rattle.mp_movie.proofs.ColumnsInNumbers.{is_natural}

take_front : {A : Type 0} (n : ℕ) (xs ys : List A) → n ≤ length xs → take n (xs ++ ys) ≡ take n xs
take_front zero xs ys le = refl
take_front (suc n) [] ys le = absurd (omega arith)
take_front (suc n) (x ∷ xs) ys le = ap (λ (l : List _). x ∷ l) (take_front n xs ys (omega arith))

drop_front : {A : Type 0} (n : ℕ) (xs ys : List A) → n ≤ length xs → drop n (xs ++ ys) ≡ drop n xs ++ ys
drop_front zero xs ys le = refl
drop_front (suc n) [] ys le = absurd (omega arith)
drop_front (suc n) (x ∷ xs) ys le = drop_front n xs ys (omega arith)

-- the pieces of the first samples, and those of the next one, are some of all
within : (counts : List ℕ) (k : ℕ) → k < length counts → sum (take k counts) + get_or counts k 0 ≤ sum counts
within counts k lt = omega (arith, sum_by-take-drop (λ (n : ℕ). n) counts k, sum_by-drop_more (λ (n : ℕ). n) counts k 0 lt)

-- the numbers of a column with one item more
one_more : (xs : List ℤ) (n : ℕ) → naturals (xs ++ pos n ∷ []) ≡ naturals xs ++ n ∷ []
one_more xs n = map-append unsigned_abs xs (pos n ∷ [])

-- the sum of the items before, and the item, are what they were
sum_same : (xs : List ℤ) (n k : ℕ) → k ≤ length xs → sum (take k (naturals (xs ++ pos n ∷ []))) ≡ sum (take k (naturals xs))
sum_same xs n k le = rw (one_more xs n, take_front k (naturals xs) (n ∷ []) (rw (length-map xs unsigned_abs) le)) refl

item_same : (xs : List ℤ) (n k : ℕ) → k < length xs → slice_index (naturals (xs ++ pos n ∷ [])) k ≡ slice_index (naturals xs) k
item_same xs n k lt = rw (one_more xs n) (get_or_append_left (naturals xs) (n ∷ []) 0 k (rw (length-map xs unsigned_abs) lt))

last_item : {A : Type 0} (xs : List A) (x d : A) (n : ℕ) → n ≡ length xs → get_or (xs ++ x ∷ []) n d ≡ x
last_item [] x d n e = rw e refl
last_item (y ∷ xs) x d zero e = absurd (omega arith)
last_item (y ∷ xs) x d (suc n) e = last_item xs x d n (omega arith)

last_number : (xs : List ℤ) (n k : ℕ) → k ≡ length xs → slice_index (naturals (xs ++ pos n ∷ [])) k ≡ n
last_number xs n k e = rw (one_more xs n) (last_item (naturals xs) n 0 k (e ∙ sym (length-map xs unsigned_abs)))

-- the pieces of an earlier sample are what they were
pieces_same : (counts : List ℤ) (pieces more : List Piece) (k : ℕ) → sum (naturals counts) ≡ length pieces → k < length counts
    → pieces_at (naturals (counts ++ pos (length more) ∷ [])) (pieces ++ more) k ≡ pieces_at (naturals counts) pieces k
unfolding pieces_at
pieces_same counts pieces more k e lt =
    let long : k < length (naturals counts) = rw (length-map counts unsigned_abs) lt in
    let w = within (naturals counts) k long in
    let s = sum (take k (naturals counts)) in
    let c = get_or (naturals counts) k 0 in
    rw (item_same counts (length more) k lt, sum_same counts (length more) k (omega arith), drop_front s pieces more (omega arith))
    (take_front c (drop s pieces) more (omega (arith, length-drop s pieces)))

-- those of the new one are all that came
pieces_new : (counts : List ℤ) (pieces more : List Piece) (k : ℕ) → sum (naturals counts) ≡ length pieces → k ≡ length counts
    → pieces_at (naturals (counts ++ pos (length more) ∷ [])) (pieces ++ more) k ≡ more
unfolding pieces_at
pieces_new counts pieces more k e at =
    let all : sum (take k (naturals counts)) ≡ length pieces = ap sum (take_all k (naturals counts) (omega (arith, length-map counts unsigned_abs))) ∙ e in
    rw (last_number counts (length more) k at, sum_same counts (length more) k (omega arith), all, drop_front (length pieces) pieces more (omega arith), drop_all (length pieces) pieces (omega arith))
    (take_all (length more) more (omega arith))

mark_is : (sync : Bool) → is_sync (mark_of sync) ≡ sync
mark_is true = refl
mark_is false = refl

sample_same : (files : List (List ℕ)) (track : PlacedTrack) (delta kind : ℕ) (offset : ℤ) (sync : Bool) (pieces : List Piece) (k : ℕ) → AreColumns track → k < length track.deltas
    → sample_at files (with_sample track delta offset sync kind pieces) k ≡ sample_at files track k
unfolding sample_at
sample_same files track delta kind offset sync pieces k h lt =
    rw (
      sum_same track.deltas delta k (omega arith),
      item_same track.deltas delta k lt,
      get_or_append_left track.offsets (offset ∷ []) (pos 0) k (omega (arith, h.offsets_len)),
      get_or_append_left track.syncs (mark_of sync ∷ []) (pos 0) k (omega (arith, h.syncs_len)),
      item_same track.kinds kind k (omega (arith, h.kinds_len)),
      pieces_same track.counts track.pieces pieces k h.counted (omega (arith, h.counts_len)),
    ) refl

sample_new : (files : List (List ℕ)) (track : PlacedTrack) (delta kind : ℕ) (offset : ℤ) (sync : Bool) (pieces : List Piece) (k : ℕ) → AreColumns track → k ≡ length track.deltas
    → sample_at files (with_sample track delta offset sync kind pieces) k ≡ next_sample files track delta offset sync kind pieces
unfolding sample_at
sample_new files track delta kind offset sync pieces k h at =
    rw (
      sum_same track.deltas delta k (omega arith),
      last_number track.deltas delta k at,
      last_item track.offsets offset (pos 0) k (at ∙ sym h.offsets_len),
      last_item track.syncs (mark_of sync) (pos 0) k (at ∙ sym h.syncs_len),
      mark_is sync,
      last_number track.kinds kind k (at ∙ sym h.kinds_len),
      pieces_new track.counts track.pieces pieces k h.counted (at ∙ sym h.counts_len),
      take_all k (naturals track.deltas) (omega (arith, length-map track.deltas unsigned_abs)),
    ) refl

-- the samples are those that there were, and the new one
samples_more : (files : List (List ℕ)) (track : PlacedTrack) (delta kind : ℕ) (offset : ℤ) (sync : Bool) (pieces : List Piece) → AreColumns track
    → samples_of files (with_sample track delta offset sync kind pieces) ≡ samples_of files track ++ next_sample files track delta offset sync kind pieces ∷ []
unfolding samples_of
samples_more files track delta kind offset sync pieces h =
    let new = with_sample track delta offset sync kind pieces in
    let n = length track.deltas in
    let next = next_sample files track delta offset sync kind pieces in
    let old = fill_by_all (sample_at files new) (map (sample_at files track) (range_with_len 0 n)) n next (length-map-range_with_len (sample_at files track) 0 n)
    (λ k lt. get_or-map-range_with_len (sample_at files track) 0 n k k next lt (omega arith) ∙ sym (sample_same files track delta kind offset sync pieces k h lt)) in
    rw (length-append track.deltas (pos delta ∷ []), map-range_with_len_more (sample_at files new) 0 n n (omega arith), ← old, sample_new files track delta kind offset sync pieces n h refl) refl

-- below the end, or at it
lt_or_eq : (k n : ℕ) → k < n + 1 → (k < n) ⊎ (k ≡ n)
lt_or_eq zero zero lt = inr refl
lt_or_eq zero (suc n) lt = inl (omega arith)
lt_or_eq (suc k) zero lt = absurd (omega arith)
lt_or_eq (suc k) (suc n) lt = elim (lt_or_eq k n (omega arith)) [
  | inl old ↦ inl (omega arith)
  | inr at ↦ inr (ap suc at)
]

-- what holds of each item and of one more
each_more : (P : ℤ → Type 0) (xs : List ℤ) (x : ℤ) → All P xs → P x → All P (xs ++ x ∷ [])
each_more P xs x all one = All-append P xs (x ∷ []) all only
  where
    only : All P (x ∷ [])
    only zero d lt = one
    only (suc i) d lt = absurd (omega arith)

marked : (sync : Bool) → IsMark (mark_of sync)
marked true = inr refl
marked false = inl refl

-- the columns stay columns
columns_more : (track : PlacedTrack) (delta kind : ℕ) (offset : ℤ) (sync : Bool) (pieces : List Piece) → AreColumns track → 1 ≤ kind → kind ≤ length track.entries
    → AreColumns (with_sample track delta offset sync kind pieces)
columns_more track delta kind offset sync pieces h some known = record {
  deltas = each_more IsNatural track.deltas (pos delta) h.deltas (is_natural delta);
  offsets_len = omega (arith, length-append track.offsets (offset ∷ []), deltas_len, h.offsets_len);
  syncs_len = omega (arith, length-append track.syncs (mark_of sync ∷ []), deltas_len, h.syncs_len);
  syncs = each_more IsMark track.syncs (mark_of sync) h.syncs (marked sync);
  kinds_len = omega (arith, length-append track.kinds (pos kind ∷ []), deltas_len, h.kinds_len);
  kinds = each_more (IsEntryNumber (length track.entries)) track.kinds (pos kind) h.kinds (record { some = omega (arith, ints, some); known = omega (arith, ints, known) });
  counts_len = omega (arith, length-append track.counts (pos (length pieces) ∷ []), deltas_len, h.counts_len);
  counts = each_more IsNatural track.counts (pos (length pieces)) h.counts (is_natural (length pieces));
  counted = rw (one_more track.counts (length pieces)) (omega (arith, sum_by-append (λ (n : ℕ). n) (naturals track.counts) (length pieces ∷ []), length-append track.pieces pieces, h.counted));
  sizes_len = omega (arith, length-append track.sizes (pos (sum_by piece_len pieces) ∷ []), deltas_len, h.sizes_len);
  sizes = λ k lt. by_place k (rw deltas_len at lt);
}
  where
    deltas_len : length (track.deltas ++ pos delta ∷ []) ≡ length track.deltas + 1
    deltas_len = length-append track.deltas (pos delta ∷ [])

    by_place : (k : ℕ) → k < length track.deltas + 1
        → slice_index_or (track.sizes ++ pos (sum_by piece_len pieces) ∷ []) k (pos 0) ≡ pos (sum_by piece_len (pieces_at (naturals (track.counts ++ pos (length pieces) ∷ [])) (track.pieces ++ pieces) k))
    by_place k lt = elim (lt_or_eq k (length track.deltas) lt) [
      | inl old ↦ rw (get_or_append_left track.sizes (pos (sum_by piece_len pieces) ∷ []) (pos 0) k (omega (arith, h.sizes_len, old)), pieces_same track.counts track.pieces pieces k h.counted (omega (arith, h.counts_len, old))) (h.sizes k old)
      | inr at ↦ rw (last_item track.sizes (pos (sum_by piece_len pieces)) (pos 0) k (at ∙ sym h.sizes_len), pieces_new track.counts track.pieces pieces k h.counted (at ∙ sym h.counts_len)) refl
    ]

pub samples_follow : SamplesFollow
samples_follow = record {
  columns = λ track delta kind offset sync pieces. columns_more track delta kind offset sync pieces;
  samples = λ files track delta kind offset sync pieces. samples_more files track delta kind offset sync pieces;
}
