-- Columns of tracks, and sums of their items.
use Rattle.std.proofs.Common.{◌≡◌, ℕ, zero, suc, ℤ, pos, ◌+◌, ◌<◌, ◌≤◌, List, [], ◌∷◌, length, take, drop, get_or, refl, ap, ◌∙◌, arith, add-one}
use Rattle.std.specs.Prelude.{sum, slice_index_or, unsigned_abs}
use Rattle.std.specs.List.{AllByRecursion}
use Rattle.std.proofs.lemmas.List.{get_or-map}
use Rattle.std.proofs.lemmas.List.Sums.{sum_by-append, sum_by-cons, sum_by-take-le}
use Rattle.std.proofs.Math.Seq.{take-add}
use Rattle.mp_movie.specs.Placed.{PlacedTrack, naturals, payload_len, sample_count}
use Rattle.mp_layout.specs.Chunked.{column_at}

-- ---- the track at a position

pub at-track : {X : Type 0} (P : X → Type 0) (xs : List X) (position : ℕ) (d : X) → AllByRecursion P xs → position < length xs → P (get_or xs position d)
at-track P [] position d all lt = absurd (omega arith)
at-track P (x ∷ xs) zero d all lt = all.0
at-track P (x ∷ xs) (suc position) d all lt = at-track P xs position d all.1 (omega arith)

pub column-is : (column : PlacedTrack → List ℤ) (tracks : List PlacedTrack) (position : ℕ) (d : PlacedTrack) → position < length tracks → column_at column tracks position ≡ column (get_or tracks position d)
column-is column tracks position d lt = get_or-map column tracks position d [] lt

-- a track of these, where there is one
pub some-track : (tracks : List PlacedTrack) (position : ℕ) → position < length tracks → PlacedTrack
some-track [] position lt = absurd (omega arith)
some-track (track ∷ tracks) position lt = track

pub size-of-track : (tracks : List PlacedTrack) (position : ℕ) (d : PlacedTrack) → position < length tracks → sum (naturals (get_or tracks position d).sizes) ≤ payload_len tracks
size-of-track [] position d lt = absurd (omega arith)
size-of-track (track ∷ tracks) zero d lt = omega (arith, sum_by-cons (λ (t : PlacedTrack). sum (naturals t.sizes)) track tracks)
size-of-track (track ∷ tracks) (suc position) d lt = omega (arith, size-of-track tracks position d (omega arith), sum_by-cons (λ (t : PlacedTrack). sum (naturals t.sizes)) track tracks)

-- ---- sums of items

next-sum : (column : List ℤ) (i : ℕ) → i < length column → sum (take (suc i) (naturals column)) ≡ sum (take i (naturals column)) + unsigned_abs (slice_index_or column i (pos 0))
next-sum [] i lt = absurd (omega arith)
next-sum (x ∷ column) zero lt = omega (arith, sum_by-cons (λ (n : ℕ). n) (unsigned_abs x) [])
next-sum (x ∷ column) (suc i) lt =
    omega (
      arith,
      next-sum column i (omega arith),
      sum_by-cons (λ (n : ℕ). n) (unsigned_abs x) (take (suc i) (naturals column)),
      sum_by-cons (λ (n : ℕ). n) (unsigned_abs x) (take i (naturals column)),
    )

pub sum-next : (column : List ℤ) (i : ℕ) → i < length column → sum (take (i + 1) (naturals column)) ≡ sum (take i (naturals column)) + unsigned_abs (slice_index_or column i (pos 0))
sum-next column i lt = rw (add-one i) (next-sum column i lt)

pub sum-within : (column : List ℤ) (i : ℕ) → sum (take i (naturals column)) ≤ sum (naturals column)
sum-within column i = sum_by-take-le (λ (n : ℕ). n) (naturals column) i

-- the sum of a range is what the sums of two fronts differ by
pub sum-range : (numbers : List ℕ) (first count : ℕ) → sum (take (first + count) numbers) ≡ sum (take first numbers) + sum (take count (drop first numbers))
sum-range numbers first count = ap sum (take-add first count numbers) ∙ sum_by-append (λ (n : ℕ). n) (take first numbers) (take count (drop first numbers))

-- what a sum up to one item and a sum up to another differ by is the sum of the range
pub range-is : (column other : List ℤ) (first count sum_of : ℕ) → column ≡ other → sum (take first (naturals column)) + sum_of ≡ sum (take (first + count) (naturals column)) → sum_of ≡ sum (take count (drop first (naturals other)))
range-is column other first count sum_of same is =
    let here : sum_of ≡ sum (take count (drop first (naturals column))) = omega (arith, is, sum-range (naturals column) first count) in
    here ∙ ap (λ (xs : List ℤ). sum (take count (drop first (naturals xs)))) same

-- a track has no more samples than all tracks together
pub few-of-track : (tracks : List PlacedTrack) (position : ℕ) (d : PlacedTrack) → position < length tracks → length (get_or tracks position d).deltas ≤ sample_count tracks
few-of-track [] position d lt = absurd (omega arith)
few-of-track (track ∷ tracks) zero d lt = omega (arith, sum_by-cons (λ (t : PlacedTrack). length t.deltas) track tracks)
few-of-track (track ∷ tracks) (suc position) d lt = omega (arith, few-of-track tracks position d (omega arith), sum_by-cons (λ (t : PlacedTrack). length t.deltas) track tracks)

pub any-track : {X : Type 0} (xs : List X) (position : ℕ) (d e : X) → position < length xs → get_or xs position d ≡ get_or xs position e
any-track [] position d e lt = absurd (omega (arith, lt))
any-track (x ∷ xs) zero d e lt = refl
any-track (x ∷ xs) (suc position) d e lt = any-track xs position d e (omega (arith, lt))
