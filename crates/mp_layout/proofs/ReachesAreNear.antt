-- The numbers of tracks tell which sets of tracks are closed, and which is the least.
use Rattle.std.proofs.Common.{◌≡◌, ℕ, zero, suc, ◌+◌, ◌-◌, ◌*◌, ◌^◌, ◌<◌, Bool, true, false, cond, ◌||◌, ◌&&◌, ◌==◌, nat_le, List, [], ◌∷◌, length, map, get_or, refl, sym, ap, ◌∙◌, arith}
use Rattle.std.specs.Prelude.{max}
use Rattle.std.specs.List.{list_all, range_with_len}
use Rattle.std.proofs.lemmas.Bool.{ne_eqb}
use Rattle.mp_chunks.specs.declared.push.ChunkHead.{ChunkHead}
use Rattle.mp_chunks.specs.Written.{PlacedChunk, PlacesChangeNoLength, head_of}
use Rattle.mp_timeline.specs.Movie.{MovieRecord, TrackRecord}
use Rattle.mp_interleave.specs.Samples.{SampleChunk}
use Rattle.mp_layout.specs.declared.wide.Reach.{Reach}
use Rattle.mp_layout.specs.Order.{chunk_bytes, chunks_at, placed}
use Rattle.mp_layout.specs.File.{IsLeastClosed, is_closed, payload_place}
use Rattle.mp_layout.specs.Chunked.{furthest}
use Rattle.mp_layout.specs.Wide.{IsLeastSet, chunks_in, fits, place_of, reach_at}
use Rattle.mp_layout.proofs.FrontLengths.{all_more, place-adds, wide_more}

-- ---- the furthest place decides

max-near : (a place from far : ℕ) → a ≡ place + from → (nat_le a (2 ^ 32 - 1) && nat_le (place + far) (2 ^ 32 - 1)) ≡ nat_le (place + max from far) (2 ^ 32 - 1)
max-near a place from far e = grind (arith, e)

only-near : (a place from : ℕ) → a ≡ place + from → (nat_le a (2 ^ 32 - 1) && true) ≡ nat_le (place + max from 0) (2 ^ 32 - 1)
only-near a place from e = grind (arith, e)

-- each of these chunks is near where the payload stands at `place`
abbrev pub all_near : ℕ → List ChunkHead → Bool
all_near place heads = (length heads == 0) || nat_le (place + furthest heads) (2 ^ 32 - 1)

pub some-near : (place : ℕ) (head : ChunkHead) (heads : List ChunkHead) → all_near place (head ∷ heads) ≡ nat_le (place + furthest (head ∷ heads)) (2 ^ 32 - 1)
some-near place head heads = rw (ne_eqb (length (head ∷ heads)) 0 (λ e. omega (arith, e))) refl

one-near : (a place from : ℕ) (heads : List ChunkHead) (later : Bool) → a ≡ place + from → later ≡ all_near place heads → (nat_le a (2 ^ 32 - 1) && later) ≡ nat_le (place + max from (furthest heads)) (2 ^ 32 - 1)
one-near a place from [] later e is = ap (λ b. nat_le a (2 ^ 32 - 1) && b) is ∙ only-near a place from e
one-near a place from (head ∷ heads) later e is = ap (λ b. nat_le a (2 ^ 32 - 1) && b) (is ∙ some-near place head heads) ∙ max-near a place from (furthest (head ∷ heads)) e

pub near-by-furthest : (position place from a : ℕ) (chunks : List SampleChunk) → a ≡ place + from
    → list_all (λ chunk. nat_le chunk.place (2 ^ 32 - 1)) (chunks_at position a chunks) ≡ all_near place (map head_of (chunks_at position from chunks))
near-by-furthest position place from a [] e = refl
near-by-furthest position place from a (chunk ∷ chunks) e =
    by (chunk.track == position) (near-by-furthest position place (from + length (chunk_bytes chunk)) (a + length (chunk_bytes chunk)) chunks (omega (arith, e)))
  where
    by : (own : Bool) → list_all (λ (c : PlacedChunk). nat_le c.place (2 ^ 32 - 1)) (chunks_at position (a + length (chunk_bytes chunk)) chunks) ≡ all_near place (map head_of (chunks_at position (from + length (chunk_bytes chunk)) chunks))
        → list_all (λ (c : PlacedChunk). nat_le c.place (2 ^ 32 - 1)) (cond own (placed a chunk ∷ chunks_at position (a + length (chunk_bytes chunk)) chunks) (chunks_at position (a + length (chunk_bytes chunk)) chunks))
        ≡ all_near place (map head_of (cond own (placed from chunk ∷ chunks_at position (from + length (chunk_bytes chunk)) chunks) (chunks_at position (from + length (chunk_bytes chunk)) chunks)))
    by true later =
        one-near a place from (map head_of (chunks_at position (from + length (chunk_bytes chunk)) chunks)) _ e later
        ∙ sym (some-near place (head_of (placed from chunk)) (map head_of (chunks_at position (from + length (chunk_bytes chunk)) chunks)))
    by false later = later

-- ---- tests over positions

same-tests : (f g : ℕ → Bool) (from n : ℕ) → ((k : ℕ) → k < from + n → f k ≡ g k) → list_all f (range_with_len from n) ≡ list_all g (range_with_len from n)
same-tests f g from zero same = refl
same-tests f g from (suc n) same = λ i. same from (omega arith) i && same-tests f g (from + 1) n (λ k lt. same k (omega (arith, lt))) i

-- ---- numbers of tracks that are right

pub record AreRight (movie : MovieRecord) (chunks : List SampleChunk) (reaches : List Reach) : Type 0 where
  pub len : length reaches ≡ length movie.tracks
  pub count : (position : ℕ) → position < length reaches → (reach_at reaches position).chunks ≡ length (map head_of (chunks_at position 0 chunks))
  pub last : (position : ℕ) → position < length reaches → (reach_at reaches position).furthest ≡ furthest (map head_of (chunks_at position 0 chunks))

closed-is : (movie : MovieRecord) (chunks : List SampleChunk) (reaches : List Reach) (set : List Bool) → AreRight movie chunks reaches → is_closed movie chunks set ≡ fits (payload_place movie chunks set) reaches set
closed-is movie chunks reaches set right =
    let place = payload_place movie chunks set in
    ap (λ (n : ℕ). list_all (λ position. get_or set position true || list_all (λ (chunk : PlacedChunk). nat_le chunk.place (2 ^ 32 - 1)) (chunks_at position place chunks)) (range_with_len 0 n)) (sym right.len)
    ∙ same-tests _ _ 0 (length reaches) (λ k lt.
    let inside : k < length reaches = omega (arith, lt) in
    ap (λ b. get_or set k true || b)
    (near-by-furthest k place 0 place chunks (omega arith)
    ∙ sym (λ i. (right.count k inside i == 0) || nat_le (place + right.last k inside i) (2 ^ 32 - 1))))

-- ---- how much longer `moov` is

more-is : (chunks : List SampleChunk) (whole set : List Bool) (reaches : List Reach) (tracks : List TrackRecord) (from : ℕ) → length reaches ≡ length tracks → length set ≡ length reaches
    → ((k at : ℕ) → from + k ≡ at → k < length reaches → get_or whole at false ≡ get_or set k false)
    → ((k at : ℕ) → from + k ≡ at → k < length reaches → (reach_at reaches k).chunks ≡ length (chunks_at at 0 chunks))
    → all_more (wide_more chunks whole) from tracks ≡ 4 * chunks_in reaches set
more-is chunks whole set [] [] from long flags same count = refl
more-is chunks whole set [] (track ∷ tracks) from long flags same count = absurd (omega (arith, long))
more-is chunks whole set (reach ∷ reaches) [] from long flags same count = absurd (omega (arith, long))
more-is chunks whole [] (reach ∷ reaches) (track ∷ tracks) from long flags same count = absurd (omega (arith, flags))
more-is chunks whole (wide ∷ set) (reach ∷ reaches) (track ∷ tracks) from long flags same count =
    let rest = more-is chunks whole set reaches tracks (from + 1) (omega (arith, long)) (omega (arith, flags)) (λ k at e lt. same (suc k) at (omega (arith, e)) (omega (arith, lt))) (λ k at e lt. count (suc k) at (omega (arith, e)) (omega (arith, lt))) in
    let flag : get_or whole from false ≡ wide = same zero from (omega arith) (omega arith) in
    let many : reach.chunks ≡ length (chunks_at from 0 chunks) = count zero from (omega arith) (omega arith) in
    by (get_or whole from false) wide flag many rest
  where
    by : (one other : Bool) → one ≡ other → reach.chunks ≡ length (chunks_at from 0 chunks) → all_more (wide_more chunks whole) (from + 1) tracks ≡ 4 * chunks_in reaches set
        → cond one (4 * length (chunks_at from 0 chunks)) 0 + all_more (wide_more chunks whole) (from + 1) tracks ≡ 4 * (cond other reach.chunks 0 + chunks_in reaches set)
    by true true e many rest = omega (arith, many, rest)
    by true false e many rest = absurd (no e)
      where
        no : true ≡ false → ⊥
        no e = cc
    by false true e many rest = absurd (no e)
      where
        no : false ≡ true → ⊥
        no e = cc
    by false false e many rest = omega (arith, rest)

many-heads : (position : ℕ) (chunks : List SampleChunk) → length (map head_of (chunks_at position 0 chunks)) ≡ length (chunks_at position 0 chunks)
many-heads position chunks = length-map-heads (chunks_at position 0 chunks)
  where
    length-map-heads : (cs : List PlacedChunk) → length (map head_of cs) ≡ length cs
    length-map-heads [] = refl
    length-map-heads (c ∷ cs) = ap suc (length-map-heads cs)

pub more-in : (movie : MovieRecord) (chunks : List SampleChunk) (reaches : List Reach) (set : List Bool) → AreRight movie chunks reaches → length set ≡ length reaches
    → all_more (wide_more chunks set) 0 movie.tracks ≡ 4 * chunks_in reaches set
more-in movie chunks reaches set right flags =
    more-is chunks set set reaches movie.tracks 0 right.len flags
    (λ k at e lt. let same : at ≡ k = omega (arith, e) in ap (λ (n : ℕ). get_or set n false) same)
    (λ k at e lt. let same : k ≡ at = omega (arith, e) in right.count k lt ∙ (many-heads k chunks ∙ ap (λ (n : ℕ). length (chunks_at n 0 chunks)) same))

pub place-is : PlacesChangeNoLength → (movie : MovieRecord) (chunks : List SampleChunk) (reaches : List Reach) (set : List Bool) → AreRight movie chunks reaches → length set ≡ length reaches
    → payload_place movie chunks set ≡ place_of (payload_place movie chunks []) reaches set
place-is law movie chunks reaches set right flags = omega (arith, place-adds law movie chunks set, more-in movie chunks reaches set right flags)

-- ---- the least set

pub least-closed : PlacesChangeNoLength → (movie : MovieRecord) (chunks : List SampleChunk) (reaches : List Reach) (set : List Bool) → AreRight movie chunks reaches → IsLeastSet (payload_place movie chunks []) reaches set
    → IsLeastClosed movie chunks set
least-closed law movie chunks reaches set right least = record {
  flags = least.flags ∙ right.len;
  closed = closed-is movie chunks reaches set right ∙ (ap (λ (p : ℕ). fits p reaches set) (place-is law movie chunks reaches set right least.flags) ∙ least.closed);
  least = λ others long closed.
      let flags : length others ≡ length reaches = long ∙ sym right.len in
      least.least others flags (ap (λ (p : ℕ). fits p reaches others) (sym (place-is law movie chunks reaches others right flags)) ∙ (sym (closed-is movie chunks reaches others right) ∙ closed));
}
