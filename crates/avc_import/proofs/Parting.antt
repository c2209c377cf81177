-- The pieces of one picture among those of all.
use Rattle.std.proofs.Common.{◌≡◌, ℕ, zero, suc, ◌+◌, ◌-◌, ◌<◌, ◌≤◌, ◌==◌, Bool, true, false, List, [], ◌∷◌, ◌++◌, length, map, take, drop, get_or, refl, sym, ap, ◌∙◌, arith, append_assoc, length-append, eqb-true}
use Rattle.std.specs.Prelude.{slice_index, if◌then◌else◌}
use Rattle.std.specs.List.{flat_map}
use Rattle.std.proofs.lemmas.List.{length-map, map-append}
use Rattle.mp_pieces.specs.declared.piece.Piece.{Piece}
use Rattle.avc_units.specs.declared.reader.UnitSpan.{UnitSpan}
use Rattle.avc_import.specs.Pictures.{AreCut, ends_from, piece_of}

-- where a part begins
abbrev begin : {X : Type 0} → ℕ → List (List X) → ℕ → ℕ
begin n parts zero = n
begin n parts (suc k) = slice_index (ends_from n parts) k

begin_next : {X : Type 0} (n k : ℕ) (part : List X) (parts : List (List X)) → begin n (part ∷ parts) (suc k) ≡ begin (n + length part) parts k
begin_next n zero part parts = refl
begin_next n (suc k) part parts = refl

-- it ends not before it begins, inside of what all parts have
record Lies {X : Type 0} (n k : ℕ) (parts : List (List X)) : Type 0 where
  from : n ≤ begin n parts k
  some : begin n parts k ≤ begin n parts (suc k)
  inside : begin n parts (suc k) ≤ n + length (flat_map (λ part. part) parts)

lies : {X : Type 0} (n k : ℕ) (parts : List (List X)) → k < length parts → Lies n k parts
lies n k [] inside = absurd (omega arith)
lies n zero (part ∷ parts) inside = record {
  from = omega arith;
  some = omega arith;
  inside = omega (arith, length-append part (flat_map (λ part. part) parts));
}
lies n (suc k) (part ∷ parts) inside =
    let rest = lies (n + length part) k parts (omega (arith, inside)) in
    record {
      from = omega (arith, begin_next n k part parts, rest.from);
      some = omega (arith, begin_next n k part parts, begin_next n (suc k) part parts, rest.some);
      inside = omega (arith, begin_next n (suc k) part parts, rest.inside, length-append part (flat_map (λ part. part) parts));
    }

front : {X : Type 0} (xs ys : List X) → take (length xs) (xs ++ ys) ≡ xs
front [] ys = refl
front (x ∷ xs) ys = ap (λ t. x ∷ t) (front xs ys)

behind : {X : Type 0} (n : ℕ) (xs ys : List X) → drop (length xs + n) (xs ++ ys) ≡ drop n ys
behind n [] ys = let same : 0 + n ≡ n = omega arith in ap (λ k. drop k ys) same
behind n (x ∷ xs) ys = let next : suc (length xs) + n ≡ suc (length xs + n) = omega arith in ap (λ k. drop k (x ∷ xs ++ ys)) next ∙ behind n xs ys

-- a part is cut out between its ends
cut_out : {X Y : Type 0} (f : X → Y) (n k : ℕ) (parts : List (List X)) (more : List Y) → k < length parts
    → take (begin n parts (suc k) - begin n parts k) (drop (begin n parts k - n) (map f (flat_map (λ part. part) parts) ++ more)) ≡ map f (get_or parts k [])
cut_out f n k [] more inside = absurd (omega arith)
cut_out f n zero (part ∷ parts) more inside =
    let len : n + length part - n ≡ length (map f part) = omega (arith, length-map part f) in
    let none : n - n ≡ 0 = omega arith in
    let rest = map f (flat_map (λ part. part) parts) ++ more in
    rw (len, none)
    (ap (take (length (map f part))) (ap (λ t. t ++ more) (map-append f part (flat_map (λ part. part) parts)) ∙ append_assoc (map f part) (map f (flat_map (λ part. part) parts)) more) ∙ front (map f part) rest)
cut_out f n (suc k) (part ∷ parts) more inside =
    let rest = lies (n + length part) k parts (omega (arith, inside)) in
    let skipped : begin (n + length part) parts k - n ≡ length (map f part) + (begin (n + length part) parts k - (n + length part)) = omega (arith, rest.from, length-map part f) in
    let tail = map f (flat_map (λ part. part) parts) ++ more in
    let joined : map f (flat_map (λ part. part) (part ∷ parts)) ++ more ≡ map f part ++ tail =
    ap (λ t. t ++ more) (map-append f part (flat_map (λ part. part) parts)) ∙ append_assoc (map f part) (map f (flat_map (λ part. part) parts)) more in
    rw (begin_next n k part parts, begin_next n (suc k) part parts, joined, skipped, behind (begin (n + length part) parts k - (n + length part)) (map f part) tail)
    (cut_out f (n + length part) k parts more (omega (arith, inside)))

-- ---- of pictures

length-ends : {X : Type 0} (n : ℕ) (parts : List (List X)) → length (ends_from n parts) ≡ length parts
length-ends n [] = refl
length-ends n (part ∷ parts) = ap suc (length-ends (n + length part) parts)

pub parts_len : (file : ℕ) (parts : List (List UnitSpan)) (pieces : List Piece) (ends : List ℕ) → AreCut file parts pieces ends → length parts ≡ length ends
parts_len file parts pieces ends cut = sym (ap length cut.ends_are ∙ length-ends 0 parts)

-- where the first piece of picture k stands
abbrev pub from_of : List ℕ → ℕ → ℕ
from_of ends k = if k == 0 then 0 else slice_index ends (k - 1)

from_is : {X : Type 0} (parts : List (List X)) (ends : List ℕ) (k : ℕ) → ends ≡ ends_from 0 parts → from_of ends k ≡ begin 0 parts k
from_is parts ends zero is = refl
from_is parts ends (suc k) is = by_test (suc k == 0) refl
  where
    by_test : (b : Bool) → (suc k == 0) ≡ b → (if b then 0 else slice_index ends (suc k - 1)) ≡ slice_index (ends_from 0 parts) k
    by_test true test = absurd (let none = eqb-true (suc k) 0 test in omega (arith, none))
    by_test false test =
        let before : suc k - 1 ≡ k = omega arith in
        rw before (ap (λ (ends : List ℕ). slice_index ends k) is)

pub record Inside (file : ℕ) (pieces : List Piece) (ends : List ℕ) (k : ℕ) : Type 0 where
  pub some : from_of ends k ≤ slice_index ends k
  pub within : slice_index ends k ≤ length pieces

pub inside : (file : ℕ) (parts : List (List UnitSpan)) (pieces : List Piece) (ends : List ℕ) (k : ℕ) → AreCut file parts pieces ends → k < length ends → Inside file pieces ends k
inside file parts pieces ends k cut few =
    let at = lies 0 k parts (omega (arith, few, parts_len file parts pieces ends cut)) in
    let from = from_is parts ends k cut.ends_are in
    let end : slice_index ends k ≡ begin 0 parts (suc k) = ap (λ (ends : List ℕ). slice_index ends k) cut.ends_are in
    record {
      some = omega (arith, at.some, from, end);
      within = omega (arith, at.inside, end, ap length cut.joined, length-append (map (piece_of file) (flat_map (λ (part : List UnitSpan). part) parts)) cut.more, length-map (flat_map (λ (part : List UnitSpan). part) parts) (piece_of file));
    }

pub part_is : (file : ℕ) (parts : List (List UnitSpan)) (pieces : List Piece) (ends : List ℕ) (k : ℕ) → AreCut file parts pieces ends → k < length ends
    → take (slice_index ends k - from_of ends k) (drop (from_of ends k) pieces) ≡ map (piece_of file) (get_or parts k [])
part_is file parts pieces ends k cut few =
    let from = from_is parts ends k cut.ends_are in
    let end : slice_index ends k ≡ begin 0 parts (suc k) = ap (λ (ends : List ℕ). slice_index ends k) cut.ends_are in
    let none : begin 0 parts k - 0 ≡ begin 0 parts k = omega arith in
    rw (from, end, cut.joined) (ap (λ (n : ℕ). take (begin 0 parts (suc k) - begin 0 parts k) (drop n (map (piece_of file) (flat_map (λ (part : List UnitSpan). part) parts) ++ cut.more))) (sym none)
    ∙ cut_out (piece_of file) 0 k parts cut.more (omega (arith, few, parts_len file parts pieces ends cut)))
