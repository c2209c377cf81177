-- The columns of units, as they are kept while they are read, and closed.
use Rattle.std.proofs.Common.{◌≡◌, ◌-◌, ◌<◌, ℕ, ℤ, pos, suc, List, [], ◌∷◌, ◌++◌, length, map, get_or, refl, sym, ap, ◌∙◌, arith, ◌==◌, false, ne_eqb}
use Rattle.std.proofs.lemmas.List.{map_push, length-map, take_all}
use Rattle.nhnt_import.specs.declared.unit.AccessUnit.{AccessUnit}
use Rattle.nhnt_import.specs.Unit.{is_sync}
use Rattle.nhnt_import.specs.Times.{durations, gaps, last_number}
use Rattle.nhnt_import.specs.Placed.{piece_of}
use Rattle.nhnt_import.specs.Kept.{closed, columns_so_far, kept_delta, last_decode, offset_of, with_unit}
use Rattle.mp_movie.specs.Placed.{mark_of}

pub length-gaps : (before : ℕ) (units : List AccessUnit) → length (gaps before units) ≡ length units
length-gaps before [] = refl
length-gaps before (unit ∷ units) = ap suc (length-gaps unit.decode units)

gaps_push : (before : ℕ) (units : List AccessUnit) (unit : AccessUnit) → gaps before (units ++ unit ∷ []) ≡ gaps before units ++ (unit.decode - last_decode before units) ∷ []
gaps_push before [] unit = refl
gaps_push before (first ∷ units) unit = ap (λ (numbers : List ℕ). (first.decode - before) ∷ numbers) (gaps_push first.decode units unit)

pub last_decode_push : (before : ℕ) (units : List AccessUnit) (unit : AccessUnit) → last_decode before (units ++ unit ∷ []) ≡ unit.decode
last_decode_push before [] unit = refl
last_decode_push before (first ∷ units) unit = last_decode_push first.decode units unit

-- a unit more
pub columns_grow : (file : ℕ) (units : List AccessUnit) (unit : AccessUnit)
    → with_unit file (columns_so_far file units) (last_decode 0 units) unit ≡ columns_so_far file (units ++ unit ∷ [])
unfolding columns_so_far
columns_grow file units unit =
    let d = ap (map kept_delta) (gaps_push 0 units unit) ∙ map_push kept_delta (gaps 0 units) (unit.decode - last_decode 0 units) in
    rw (d, map_push offset_of units unit, map_push (λ (u : AccessUnit). mark_of (is_sync u)) units unit, map_push (λ (u : AccessUnit). pos u.len) units unit, map_push (piece_of file) units unit) refl

-- the last of a column
last_is : (first : ℕ) (numbers : List ℕ) → get_or (map kept_delta (first ∷ numbers)) (length numbers) (pos 0) ≡ kept_delta (last_number first numbers)
last_is first [] = refl
last_is first (number ∷ numbers) = last_is number numbers

closed_is : (first : ℤ) (rest : List ℤ) (last : ℤ) → 0 < length rest → get_or (first ∷ rest) (length rest) (pos 0) ≡ last → closed (first ∷ rest) ≡ rest ++ last ∷ []
unfolding closed
closed_is first rest last some is =
    let index : suc (length rest) - 1 ≡ length rest = omega arith in
    let filled : (suc (length rest) == 0) ≡ false = ne_eqb (suc (length rest)) 0 (λ e. omega arith) in
    let several : (suc (length rest) == 1) ≡ false = ne_eqb (suc (length rest)) 1 (λ e. omega (arith, some)) in
    rw (filled, several, index, is, take_all (length rest) rest (omega arith)) refl

-- how much later each is decoded than the one before it, closed, is how long each lasts
pub closing : (units : List AccessUnit) → closed (map kept_delta (gaps 0 units)) ≡ map kept_delta (durations units)
unfolding closed durations
closing [] = refl
closing (unit ∷ []) = refl
closing (unit ∷ next ∷ units) =
    let between = gaps unit.decode (next ∷ units) in
    let last : get_or (kept_delta (unit.decode - 0) ∷ map kept_delta between) (length (map kept_delta between)) (pos 0) ≡ kept_delta (last_number 0 between) =
    ap (λ n. get_or (kept_delta (unit.decode - 0) ∷ map kept_delta between) n (pos 0)) (length-map between kept_delta) ∙ last_is (unit.decode - 0) between in
    closed_is (kept_delta (unit.decode - 0)) (map kept_delta between) (kept_delta (last_number 0 between)) (omega arith) last
    ∙ sym (map_push kept_delta between (last_number 0 between))
