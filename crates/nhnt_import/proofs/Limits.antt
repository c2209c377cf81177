-- A number that passes a limit is kept as one that passes it, and all others are kept as they are.
use Rattle.std.proofs.Common.{◌≡◌, ℕ, ℤ, pos, ◌-ℤ◌, ◌-◌, ◌^◌, Bool, true, false, nat_lt, not, ◌&&◌, ◌||◌, min, max, List, [], ◌∷◌, map, fold, refl, sym, ◌∙◌, arith, inl, inr, ltb-false}
use Rattle.std.specs.Prelude.{unsigned_abs}
use Rattle.std.specs.List.{list_all, list_any}
use Rattle.std.proofs.lemmas.Bool.{cases_Bool}
use Rattle.std.proofs.lemmas.Bool.Decides.{nat_tests}
use Rattle.mp_times.specs.Written.{is_unsigned}
use Rattle.mp_movie.specs.PartsFit.{is_long, is_signed, is_wide}
use Rattle.nhnt_import.specs.declared.unit.AccessUnit.{AccessUnit}
use Rattle.nhnt_import.specs.Times.{offsets}
use Rattle.nhnt_import.specs.Kept.{kept_delta, kept_offset, offset_of}

none_holds : (first second : Bool) → (first || second) ≡ false → (first ≡ false) × (second ≡ false)
none_holds true second none = cc
none_holds false second none = (refl, none)

both_hold : (first second : Bool) → (first && second) ≡ true → (first ≡ true) × (second ≡ true)
both_hold true second both = (refl, both)
both_hold false second both = cc

-- the greatest passes a limit exactly where one does
above : (most least : ℕ) (column : List ℤ)
    → nat_lt most (fold (λ high item. max high (unsigned_abs item)) least column) ≡ (nat_lt most least || list_any (λ item. nat_lt most (unsigned_abs item)) column)
above most least [] = grind (arith, nat_tests)
above most least (item ∷ column) = above most (max least (unsigned_abs item)) column ∙ grind (arith, nat_tests)

pub long_is : (column : List ℤ) → is_long column ≡ list_any (λ item. nat_lt (2 ^ 32 - 1) (unsigned_abs item)) column
long_is column = above (2 ^ 32 - 1) 0 column

abbrev is_long_item : ℤ → Bool
is_long_item item = nat_lt (2 ^ 32 - 1) (unsigned_abs item)

same_item : (n : ℕ) → nat_lt (2 ^ 32 - 1) (min n (2 ^ 32)) ≡ nat_lt (2 ^ 32 - 1) n
same_item n = grind (arith, nat_tests)

same_any : (numbers : List ℕ) → list_any is_long_item (map kept_delta numbers) ≡ list_any is_long_item (map (λ n. pos n) numbers)
same_any [] = refl
same_any (n ∷ numbers) = rw (same_item n, same_any numbers) refl

-- the test is the same of durations as they are kept
pub same_long : (numbers : List ℕ) → is_long (map kept_delta numbers) ≡ is_long (map (λ n. pos n) numbers)
same_long numbers = long_is (map kept_delta numbers) ∙ same_any numbers ∙ sym (long_is (map (λ n. pos n) numbers))

-- and none is changed where none is too long
pub none_long : (numbers : List ℕ) → is_long (map (λ n. pos n) numbers) ≡ false → map kept_delta numbers ≡ map (λ n. pos n) numbers
none_long numbers short = each numbers (sym (long_is (map (λ n. pos n) numbers)) ∙ short)
  where
    each : (numbers : List ℕ) → list_any is_long_item (map (λ n. pos n) numbers) ≡ false → map kept_delta numbers ≡ map (λ n. pos n) numbers
    each [] none = refl
    each (n ∷ numbers) none =
        let passes = none_holds (is_long_item (pos n)) (list_any is_long_item (map (λ n. pos n) numbers)) none in
        let small : min n (2 ^ 32) ≡ n = omega (arith, ltb-false (2 ^ 32 - 1) n passes.0) in
        rw (small, each numbers passes.1) refl

same_unsigned : (offset : ℤ) → is_unsigned (kept_offset offset) ≡ is_unsigned offset
unfolding kept_offset
same_unsigned offset = by (is_unsigned offset) (is_signed offset) refl refl
  where
    by : (unsigned signed : Bool) → is_unsigned offset ≡ unsigned → is_signed offset ≡ signed → is_unsigned (kept_offset offset) ≡ is_unsigned offset
    by true signed u s = rw u u
    by false true u s = rw (u, s) u
    by false false u s = rw (u, s) refl

same_signed : (offset : ℤ) → is_signed (kept_offset offset) ≡ is_signed offset
unfolding kept_offset
same_signed offset = by (is_unsigned offset) (is_signed offset) refl refl
  where
    by : (unsigned signed : Bool) → is_unsigned offset ≡ unsigned → is_signed offset ≡ signed → is_signed (kept_offset offset) ≡ is_signed offset
    by true signed u s = rw u refl
    by false true u s = rw (u, s) s
    by false false u s = rw (u, s) refl

kept_unsigned : (offset : ℤ) → is_unsigned offset ≡ true → kept_offset offset ≡ offset
unfolding kept_offset
kept_unsigned offset fits = rw fits refl

kept_signed : (offset : ℤ) → is_signed offset ≡ true → kept_offset offset ≡ offset
unfolding kept_offset
kept_signed offset fits = elim (cases_Bool (is_unsigned offset)) [ inl u ↦ rw u refl | inr u ↦ rw (u, fits) refl ]

same_all : (fits : ℤ → Bool) → ((offset : ℤ) → fits (kept_offset offset) ≡ fits offset) → (units : List AccessUnit) → list_all fits (map offset_of units) ≡ list_all fits (offsets units)
same_all fits same [] = refl
same_all fits same (unit ∷ units) = rw (same (pos unit.composition -ℤ pos unit.decode), same_all fits same units) refl

-- the test is the same of offsets as they are kept
pub same_wide : (units : List AccessUnit) → is_wide (map offset_of units) ≡ is_wide (offsets units)
same_wide units = rw (same_all is_unsigned same_unsigned units, same_all is_signed same_signed units) refl

kept_all : (fits : ℤ → Bool) → ((offset : ℤ) → fits offset ≡ true → kept_offset offset ≡ offset) → (units : List AccessUnit) → list_all fits (offsets units) ≡ true
    → map offset_of units ≡ offsets units
kept_all fits kept [] all = refl
kept_all fits kept (unit ∷ units) all =
    let offset = pos unit.composition -ℤ pos unit.decode in
    let both = both_hold (fits offset) (list_all fits (offsets units)) all in
    rw (kept offset both.0, kept_all fits kept units both.1) refl

-- and none is changed where they fit
pub none_wide : (units : List AccessUnit) → is_wide (offsets units) ≡ false → map offset_of units ≡ offsets units
none_wide units narrow = by (list_all is_unsigned (offsets units)) (list_all is_signed (offsets units)) refl refl narrow
  where
    by : (unsigned signed : Bool) → list_all is_unsigned (offsets units) ≡ unsigned → list_all is_signed (offsets units) ≡ signed → (not unsigned && not signed) ≡ false
        → map offset_of units ≡ offsets units
    by true signed u s none = kept_all is_unsigned kept_unsigned units u
    by false true u s none = kept_all is_signed kept_signed units s
    by false false u s none = cc
