-- The number that decimal digits write, digit by digit.
use Rattle.std.proofs.Common.{◌≡◌, ℕ, ◌+◌, ◌-◌, ◌*◌, ◌^◌, ◌<◌, ◌≤◌, List, take, length, get_or, true, ap, ◌∙◌, rules, arith}
use Rattle.std.specs.Char.{is_ascii_digit, digit_value}
use Rattle.std.specs.Int.{IsInRange}
use Rattle.std.specs.List.{list_all}
use Rattle.std.specs.Str.Parse.{digits_value}
use Rattle.std.proofs.lemmas.Int.Digits.{digits_value_more}
use Rattle.std.proofs.lemmas.Str.Parse.{IsNumeralModel, numerals_by_value, digit_at, digits_value_short, digits_value-take-le}

own : IsNumeralModel (λ ds. list_all is_ascii_digit ds ≡ true) (digits_value 10)
own = numerals_by_value (λ ds. list_all is_ascii_digit ds ≡ true) (search rules)

-- digits write a number below the power of their count
pub digits-short : (digits : List ℕ) (most : ℕ) → list_all is_ascii_digit digits ≡ true → length digits ≤ most → digits_value 10 digits < 10 ^ most
digits-short digits most are few = digits_value_short own digits most are few

-- one more digit
pub record TakesDigit (digits : List ℕ) (i : ℕ) : Type 0 where
  pub least : 48 ≤ get_or digits i 0
  pub most : get_or digits i 0 ≤ 57
  pub value : digits_value 10 (take (i + 1) digits) ≡ digits_value 10 (take i digits) * 10 + (get_or digits i 0 - 48)
  pub small : digits_value 10 (take (i + 1) digits) < 10 ^ 10

value_of : (c : ℕ) → 48 ≤ c → c ≤ 57 → digit_value c ≡ c - 48
value_of c low high = grind arith

pub takes_digit : (digits : List ℕ) (i : ℕ) → list_all is_ascii_digit digits ≡ true → length digits ≤ 10 → i < length digits → TakesDigit digits i
takes_digit digits i are few inside =
    let digit : IsInRange 48 57 (get_or digits i 0) = digit_at digits i (own.to digits are) inside in
    record {
      least = digit.0;
      most = digit.1;
      value = digits_value_more 10 digits i inside ∙ ap (λ (n : ℕ). digits_value 10 (take i digits) * 10 + n) (value_of _ digit.0 digit.1);
      small = omega (arith, digits_value-take-le 10 digits (i + 1) (omega arith), digits-short digits 10 are few);
    }
