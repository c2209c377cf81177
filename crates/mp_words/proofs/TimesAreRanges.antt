-- The two times of a cut are those of a range.
use Rattle.std.proofs.Common.{◌≡◌, ℕ, ◌+◌, ◌-◌, ◌*◌, ◌^◌, ◌<◌, ◌≤◌, Bool, true, false, nat_le, ◌&&◌, pos, ◌≤ℤ◌, List, length, take, drop, Option, Some, None, IfSome, option_map, refl, arith}
use Rattle.std.proofs.lemmas.Bool.Decides.{nat_tests}
use Rattle.std.proofs.lemmas.Int.{ints}
use Rattle.std.proofs.Math.Nat.{mul-le-mul, pow-le-pow_right}
use Rattle.std.specs.Bool.{then_some}
use Rattle.std.specs.Char.{is_ascii_digit}
use Rattle.std.specs.List.{list_all}
use Rattle.std.specs.Str.{byte}
use Rattle.std.specs.Str.Parse.{digits_value}
use Rattle.mp_frac.specs.declared.time.Frac.{Frac}
use Rattle.mp_frac.specs.Time.{IsInRange}
use Rattle.mp_words.specs.Arguments.{both}
use Rattle.mp_words.specs.Jobs.{Cuts, IsAsked}
use Rattle.mp_words.specs.Marks.{first_place}
use Rattle.mp_words.specs.Numbers.{are_digits, number_of, seconds_at, seconds_of, with_places}
use Rattle.mp_words.proofs.Digits.{digits-short}

-- a time that isn't before 0, in range
record IsMoment (time : Frac) : Type 0 where
  range : IsInRange time
  after : pos 0 ≤ℤ time.n

short_number : (text : List ℕ) → IfSome (number_of text) (λ n. n < 2 ^ 32)
short_number text = by (are_digits 10 text) (nat_le 0 (digits_value 10 text)) (nat_le (digits_value 10 text) (2 ^ 32 - 1)) (λ e. grind (arith, nat_tests, e))
  where
    by : (digits low high : Bool) → (high ≡ true → digits_value 10 text < 2 ^ 32) → IfSome (then_some (digits && low && high) (digits_value 10 text)) (λ n. n < 2 ^ 32)
    by true true true h = h refl
    by true true false h = tt
    by true false high h = tt
    by false low high h = tt

moment : (n d : ℕ) → 0 < d → n < 2 ^ 94 → IsMoment (record { n = pos n; d = d })
moment n d some short = record { range = record { some = some; small = short }; after = omega (arith, ints) }

-- what so many decimal places leave of 128 bits
fits : (whole value len : ℕ) → whole < 2 ^ 32 → value < 10 ^ 9 → len ≤ 9 → whole * 10 ^ len + value < 2 ^ 94
fits whole value len short less few =
    let power : 10 ^ len ≤ 10 ^ 9 = pow-le-pow_right {n = 10} (omega arith) few in
    let product : whole * 10 ^ len ≤ 2 ^ 32 * 10 ^ 9 = mul-le-mul {n₂ = 2 ^ 32} (omega (arith, short)) power in
    omega (arith, product, less)

each_place : (whole : ℕ) (places : List ℕ) → whole < 2 ^ 32 → IfSome (with_places (Some whole) places) IsMoment
each_place whole places short = by (nat_le 1 (length places)) (nat_le (length places) 9) (list_all is_ascii_digit places) (λ e. grind (arith, nat_tests, e)) (λ few are. digits-short places 9 are few)
  where
    by : (some few are : Bool) → (few ≡ true → length places ≤ 9) → (length places ≤ 9 → are ≡ true → digits_value 10 places < 10 ^ 9)
        → IfSome (then_some (some && few && are) (record { n = pos (whole * 10 ^ length places + digits_value 10 places); d = 10 ^ length places })) IsMoment
    by true true true few value = moment (whole * 10 ^ length places + digits_value 10 places) (10 ^ length places) (power (length places)) (fits whole (digits_value 10 places) (length places) short (value (few refl) refl) (few refl))
      where
        power : (k : ℕ) → 0 < 10 ^ k
        power k = let first : 0 ≤ k = omega arith in pow-le-pow_right {n = 10} (omega arith) first
    by true true false few value = tt
    by true false are few value = tt
    by false some are few value = tt

each_time : (point : Option ℕ) (text : List ℕ) → IfSome (seconds_at point text) IsMoment
each_time None text = by (number_of text) (short_number text)
  where
    by : (found : Option ℕ) → IfSome found (λ n. n < 2 ^ 32) → IfSome (option_map (λ n. record { n = pos n; d = 1 }) found) IsMoment
    by None short = tt
    by (Some n) short = moment n 1 (omega arith) (omega (arith, short))
each_time (Some point) text = by (number_of (take point text)) (short_number (take point text))
  where
    by : (found : Option ℕ) → IfSome found (λ n. n < 2 ^ 32) → IfSome (with_places found (drop (point + 1) text)) IsMoment
    by None short = tt
    by (Some whole) short = each_place whole (drop (point + 1) text) short

-- what is asked by two times
pub each_range : (from to : List ℕ) → IfSome (both Cuts (seconds_of from) (seconds_of to)) IsAsked
each_range from to = pair (seconds_of from) (seconds_of to) (each_time (first_place (byte ".") from) from) (each_time (first_place (byte ".") to) to)
  where
    pair : (begin end : Option Frac) → IfSome begin IsMoment → IfSome end IsMoment → IfSome (both Cuts begin end) IsAsked
    pair None None a b = tt
    pair None (Some end) a b = tt
    pair (Some begin) None a b = tt
    pair (Some begin) (Some end) a b = record { some_begin = a.range; some_end = b.range; begin = a.after; end = b.after }
