-- Numbers as the words of a line write them.
use Rattle.std.specs.Prelude.{ℕ, ◌+◌, ◌-◌, ◌*◌, ◌^◌, ◌&&◌, nat_le, ℤ, pos, neg_ℤ, Bool, List, length, take, drop, Option, Some, None, option_map, if◌then◌else◌}
use Rattle.std.specs.Bool.{then_some}
use Rattle.std.specs.Char.{is_ascii_digit}
use Rattle.std.specs.List.{list_all}
use Rattle.std.specs.Str.{byte}
use Rattle.std.specs.Str.Parse.{digits_value, starts_with_minus}
use Rattle.mp_frac.specs.declared.time.Frac.{Frac}
use Rattle.mp_words.specs.Marks.{first_place}

-- one decimal digit to so many, and nothing else
abbrev pub are_digits : ℕ → List ℕ → Bool
are_digits most text = nat_le 1 (length text) && nat_le (length text) most && list_all is_ascii_digit text

-- a number from the least to the most, in 1 to 10 decimal digits
abbrev pub number_in : ℕ → ℕ → List ℕ → Option ℕ
number_in least most text =
    then_some (are_digits 10 text && nat_le least (digits_value 10 text) && nat_le (digits_value 10 text) most) (digits_value 10 text)

-- a number up to 4,294,967,295
abbrev pub number_of : List ℕ → Option ℕ
number_of text = number_in 0 (2 ^ 32 - 1) text

-- one that isn't 0
abbrev pub positive_of : List ℕ → Option ℕ
positive_of text = number_in 1 (2 ^ 32 - 1) text

-- a number up to 2,147,483,647, with or without a minus in front
abbrev pub milliseconds_of : List ℕ → Option ℤ
milliseconds_of text =
    if starts_with_minus text
    then option_map (λ n. neg_ℤ (pos n)) (number_in 0 (2 ^ 31 - 1) (drop 1 text))
    else option_map pos (number_in 0 (2 ^ 31 - 1) text)

-- so many whole seconds, and 1 to 9 decimal places
abbrev pub with_places : Option ℕ → List ℕ → Option Frac
with_places None places = None
with_places (Some whole) places =
    then_some (are_digits 9 places)
    (record { n = pos (whole * 10 ^ length places + digits_value 10 places); d = 10 ^ length places })

-- around the point, if there is one
abbrev pub seconds_at : Option ℕ → List ℕ → Option Frac
seconds_at None text = option_map (λ n. record { n = pos n; d = 1 }) (number_of text)
seconds_at (Some point) text = with_places (number_of (take point text)) (drop (point + 1) text)

-- a number of seconds, with or without decimal places
abbrev pub seconds_of : List ℕ → Option Frac
seconds_of text = seconds_at (first_place (byte ".") text) text
