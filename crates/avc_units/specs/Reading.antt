-- Elements read from the front of bits (H.264, 7.2 and 9.1).
use Rattle.std.specs.Prelude.{ℕ, zero, suc, ◌+◌, ◌-◌, ◌^◌, ◌/◌, ◌%◌, ◌==◌, ◌||◌, List, [], ◌∷◌, length, take, drop, nat_lt, if◌then◌else◌, Option, Some, None, option_map, ℤ, pos, neg_ℤ}
use Rattle.avc_units.specs.Bits.{Kind, number}
use Rattle.avc_units.specs.Bits.Kind.{U, Ue}

-- how many zeros stand in front
abbrev pub zeros_of : List ℕ → ℕ
zeros_of [] = 0
zeros_of (zero ∷ rest) = suc (zeros_of rest)
zeros_of (suc n ∷ rest) = 0

-- the value, and the bits that are left; none where the bits end before, or more than 31 zeros stand in front of a code
unfoldable pub read : Kind → List ℕ → Option (ℕ × List ℕ)
read (U n) bits = if nat_lt (length bits) n then None else Some (number (take n bits), drop n bits)
read Ue bits =
    let z = zeros_of bits in
    if nat_lt 31 z || nat_lt (length bits) (z + 1 + z)
    then None
    else Some (2 ^ z - 1 + number (take z (drop (z + 1) bits)), drop (z + 1 + z) bits)

-- the signed number of a code: 0, 1, -1, 2, -2, .. (9.1.1)
abbrev pub signed : ℕ → ℤ
signed k = if k % 2 == 1 then pos (k / 2 + 1) else neg_ℤ (pos (k / 2))

-- a code, read as the signed number that it stands for
abbrev pub read_signed : List ℕ → Option (ℤ × List ℕ)
read_signed bits = option_map (λ found. (signed found.0, found.1)) (read Ue bits)
