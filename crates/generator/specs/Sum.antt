-- The sum of bytes by Fowler, Noll and Vo (FNV-1a), of 64 bits: each byte is mixed in, and then all is multiplied by the prime.
use Rattle.std.specs.Prelude.{ℕ, ◌*◌, ◌%◌, ◌^◌, bit_xor, List, [], ◌∷◌}

abbrev pub start : ℕ
start = 14695981039346656037

abbrev pub prime : ℕ
prime = 1099511628211

unfoldable pub mixed : ℕ → ℕ → ℕ
mixed sum byte = bit_xor sum byte * prime % 2 ^ 64

abbrev pub sum_from : ℕ → List ℕ → ℕ
sum_from sum [] = sum
sum_from sum (byte ∷ bytes) = sum_from (mixed sum byte) bytes

-- of all bytes of a file
abbrev pub sum_of : List ℕ → ℕ
sum_of bytes = sum_from start bytes
