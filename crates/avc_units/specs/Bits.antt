-- The bits of bytes, and how numbers are written in them (H.264, 7.2 and 9.1).
use Rattle.std.specs.Prelude.{◌≡◌, ℕ, ◌+◌, ◌-◌, ◌*◌, ◌^◌, ◌≤◌, List, [], ◌∷◌, ◌++◌, length, replicate}
use Rattle.std.specs.Int.{bit_at}

-- the highest bit of a byte comes first
unfoldable pub bits_of : List ℕ → List ℕ
bits_of [] = []
bits_of (b ∷ bs) =
    bit_at b 7 ∷ bit_at b 6 ∷ bit_at b 5 ∷ bit_at b 4 ∷ bit_at b 3 ∷ bit_at b 2 ∷ bit_at b 1 ∷ bit_at b 0 ∷ bits_of bs

-- the value of bits
unfoldable pub number : List ℕ → ℕ
number [] = 0
number (b ∷ bs) = b * 2 ^ length bs + number bs

-- how an element is written: u(n) in n bits, ue(v) as an Exp-Golomb code (7.2)
pub data Kind : Type 0 where
  U : (n : ℕ) → Kind
  Ue : Kind

-- zeros, a one, and as many bits as there were zeros: z zeros and the value b are the code of 2^z - 1 + b, z at most 31 (9.1)
pub record IsCode (v : ℕ) (bits : List ℕ) : Type 0 where
  pub zeros : ℕ
  pub tail : List ℕ
  pub few : zeros ≤ 31
  pub tail_len : length tail ≡ zeros
  pub value : v ≡ 2 ^ zeros - 1 + number tail
  pub bits_is : bits ≡ replicate zeros 0 ++ (1 ∷ tail)

-- these bits are the value, written as an element of this kind
abbrev pub IsWritten : Kind → ℕ → List ℕ → Type 0
IsWritten (U n) v bits = (length bits ≡ n) × (number bits ≡ v)
IsWritten Ue v bits = IsCode v bits
