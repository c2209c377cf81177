-- Numbers at a place of a list of bytes, most significant byte first (ISO/IEC 14496-12, 4.2).
use Rattle.std.specs.Prelude.{ℕ, ◌+◌, List, [], ◌∷◌, slice_index}
use Rattle.std.specs.Int.{w16, w32, w64, from_be_bytes}

-- the number of the two bytes at a place
unfoldable pub u16_at : List ℕ → ℕ → ℕ
u16_at bytes at = from_be_bytes w16 (slice_index bytes at ∷ slice_index bytes (at + 1) ∷ [])

-- the number of the four bytes at a place
unfoldable pub u32_at : List ℕ → ℕ → ℕ
u32_at bytes at = from_be_bytes w32 (slice_index bytes at ∷ slice_index bytes (at + 1) ∷ slice_index bytes (at + 2) ∷ slice_index bytes (at + 3) ∷ [])

-- the number of the eight bytes at a place
unfoldable pub u64_at : List ℕ → ℕ → ℕ
u64_at bytes at =
    from_be_bytes w64
    (slice_index bytes at
    ∷ slice_index bytes (at + 1)
    ∷ slice_index bytes (at + 2)
    ∷ slice_index bytes (at + 3)
    ∷ slice_index bytes (at + 4)
    ∷ slice_index bytes (at + 5)
    ∷ slice_index bytes (at + 6)
    ∷ slice_index bytes (at + 7)
    ∷ [])

-- the four bytes at a place, as those of a type
unfoldable pub kind_at : List ℕ → ℕ → List ℕ
kind_at bytes at = slice_index bytes at ∷ slice_index bytes (at + 1) ∷ slice_index bytes (at + 2) ∷ slice_index bytes (at + 3) ∷ []
