-- Numbers of three bytes, most significant byte first.
use Rattle.std.specs.Prelude.{ℕ, ◌+◌, ◌*◌, ◌^◌, List, slice_index}

-- the number of the three bytes at a place
unfoldable pub u24_at : List ℕ → ℕ → ℕ
u24_at bytes at = slice_index bytes at * 2 ^ 16 + slice_index bytes (at + 1) * 2 ^ 8 + slice_index bytes (at + 2)
