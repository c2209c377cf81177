-- Fields that are read from left to right (ISO/IEC 14496-12, 4.2): each is a value, and the bytes behind it.
-- `TableLength` where fewer bytes are left than the field has.
use Rattle.std.specs.Prelude.{◌≡◌, ℕ, ◌^◌, ◌<◌, Bool, nat_lt, if◌then◌else◌, List, ◌++◌, length, take, drop, Result, Ok, Err}
use Rattle.std.specs.Int.{w16, w32, to_be_bytes}
use Rattle.mp_ports.specs.declared.code.Code.{Code}
use Rattle.mp_ports.specs.declared.code.Code.TheVariants.{TableLength}
use Rattle.mp_ports.specs.Checks.{◌>>=◌}
use Rattle.mp_boxes.specs.Number.{u16_at, u32_at, u64_at}
use Rattle.mp_boxes.specs.Field.{field_bytes, time}

-- so many bytes as they stand
unfoldable pub next_bytes : ℕ → List ℕ → Result (List ℕ × List ℕ) Code
next_bytes count text = if nat_lt (length text) count then Err TableLength else Ok (take count text, drop count text)

-- a number of 16 bits
unfoldable pub next_u16 : List ℕ → Result (ℕ × List ℕ) Code
next_u16 text = next_bytes 2 text >>= λ next. Ok (u16_at next.0 0, next.1)

-- a number of 32 bits
unfoldable pub next_u32 : List ℕ → Result (ℕ × List ℕ) Code
next_u32 text = next_bytes 4 text >>= λ next. Ok (u32_at next.0 0, next.1)

-- a number of 64 bits
unfoldable pub next_u64 : List ℕ → Result (ℕ × List ℕ) Code
next_u64 text = next_bytes 8 text >>= λ next. Ok (u64_at next.0 0, next.1)

-- a time: 64 bits in version 1 of its box, 32 in version 0
unfoldable pub next_time : Bool → List ℕ → Result (ℕ × List ℕ) Code
next_time wide text = if wide then next_u64 text else next_u32 text

-- what is read; this, where there is a fault
abbrev pub value_or : {A E : Type 0} → A → Result A E → A
value_or other (Ok value) = value
value_or other (Err fault) = other

-- a time that fits the field of its version
abbrev pub FitsTime : Bool → ℕ → Type 0
FitsTime wide ticks = ticks < (if wide then 2 ^ 64 else 2 ^ 32)

-- a field is read where it was written, and what is behind it is left
pub record FieldsAreRead : Type 0 where
  pub two : (n : ℕ) (rest : List ℕ) → n < 2 ^ 16 → next_u16 (to_be_bytes w16 n ++ rest) ≡ Ok (n, rest)
  pub four : (n : ℕ) (rest : List ℕ) → n < 2 ^ 32 → next_u32 (to_be_bytes w32 n ++ rest) ≡ Ok (n, rest)
  pub time : (wide : Bool) (ticks : ℕ) (rest : List ℕ) → FitsTime wide ticks → next_time wide (field_bytes (time wide ticks) ++ rest) ≡ Ok (ticks, rest)
  pub bytes : (count : ℕ) (text rest : List ℕ) → length text ≡ count → next_bytes count (text ++ rest) ≡ Ok (text, rest)
