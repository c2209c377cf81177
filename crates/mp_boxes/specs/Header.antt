-- Which bytes are the header of a box (ISO/IEC 14496-12, 4.2).
use Rattle.std.specs.Prelude.{◌≡◌, ℕ, ◌+◌, ◌<◌, ◌^◌, Bool, true, List, [], ◌++◌, length, codes, nat_lt, if◌then◌else◌}
use Rattle.std.specs.Str.{bytes_eq}
use Rattle.std.specs.Int.{w32, w64, to_be_bytes}

-- the three ways to write a size: in 32 bits, in 64 bits behind the type, or none, up to the end of the file
pub data Spelling : Type 0 where
  Short : Spelling
  Long : Spelling
  Open : Spelling

-- the header with that spelling and type, with the further bytes of a `uuid`, of a box whose body has `len` bytes
abbrev pub header_of : Spelling → List ℕ → List ℕ → ℕ → List ℕ
header_of Short kind more len = to_be_bytes w32 (8 + length more + len) ++ kind ++ more
header_of Long kind more len = to_be_bytes w32 1 ++ kind ++ to_be_bytes w64 (16 + length more + len) ++ more
header_of Open kind more len = to_be_bytes w32 0 ++ kind ++ more

-- where a box of `whole` bytes may be spelled so: an open size stands only at the top level, and for the last box
abbrev pub IsAllowed : Bool → List ℕ → ℕ → Spelling → Type 0
IsAllowed top after whole Short = whole < 2 ^ 32
IsAllowed top after whole Long = whole < 2 ^ 64
IsAllowed top after whole Open = (top ≡ true) × (after ≡ [])

-- the header of a box of that type, whose body has `len` bytes, with `after` behind the box
pub record IsHeader (top : Bool) (kind : List ℕ) (len : ℕ) (after header : List ℕ) : Type 0 where
  pub spelling : Spelling
  pub more : List ℕ
  pub kind_len : length kind ≡ 4
  pub more_len : length more ≡ (if bytes_eq kind (codes "uuid") then 16 else 0)
  pub allowed : IsAllowed top after (length header + len) spelling
  pub text : header ≡ header_of spelling kind more len

-- the header that is written for a box of `len` bytes, with the 64 bits only where it takes them
abbrev pub head_bytes : List ℕ → ℕ → List ℕ
head_bytes kind len = if nat_lt len (2 ^ 32) then to_be_bytes w32 len ++ kind else to_be_bytes w32 1 ++ kind ++ to_be_bytes w64 len
