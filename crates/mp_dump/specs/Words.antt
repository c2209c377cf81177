-- Numbers, types and languages as text.
use Rattle.std.specs.Prelude.{ℕ, ◌+◌, ◌/◌, ◌%◌, List, [], ◌∷◌, map, ◌++◌, ◌&&◌, nat_le, decimal, if◌then◌else◌}
use Rattle.mp_boxes.specs.Number.{kind_at}

-- some words, and then a number
abbrev pub field : List ℕ → ℕ → List ℕ
field words number = words ++ decimal number

-- a byte from a space to a tilde as it is, any other as a dot
abbrev pub printed : ℕ → ℕ
printed byte = if nat_le 0x20 byte && nat_le byte 0x7E then byte else 0x2E

-- a type of four bytes
unfoldable pub type_text : List ℕ → List ℕ
type_text kind = map printed kind

-- the type of a sample entry, which is a whole box
abbrev pub entry_type : List ℕ → List ℕ
entry_type entry = type_text (kind_at entry 4)

-- a small letter by its place in the alphabet, from 1; a dot for any other number
abbrev pub letter : ℕ → ℕ
letter place = if nat_le 1 place && nat_le place 26 then 0x60 + place else 0x2E

-- the three letters of a language, each of five bits (ISO/IEC 14496-12, 8.4.2)
unfoldable pub language_text : ℕ → List ℕ
language_text code = letter (code / 0x400 % 0x20) ∷ letter (code / 0x20 % 0x20) ∷ letter (code % 0x20) ∷ []
