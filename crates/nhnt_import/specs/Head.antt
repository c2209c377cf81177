-- The head of an NHNT table: 24 bytes, and what can be wrong with them.
use Rattle.std.specs.Prelude.{ℕ, ◌<◌, ◌^◌, ◌==◌, ◌||◌, not, nat_lt, Bool, List, [], ◌∷◌, length, slice_index, codes, bytes_eq, Option}
use Rattle.mp_ports.specs.Checks.{first_code}
use Rattle.mp_ports.specs.declared.code.Code.{Code}
use Rattle.mp_ports.specs.declared.code.Code.TheVariants.{NhntHead, NhntType}
use Rattle.mp_boxes.specs.Number.{kind_at, u32_at}
use Rattle.nhnt_import.specs.declared.head.Head.{Head}
use Rattle.nhnt_import.specs.Number.{u24_at}

-- how long it is
abbrev pub head_len : ℕ
head_len = 24

-- the signature of a table whose places and times have 64 bits
abbrev pub is_wide : List ℕ → Bool
is_wide table = bytes_eq (kind_at table 0) (codes "NHnl")

-- that one, or that of a table whose places and times have 32 bits
abbrev pub has_signature : List ℕ → Bool
has_signature table = bytes_eq (kind_at table 0) (codes "NHnt") || is_wide table

-- the stream type, behind a version: 4 for pictures, 5 for sound (ISO/IEC 14496-1, 7.2.6.6)
abbrev pub stream_type : List ℕ → ℕ
stream_type table = slice_index table 5

abbrev pub is_sound : List ℕ → Bool
is_sound table = stream_type table == 5

-- the object type
abbrev pub object_type : List ℕ → ℕ
object_type table = slice_index table 6

-- the fields: behind two reserved bytes the size of the decoder's buffer, average and greatest bits a second, ticks a second
abbrev pub head_of : List ℕ → Head
head_of table = record {
  wide = is_wide table;
  sound = is_sound table;
  object = object_type table;
  buffer = u24_at table 9;
  average = u32_at table 12;
  maximal = u32_at table 16;
  scale = u32_at table 20;
}

-- the checks, in order: H.264 pictures (object type 0x21) aren't read
abbrev pub head_checks : List ℕ → List (Bool × Code)
head_checks table =
    (nat_lt (length table) head_len, NhntHead)
    ∷ (not (has_signature table), NhntHead)
    ∷ (u32_at table 20 == 0, NhntHead)
    ∷ (not ((stream_type table == 4) || is_sound table), NhntType)
    ∷ (object_type table == 0x21, NhntType)
    ∷ []

-- the first of them that fails
unfoldable pub head_fault : List ℕ → Option Code
head_fault table = first_code (head_checks table)

-- a head that has an entry
pub record IsHead (head : Head) : Type 0 where
  pub object : head.object < 2 ^ 8
  pub buffer : head.buffer < 2 ^ 24
  pub some_scale : 0 < head.scale
  pub scale : head.scale < 2 ^ 32
