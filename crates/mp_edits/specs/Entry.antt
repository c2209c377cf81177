-- An entry of an edit list, and its faults in order (ISO/IEC 14496-12, 8.6.6).
use Rattle.std.specs.Prelude.{ℕ, negsuc, int_lt, unsigned_abs, Bool, true, false, not, ◌&&◌, ◌==◌, if◌then◌else◌, List, [], ◌∷◌, Option}
use Rattle.std.specs.Int.{w32, w64, cast_signed}
use Rattle.std.specs.Ordering.{int_eq}
use Rattle.mp_ports.specs.declared.code.Code.{Code}
use Rattle.mp_ports.specs.declared.code.Code.TheVariants.{EditTime, EditRate}
use Rattle.mp_ports.specs.Checks.{first_code}
use Rattle.mp_timeline.specs.declared.segment.Segment.{Segment}
use Rattle.mp_timeline.specs.declared.segment.Segment.TheVariants.{Empty, Media}
use Rattle.mp_boxes.specs.Number.{u16_at, u32_at, u64_at}
use Rattle.mp_edits.specs.declared.entry.EditEntry.{EditEntry}

-- the length of an entry: in version 1 its duration and its media time have 64 bits each, in version 0 they have 32
abbrev pub entry_len : Bool → ℕ
entry_len wide = if wide then 20 else 12

-- the entry of a row: segment duration, media time, media rate and its fraction
abbrev pub entry_of : Bool → List ℕ → EditEntry
entry_of true row = record { duration = u64_at row 0; media_time = cast_signed w64 (u64_at row 8); rate = u16_at row 16; fraction = u16_at row 18 }
entry_of false row = record { duration = u32_at row 0; media_time = cast_signed w32 (u32_at row 4); rate = u16_at row 8; fraction = u16_at row 10 }

-- the media time −1 stands for nothing
abbrev pub is_empty : EditEntry → Bool
is_empty entry = int_eq entry.media_time (negsuc 0)

-- no other media time is negative, and what is shown has rate 1
abbrev pub entry_fault : EditEntry → Option Code
entry_fault entry =
    first_code
    ((int_lt entry.media_time (negsuc 0), EditTime)
    ∷ (not (is_empty entry) && not ((entry.rate == 1) && (entry.fraction == 0)), EditRate)
    ∷ [])

-- what an entry shows
abbrev pub segment_of : EditEntry → Segment
segment_of entry = if is_empty entry then Empty entry.duration else Media (unsigned_abs entry.media_time) entry.duration
