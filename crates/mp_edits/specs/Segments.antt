-- Segments of an edit list: how long they last and where they start (ISO/IEC 14496-12, 8.6.6).
use Rattle.std.specs.Prelude.{◌≡◌, ℕ, ◌-◌, ◌^◌, ◌<◌, ◌≤◌, ℤ, pos, ◌+ℤ◌, ◌≤ℤ◌, ◌<ℤ◌, unsigned_abs, Bool, false, nat_le, List, length, sum_by}
use Rattle.std.specs.List.{list_any}
use Rattle.mp_timeline.specs.declared.segment.Segment.{Segment}
use Rattle.mp_timeline.specs.declared.segment.Segment.TheVariants.{Empty, Media}

-- how long a segment lasts, in ticks of the movie's scale
abbrev pub duration : Segment → ℕ
duration (Empty dur) = dur
duration (Media start dur) = dur

-- how long segments last together
abbrev pub total : List Segment → ℕ
total edits = sum_by duration edits

-- a segment starts at 2^62 or later, in ticks of the track's scale
abbrev pub starts_late : Segment → Bool
starts_late (Empty dur) = false
starts_late (Media start dur) = nat_le (2 ^ 62) start

-- the start by so many ticks later
abbrev pub shifted : ℤ → Segment → Segment
shifted by (Empty dur) = Empty dur
shifted by (Media start dur) = Media (unsigned_abs (pos start +ℤ by)) dur

-- the start by so many ticks later is neither negative nor 2^62 or more
abbrev pub CanShift : ℤ → Segment → Type 0
CanShift by (Empty dur) = Unit {0}
CanShift by (Media start dur) = (pos 0 ≤ℤ (pos start +ℤ by)) × ((pos start +ℤ by) <ℤ pos (2 ^ 62))

-- the most segments of an edit list
abbrev pub most_segments : ℕ
most_segments = 2 ^ 16 - 1

-- an edit list that can be written: neither empty nor above a limit
pub record IsEditList (edits : List Segment) : Type 0 where
  pub some : 1 ≤ length edits
  pub few : length edits ≤ most_segments
  pub short : total edits < 2 ^ 62
  pub early : list_any starts_late edits ≡ false
