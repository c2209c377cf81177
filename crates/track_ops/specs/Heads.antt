-- Changes of one field of a track's head (ISO/IEC 14496-12, 8.3.2 and 8.4.2).
use Rattle.std.specs.Prelude.{ℕ, ◌+◌, ◌-◌, ◌*◌, ◌/◌, ◌^◌, ◌<◌, ◌≤◌, List, slice_index, if◌then◌else◌}
use Rattle.mp_timeline.specs.Movie.{TrackHeadRecord}
use Rattle.track_ops.specs.declared.heads.HeadChange.{HeadChange}
use Rattle.track_ops.specs.declared.heads.HeadChange.TheVariants.{Language, Enabled}

-- a letter `a` to `z`
pub record IsLetter (letter : ℕ) : Type 0 where
  pub low : 97 ≤ letter
  pub high : letter ≤ 122

-- which of 26 letters it is, counted from 1
abbrev pub letter_number : List ℕ → ℕ → ℕ
letter_number letters at = slice_index letters at - 96

-- a language by its three letters: 5 bits each, behind a bit that is 0
abbrev pub language_of : List ℕ → ℕ
language_of letters = letter_number letters 0 * 2 ^ 10 + letter_number letters 1 * 2 ^ 5 + letter_number letters 2

-- the field that changes: the language, or the lowest bit of the flags
abbrev pub changed : HeadChange → TrackHeadRecord → TrackHeadRecord
changed (Language code) head = record head { language = code }
changed (Enabled on) head = record head { flags = head.flags / 2 * 2 + (if on then 1 else 0) }

-- a change whose language fits its field
abbrev pub IsChange : HeadChange → Type 0
IsChange (Language code) = code < 2 ^ 16
IsChange (Enabled on) = Unit {0}
