-- What the law of the tables says: what is read is what was written.
use Rattle.std.specs.Prelude.{◌≡◌, ℤ, ◌<◌, ◌^◌, List, length, All, false, Ok}
use Rattle.std.specs.Int.{w32, FitsUnsigned}
use Rattle.mp_ports.specs.Checks.{placed}
use Rattle.mp_boxes.specs.Format.{IsFormat}
use Rattle.mp_times.specs.Times.{ctts_of, stts_of}
use Rattle.mp_times.specs.Sync.{stss_of}
use Rattle.mp_times.specs.Written.{FitOffsets, IsMark, are_signed, offset_table, runs_body, stss_body, stts, sync_numbers}

-- fewer than 2^32 durations, each of 32 bits
abbrev pub FitStts : List ℤ → Type 0
FitStts durations = (length durations < 2 ^ 32) × All (FitsUnsigned w32) durations

-- fewer than 2^32 offsets that fit 32 bits
abbrev pub FitCtts : List ℤ → Type 0
FitCtts offsets = (length offsets < 2 ^ 32) × FitOffsets offsets

-- each table, its body alone and as a box at a place
pub record TimesAreRead : Type 0 where
  pub durations : (xs : List ℤ) → length xs < 2 ^ 32 → All (FitsUnsigned w32) xs → stts_of (runs_body false xs) ≡ Ok xs
  pub offsets : (xs : List ℤ) → length xs < 2 ^ 32 → FitOffsets xs → ctts_of (runs_body (are_signed xs) xs) ≡ Ok xs
  pub syncs : (xs : List ℤ) → length xs < 2 ^ 32 → All IsMark xs → stss_of (length xs) (stss_body (sync_numbers 1 xs)) ≡ Ok xs
  pub stts_format : IsFormat stts (λ base body. placed base (stts_of body)) FitStts
  pub ctts_format : IsFormat offset_table (λ base body. placed base (ctts_of body)) FitCtts
