-- The version of a header box, by its times (ISO/IEC 14496-12, 8.2.2, 8.3.2 and 8.4.2).
use Rattle.std.specs.Prelude.{ℕ, ◌-◌, ◌^◌, Bool, ◌||◌, nat_lt}

-- the last time that version 0 is written with: all ones there mean that the time isn't known
abbrev pub last_narrow : ℕ
last_narrow = 2 ^ 32 - 2

-- version 1 is written exactly where the creation time, the modification time or the duration is above it
abbrev pub is_wide : ℕ → ℕ → ℕ → Bool
is_wide created modified duration = nat_lt last_narrow created || (nat_lt last_narrow modified || nat_lt last_narrow duration)
