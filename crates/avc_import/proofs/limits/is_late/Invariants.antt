use Rattle.std.proofs.Common.{◌≡◌, ◌-◌, length}
use Rattle.std.specs.List.{list_any, range_with_len}
use Rattle.avc_import.proofs.Limiting.{late_at}
use Rattle.avc_import.proofs.limits.is_late.Given as goal

-- what is left says what all say
abbrev pub invariant-loop-k : goal.invariant-loop-k
invariant-loop-k l =
    list_any (late_at l.shown l.schedule) (range_with_len l.k (length l.shown - l.k)) ≡ list_any (late_at l.shown l.schedule) (range_with_len 0 (length l.shown))
