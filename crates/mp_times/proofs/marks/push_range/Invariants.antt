use Rattle.std.proofs.Common.{◌+◌, ◌-◌, map}
use Rattle.std.specs.List.{range_with_len}
use Rattle.mp_boxes.specs.Field.{body_bytes}
use Rattle.mp_boxes.specs.Push.{IsLeft}
use Rattle.mp_times.specs.Written.{sync_row}
use Rattle.mp_times.proofs.marks.push_range.Given as goal

-- the numbers that are left stand in the place of all
abbrev pub invariant-loop-number : goal.invariant-loop-number
invariant-loop-number l = IsLeft l.fn.out l.out (map body_bytes (map sync_row (range_with_len l.first l.count))) (map body_bytes (map sync_row (range_with_len l.number (l.first + l.count - l.number))))
