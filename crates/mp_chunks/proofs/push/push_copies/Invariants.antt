use Rattle.std.proofs.Common.{◌-◌, replicate}
use Rattle.mp_boxes.specs.Field.{body_bytes}
use Rattle.mp_boxes.specs.Push.{IsLeft}
use Rattle.mp_chunks.specs.Written.{size_row}
use Rattle.mp_chunks.proofs.push.push_copies.Given as goal

abbrev pub invariant-loop-before : goal.invariant-loop-before
invariant-loop-before l = IsLeft l.fn.out l.out (replicate l.count (body_bytes (size_row l.size))) (replicate (l.count - l._before) (body_bytes (size_row l.size)))
