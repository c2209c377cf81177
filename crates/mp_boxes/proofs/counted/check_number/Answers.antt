use Rattle.std.proofs.Common.{arith}
use Rattle.mp_boxes.proofs.NumberIsKnown.{nothing_known}
use Rattle.mp_boxes.proofs.counted.check_number.Goals as goal

pub loop-child-init : goal.loop-child-init
loop-child-init c = record { inside = omega arith; few = omega arith; known = λ all cut. nothing_known c.args.base c.args.bytes.now c.args.least all cut }
