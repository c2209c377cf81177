use Rattle.std.proofs.Common.{◌∙◌, arith}
use Rattle.mp_boxes.specs.Field.{box_bytes}
use Rattle.mp_boxes.proofs.Lengths.{box_bytes-len}
use Rattle.mp_boxes.proofs.PiecesAreLeft.{reserved}
use Rattle.mp_boxes.proofs.push.reserve.Goals as goal

pub returns-clause-one_box : goal.returns-clause-one_box
returns-clause-one_box c = λ part len. reserved c.args.out.now c.reserve.new.self (box_bytes part) c.args.more c.reserve.ensures.items (omega (arith, c.in_ok-reserve.ensures.ok)) (omega arith) (box_bytes-len part ∙ len)
