use Rattle.std.proofs.Common.{arith}
use Rattle.mp_boxes.proofs.Lengths.{mixed-len}
use Rattle.mp_boxes.proofs.length.box_len.Goals as goal

pub returns-clause-boxes : goal.returns-clause-boxes
returns-clause-boxes c = λ kind parts four behind.
    omega (arith, c.saturating_add-2.ensures, c.saturating_add.ensures, c.fields_len.ensures, mixed-len kind c.args.fields.now parts four)
