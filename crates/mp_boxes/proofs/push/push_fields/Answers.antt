use Rattle.mp_boxes.proofs.PiecesAreLeft.{left_as, next_field, none_left}
use Rattle.mp_boxes.proofs.push.push_fields.Goals as goal

pub loop-field-preserved : goal.loop-field-preserved
loop-field-preserved c = λ rest all p.
    c.push_field.ensures _ all (left_as _ _ _ all (next_field c.args.fields.now c.loop-field.field-index _ rest c.loop-field-test.true) (c.loop-field.invariant rest all p))

pub returns : goal.returns
returns c = λ rest all p. left_as _ _ rest all (none_left c.args.fields.now c.loop-field.field-index rest c.loop-field-test.false) (c.loop-field.invariant rest all p)
