use Rattle.mp_boxes.proofs.PiecesAreLeft.{pushed_as, short_fields, long_fields}
use Rattle.mp_boxes.proofs.push.push_head.Goals as goal

pub returns-in-Ok-clause-pushed : goal.returns-in-Ok-clause-pushed
returns-in-Ok-clause-pushed c =
    pushed_as c.args.out.now c.push_fields.new.out _ _ (rw c.in-Ok.ensures.1 (short_fields c.args.kind c.args.len c.in-Ok.ensures.0)) c.push_fields.ensures

pub returns-in-Err-clause-pushed : goal.returns-in-Err-clause-pushed
returns-in-Err-clause-pushed c =
    pushed_as c.args.out.now c.push_fields-in-Err.new.out _ _ (long_fields c.args.kind c.args.len c.in-Err.ensures) c.push_fields-in-Err.ensures
