use Rattle.mp_boxes.proofs.NumberIsKnown.{counted_if}
use Rattle.mp_boxes.proofs.counted.check_counted.Goals as goal

pub returns-clause-counted : goal.returns-clause-counted
returns-clause-counted c = counted_if c.check_number.result c.args.count c.args.least c.args.place c.args.base c.args.bytes.now c.in_ok-check_boxes.ensures.boxes c.check_number.ensures
