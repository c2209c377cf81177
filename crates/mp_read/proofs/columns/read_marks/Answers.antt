use Rattle.mp_read.proofs.Marks.{marks_given}
use Rattle.mp_read.proofs.columns.read_marks.Goals as goal

pub returns-in-Some-clause-length : goal.returns-in-Some-clause-length
returns-in-Some-clause-length c = marks_given _ c.args.samples _ c.read_stss.result c.read_stss.ensures
