use Rattle.mp_times.proofs.MarksFromNumbers.{SamplesAreMarked}
use Rattle.mp_times.proofs.sync.read_stss.Given as goal

abbrev pub invariant-loop-i : goal.invariant-loop-i
invariant-loop-i g l = SamplesAreMarked l.body l.rows l.samples l.i (g.C.Column.items l.marks)
