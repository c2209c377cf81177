use Rattle.mp_times.specs.Times.{offset}
use Rattle.mp_times.proofs.EntriesFollow.{ItemsAreThere}
use Rattle.mp_times.proofs.times.read_runs.Given as goal

abbrev pub invariant-loop-i : goal.invariant-loop-i
invariant-loop-i g l = ItemsAreThere (offset l.version) l.body l.rows l.i (g.C.Column.items l.column)
