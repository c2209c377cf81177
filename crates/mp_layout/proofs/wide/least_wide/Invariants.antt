use Rattle.mp_layout.specs.Wide.{outside}
use Rattle.mp_layout.proofs.SetsThatGrow.{Grows}
use Rattle.mp_layout.proofs.wide.least_wide.Given as goal

abbrev pub invariant-loop-at : goal.invariant-loop-at
invariant-loop-at l = Grows l.base l.place l.reaches l.wide.items

abbrev pub decreases-loop-at : goal.decreases-loop-at
decreases-loop-at l = outside l.wide.items
