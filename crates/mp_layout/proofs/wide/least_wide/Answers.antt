use Rattle.std.proofs.Common.{◌≡◌, rules, arith, subst, sym, List, Bool, false, replicate, length}
use Rattle.mp_layout.specs.Wide.{IsFar}
use Rattle.mp_layout.proofs.SetsThatGrow.{Grows, grows-start, grows-on, outside-set, place-bound}
use Rattle.mp_layout.proofs.wide.least_wide.Goals as goal
use Rattle.mp_layout.proofs.wide.least_wide.Goals.{After-from}

far : (c : After-from) → IsFar c.loop-at.place c.args.reaches.now c.loop-at.wide.items c.in-Some.at
far c = search rules

pub loop-at-init : goal.loop-at-init
loop-at-init c =
    let none : c.in_ok-wide.wide.items ≡ replicate (length c.args.reaches.now) false = search rules in
    subst (λ (set : List Bool). Grows c.args.base c.args.base c.args.reaches.now set) (sym none) (grows-start c.args.base c.args.reaches.now)

pub overflow_add-place : goal.overflow_add-place
overflow_add-place c = omega (arith, c.from.ensures, place-bound _ _ _ _ c.loop-at.invariant c.requires.base c.requires.few c.requires.short)

pub loop-at-smaller : goal.loop-at-smaller
loop-at-smaller c = outside-set c.loop-at.wide.items c.in-Some.at (omega (arith, c.loop-at.invariant.flags, (far c).inside)) (far c).outside

pub loop-at-preserved : goal.loop-at-preserved
loop-at-preserved c = rw c.from.ensures (grows-on c.args.base c.loop-at.place c.args.reaches.now c.loop-at.wide.items c.in-Some.at c.loop-at.invariant (far c))
