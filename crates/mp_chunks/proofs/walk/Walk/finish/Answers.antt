use Rattle.std.proofs.Common.{sym, ap, ◌∙◌, Err}
use Rattle.mp_ports.specs.declared.fault.Bad.{Bad}
use Rattle.mp_chunks.proofs.FaultsInOrder.{all_are_placed, map_fault_is_first, one_is_outside}
use Rattle.mp_chunks.proofs.walk.Walk.finish.Goals as goal

pub returns-then-self-limits : goal.returns-then-self-limits
returns-then-self-limits c =
    map_fault_is_first c.args.tables.now c.args.limits c.args.self c.requires.read c.requires.some c.requires.done c.if-self-limits.true ∙ ap (λ (bad : Bad). Err bad) (sym c.at.ensures)

pub returns-then-self : goal.returns-then-self
returns-then-self c =
    one_is_outside c.args.tables.now c.args.limits c.args.self c.requires.read c.requires.some c.requires.done c.if-self-limits.false c.if-self.true

pub returns : goal.returns
returns c = all_are_placed c.args.tables.now c.args.limits c.args.self c.requires.read c.requires.some c.requires.done c.if-self-limits.false c.if-self.false
