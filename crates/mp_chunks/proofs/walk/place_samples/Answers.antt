use Rattle.std.proofs.Common.{sym, ap, ◌∙◌, Err}
use Rattle.mp_ports.specs.declared.fault.Bad.{Bad}
use Rattle.mp_chunks.proofs.ChunksAreWalked.{nothing_walked}
use Rattle.mp_chunks.proofs.FaultsInOrder.{no_run_is_first}
use Rattle.mp_chunks.proofs.walk.place_samples.Goals as goal

pub returns-then-lacks_runs : goal.returns-then-lacks_runs
returns-then-lacks_runs c = no_run_is_first c.args.tables.now c.args.limits c.requires (sym c.lacks_runs.ensures ∙ c.if-lacks_runs.true) ∙ ap (λ (bad : Bad). Err bad) (sym c.at.ensures)

pub place_runs-requires-clause-walked : goal.place_runs-requires-clause-walked
place_runs-requires-clause-walked c = nothing_walked c.args.tables.now c.args.limits _ c.requires (sym c.lacks_runs.ensures ∙ c.if-lacks_runs.false) c.new-walk.ensures
