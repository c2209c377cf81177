use Rattle.std.proofs.Common.{sym, ◌∙◌}
use Rattle.std.proofs.lemmas.List.{append-nil}
use Rattle.mp_chunks.proofs.RowsArePushed.{all_pushed, more_pushed}
use Rattle.mp_chunks.proofs.SizesArePushed.{next_copy, no_copy}
use Rattle.mp_chunks.proofs.push.push_copies.Goals as goal

pub loop-before-preserved : goal.loop-before-preserved
loop-before-preserved c =
    let next = next_copy c.args.count c.loop-before._before _ _ (append-nil _ ∙ sym c.to_be_bytes.ensures) c.loop-before-test.true in
    more_pushed _ _ _ _ _ _ _ c.loop-before.invariant next c.push_bytes.ensures

pub returns : goal.returns
returns c = all_pushed _ _ _ _ c.loop-before.invariant (no_copy c.args.count c.loop-before._before _ c.loop-before-test.false)
