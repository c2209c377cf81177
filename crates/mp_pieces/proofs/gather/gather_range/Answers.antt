use Rattle.std.proofs.Common.{arith, rules}
use Rattle.mp_pieces.proofs.Ranges.{range_on, range_unread, range_unwritten}
use Rattle.mp_pieces.proofs.gather.gather_range.Goals as goal

pub returns-in-Err-clause-read : goal.returns-in-Err-clause-read
returns-in-Err-clause-read g c = λ e.
    let i = c.loop-done.invariant in
    range_unread _ _ _ c.args.piece c.loop-done.done c.args.piece.len _ _ (omega (arith, i.within, c.from-len.ensures)) i.gathers (c.in-Err.ensures.read e)

pub returns-in-Err-clause-write : goal.returns-in-Err-clause-write
returns-in-Err-clause-write g c = λ e.
    let i = c.loop-done.invariant in
    range_unwritten _ _ _ c.args.piece c.loop-done.done c.args.piece.len _ _ (omega (arith, i.within, c.from-len.ensures)) i.gathers (c.in-Err.ensures.write e)

pub loop-done-preserved : goal.loop-done-preserved
loop-done-preserved g c =
    let i = c.loop-done.invariant in
    let keeps = c.keep-stand.ensures.kept (g.F.Folder.state c.reach.new.folder) c.in-Ok.ensures.stands in
    record {
      gathers = range_on _ _ _ c.args.piece c.loop-done.done c.lesser-count.result _ _ _ _ i.gathers c.in-Ok.ensures.gathered (rw c.in-Ok.ensures.ahead.same at keeps.kept);
      stands = keeps.stands;
      within = omega (arith, c.loop-done-test.true, c.lesser-count.ensures);
      room = search rules;
    }
