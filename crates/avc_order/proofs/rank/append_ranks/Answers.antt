use Rattle.std.proofs.Common.{◌≡◌, ◌+◌, true, false, get_or, sym, arith}
use Rattle.std.proofs.lemmas.Grind.{common_steps}
use Rattle.avc_order.proofs.Counting.{tie_from}
use Rattle.avc_order.proofs.rank.append_ranks.Goals as goal

pub returns-then-index-clause-tie : goal.returns-then-index-clause-tie
returns-then-index-clause-tie c = λ picture e.
    let same : c.args.first + c.loop-i.i ≡ picture = cc in
    let i = c.loop-i.invariant in
    let t : get_or c.loop-i.taken.items c.rank_in-rank.result false ≡ true = grind (arith, common_steps, c.index.ensures, c.if-index.true) in
    (c.loop-i.i, sym same, tie_from c.args.counts.now c.loop-i.i c.rank_in-rank.result c.loop-i.taken.items (omega arith) c.rank_in-rank.ensures.rank t i.seen i.distinct)
