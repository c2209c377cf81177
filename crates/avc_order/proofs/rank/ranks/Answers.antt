use Rattle.std.proofs.Common.{◌≡◌, ◌≤◌, inl, inr, length, Err, sym, ap, subst, arith}
use Rattle.avc_order.specs.declared.rank.RankFail.TheVariants.{Tie}
use Rattle.avc_order.specs.Ranks.{IsTie}
use Rattle.avc_order.proofs.Ranking.{length_on, ranked_on, distinct_on, tie_on}
use Rattle.avc_order.proofs.rank.ranks.Goals as goal

pub returns-in-Err-clause-tie : goal.returns-in-Err-clause-tie
returns-in-Err-clause-tie c = λ picture e.
    let s = c.end_of-end.ensures in
    let same : c.in-Err.fail ≡ Tie picture = cc in
    let t = c.in-Err.ensures.tie picture (ap (λ x. Err x) same) in
    let within : c.end_of-end.result ≤ length c.args.counts.now = omega (arith, s.within, c.requires.same) in
    subst (IsTie c.args.counts.now c.args.syncs.now) (sym t.1) (tie_on c.args.counts.now c.args.syncs.now c.loop-first.first c.end_of-end.result t.0 s within t.2 c.loop-first.invariant.distinct)

pub loop-first-preserved : goal.loop-first-preserved
loop-first-preserved c =
    let s = c.end_of-end.ensures in
    let within : c.end_of-end.result ≤ length c.args.counts.now = omega (arith, s.within, c.requires.same) in
    record {
      within = within;
      starts = λ more. elim s.next [
        | inl e ↦ absurd (omega (arith, e, more, c.requires.same))
        | inr y ↦ y
      ];
      each = length_on c.args.counts.now c.loop-first.ranks.items _ c.loop-first.first c.end_of-end.result s.some within c.loop-first.invariant.each c.in-Ok.ensures.ranks;
      ranked = ranked_on c.args.counts.now c.args.syncs.now c.loop-first.ranks.items _ c.loop-first.first c.end_of-end.result s within c.loop-first.invariant.each c.in-Ok.ensures.ranks c.loop-first.invariant.ranked;
      distinct = distinct_on c.args.counts.now c.args.syncs.now c.loop-first.first c.end_of-end.result s within c.in-Ok.ensures.distinct c.loop-first.invariant.distinct;
    }
