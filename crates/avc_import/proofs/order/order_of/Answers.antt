use Rattle.std.proofs.Common.{◌≡◌, ℕ, List, Err, ap, subst, sym}
use Rattle.avc_order.specs.declared.rank.RankFail.{RankFail}
use Rattle.avc_order.specs.Ranks.{AreRanks}
use Rattle.avc_import.proofs.Showing.{delay_is, ranks_small, shown_is}
use Rattle.avc_import.proofs.Tying.{tie_is}
use Rattle.avc_import.proofs.order.order_of.Goals as goal

pub returns-in-Err-clause-tied : goal.returns-in-Err-clause-tied
returns-in-Err-clause-tied c = λ k is.
    let same : c.in-Err.fail ≡ RankFail.Tie k = cc in
    tie_is c.args.counts.now c.args.syncs.now k c.requires (c.in-Err.ensures.tie k (ap (λ (fail : RankFail). Err fail) same))

pub shown_by-requires-clause-small : goal.shown_by-requires-clause-small
shown_by-requires-clause-small c =
    let are = subst (λ (r : List ℕ). AreRanks c.args.counts.now c.args.syncs.now r) (sym c.deref-2.ensures.value) c.in-Ok.ensures.ranks in
    ranks_small c.args.counts.now c.args.syncs.now _ c.requires are

pub returns-in-Ok-shown_by-clause-shown : goal.returns-in-Ok-shown_by-clause-shown
returns-in-Ok-shown_by-clause-shown c =
    let are = subst (λ (r : List ℕ). AreRanks c.args.counts.now c.args.syncs.now r) (sym c.deref-2.ensures.value) c.in-Ok.ensures.ranks in
    shown_is c.args.counts.now c.args.syncs.now _ _ c.requires are c.in-Ok-shown_by.ensures

pub returns-in-Ok-shown_by-clause-delay : goal.returns-in-Ok-shown_by-clause-delay
returns-in-Ok-shown_by-clause-delay c =
    let are = subst (λ (r : List ℕ). AreRanks c.args.counts.now c.args.syncs.now r) (sym c.deref.ensures.value) c.in-Ok.ensures.ranks in
    delay_is c.args.counts.now c.args.syncs.now _ _ c.requires are c.delay_of-delay.ensures
