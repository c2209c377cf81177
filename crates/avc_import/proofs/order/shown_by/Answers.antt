use Rattle.std.proofs.Common.{◌≡◌, ◌∙◌, ◌+◌, ◌-◌, ap, arith, zero-add, sym}
use Rattle.std.specs.Prelude.{slice_index}
use Rattle.std.proofs.lemmas.List.FromFn.{map-range_with_len_more}
use Rattle.avc_import.specs.Ranking.{begin_of}
use Rattle.avc_import.proofs.order.shown_by.Goals as goal

pub loop-k-preserved : goal.loop-k-preserved
loop-k-preserved c =
    let k = c.loop-k.k in
    let same : k + 1 - 1 ≡ k = omega arith in
    record {
      first = c.begin_in-first.ensures.begin ∙ ap (begin_of c.args.syncs.now) (sym same);
      shown = c.in_ok-push.ensures.items ∙ rw (c.loop-k.invariant.shown, c.place_in.ensures, c.begin_in-first.ensures.begin)
          (sym (map-range_with_len_more (λ k. begin_of c.args.syncs.now k + slice_index c.args.ranks.now k) 0 k k (zero-add k)));
    }
