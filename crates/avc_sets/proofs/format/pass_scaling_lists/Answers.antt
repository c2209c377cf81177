use Rattle.std.proofs.Common.{◌∙◌}
use Rattle.std.proofs.lemmas.List.{drop_all, drop_more}
use Rattle.avc_sets.proofs.Passing.{next_list, refused_list, no_list}
use Rattle.avc_sets.proofs.format.pass_scaling_lists.Goals as goal

-- src/format.rt:113:26
pub returns-in-Err : goal.returns-in-Err
returns-in-Err c =
    let here = rw (drop_more c.args.lengths.now c.loop-entries.entries-index 0 c.loop-entries-test.true) at c.loop-entries.invariant in
    here ∙ refused_list c.elements_in_turn.ensures.passed _ _ _ _ c.in-Err.ensures

-- src/format.rt:110:5
pub loop-entries-preserved : goal.loop-entries-preserved
loop-entries-preserved c =
    let here = rw (drop_more c.args.lengths.now c.loop-entries.entries-index 0 c.loop-entries-test.true) at c.loop-entries.invariant in
    here ∙ next_list c.elements_in_turn.ensures.passed _ _ _ _ c.in-Ok.ensures

-- src/format.rt:106:1
pub returns : goal.returns
returns c =
    let here = rw (drop_all c.loop-entries.entries-index c.args.lengths.now c.loop-entries-test.false) at c.loop-entries.invariant in
    here ∙ no_list _
