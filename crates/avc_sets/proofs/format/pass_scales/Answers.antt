use Rattle.std.proofs.Common.{◌∙◌}
use Rattle.avc_sets.proofs.Passing.{next_scale, refused_scale, no_scale}
use Rattle.avc_sets.proofs.format.pass_scales.Goals as goal

-- src/format.rt:89:26
pub returns-in-Err : goal.returns-in-Err
returns-in-Err c = c.loop-entry.invariant.walked ∙ refused_scale c.tables_in_turn.ensures _ _ _ _ _ c.loop-entry-test.true c.in-Err.ensures.takes

-- src/format.rt:86:5
pub loop-entry-preserved : goal.loop-entry-preserved
loop-entry-preserved c = record {
  small = c.in-Ok.ensures.small;
  walked = c.loop-entry.invariant.walked ∙ next_scale c.tables_in_turn.ensures _ _ _ _ _ _ c.loop-entry-test.true c.in-Ok.ensures.takes;
}

-- src/format.rt:81:1
pub returns : goal.returns
returns c = c.loop-entry.invariant.walked ∙ no_scale _ _ _ _ c.loop-entry-test.false
