use Rattle.std.proofs.Common.{rules, length, ◌∙◌}
use Rattle.mp_layout.proofs.SetsThatGrow.{fits-next}
use Rattle.mp_layout.proofs.wide.far_track.Goals as goal
use Rattle.mp_layout.proofs.wide.far_track.Goals.{else-not-wide-at-via-then-not-wide-at+else-not-is_near, else-not-wide-at-via-else-not-wide-at}

pub loop-at-preserved : goal.loop-at-preserved
loop-at-preserved c =
    let inside = c.loop-at-test.true in
    elim c.else-not-wide-at.branch [
      | else-not-wide-at-via-then-not-wide-at+else-not-is_near w ↦
          c.loop-at.invariant ∙ fits-next c.args.place c.args.reaches.now c.args.wide.now c.loop-at.at (length c.args.reaches.now) (search rules) c.requires.flags (search rules)
      | else-not-wide-at-via-else-not-wide-at w ↦
          c.loop-at.invariant ∙ fits-next c.args.place c.args.reaches.now c.args.wide.now c.loop-at.at (length c.args.reaches.now) (search rules) c.requires.flags (search rules)
    ]
