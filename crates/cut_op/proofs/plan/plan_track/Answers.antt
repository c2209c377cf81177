use Rattle.std.proofs.Common.{rules, ℕ, ◌≡◌, ◌≤◌, [], List, length, refl, sym, subst}
use Rattle.cut_op.specs.declared.kept.Kept.{Kept}
use Rattle.cut_op.specs.Planned.{IsNeededRange}
use Rattle.cut_op.proofs.AllScales.{no_shape}
use Rattle.cut_op.proofs.PlanningTracks.{plans}
use Rattle.cut_op.proofs.plan.plan_track.Goals as goal

pub returns-in_default-clause-refused : goal.returns-in_default-clause-refused
returns-in_default-clause-refused c =
    rw (c.bad.ensures) (
      refl,
      λ files before behind can. no_shape files c.args.old c.args.from c.args.to c.requires.movie c.requires.range.some_begin.some c.requires.range.some_end.some c.least_scales_are_found.ensures before behind
          c.args.track.now can (c.in_default.ensures files),
    )

pub move_track-plan-requires-clause-order : goal.move_track-plan-requires-clause-order
move_track-plan-requires-clause-order c = (c.in-Ok.ensures []).order

pub move_track-plan-requires-clause-inside : goal.move_track-plan-requires-clause-inside
move_track-plan-requires-clause-inside c = (c.in-Ok.ensures []).inside

pub passed_by-more-requires-clause-order : goal.passed_by-more-requires-clause-order
passed_by-more-requires-clause-order c = subst (λ (kept : Kept). kept.from ≤ kept.to) (sym c.move_track-plan.ensures.kept) (c.in-Ok.ensures []).order

pub passed_by-more-requires-clause-deltas : goal.passed_by-more-requires-clause-deltas
passed_by-more-requires-clause-deltas c = subst (λ (kept : Kept). kept.to ≤ length c.args.track.now.deltas) (sym c.move_track-plan.ensures.kept) (c.in-Ok.ensures []).inside

pub passed_by-more-requires-clause-offsets : goal.passed_by-more-requires-clause-offsets
passed_by-more-requires-clause-offsets c =
    subst (λ (n : ℕ). c.move_track-plan.result.kept.to ≤ n) (sym c.requires.track.columns.offsets_len) (subst (λ (kept : Kept). kept.to ≤ length c.args.track.now.deltas) (sym c.move_track-plan.ensures.kept) (c.in-Ok.ensures []).inside)

pub passed_by-more-requires-clause-some : goal.passed_by-more-requires-clause-some
passed_by-more-requires-clause-some c = (c.in-Some.ensures []).movie_scale.0.some

pub returns-clause-plan : goal.returns-clause-plan
returns-clause-plan c = λ files. record {
  shape = c.in-Some.shape;
  is =
      plans files c.args.old c.args.from c.args.to c.args.track.now c.in-Some.shape c.move_track-plan.result (c.in-Some.ensures files)
      (subst (λ (kept : Kept). IsNeededRange files c.args.old c.args.from c.args.to c.args.track.now kept.from kept.to) (sym c.move_track-plan.ensures.kept) (c.in-Ok.ensures files)) c.move_track-plan.ensures.scale
      c.move_track-plan.ensures.factor c.move_track-plan.ensures.back c.move_track-plan.ensures.ahead;
  room = search rules;
  passed_is = c.passed_by-more.ensures;
}
