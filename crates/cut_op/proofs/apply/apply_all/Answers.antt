use Rattle.std.proofs.Common.{ℕ, ◌≡◌, List, length, get_or, set, sym, subst, ◌∙◌}
use Rattle.mp_movie.specs.Placed.{PlacedTrack}
use Rattle.cut_op.specs.Planned.{CanApply, placed_by}
use Rattle.cut_op.proofs.LastFirst.{AreCutBehind, all_cut, next_can, none_cut, one_cut}
use Rattle.cut_op.proofs.apply.apply_all.Goals as goal

pub loop-plan-init : goal.loop-plan-init
loop-plan-init c = none_cut c.args.plans.items c.args.tracks.now c.requires

pub apply_track-requires : goal.apply_track-requires
apply_track-requires c =
    let at : c.len-at.result ≡ length c.pop.new.self.items = c.len-at.ensures ∙ c.pop.new.self.ok.0 in
    subst (λ (n : ℕ). CanApply (get_or c.loop-plan.tracks n c.index-tracks-at.result) c.in-Some.plan) (sym at)
    (next_can c.args.plans.items c.loop-plan.plans.items c.pop.new.self.items c.args.tracks.now c.loop-plan.tracks c.in-Some.plan c.index-tracks-at.result c.requires c.in-Some.ensures.items c.loop-plan.invariant)

pub loop-plan-preserved : goal.loop-plan-preserved
loop-plan-preserved c =
    let at : c.len-at.result ≡ length c.pop.new.self.items = c.len-at.ensures ∙ c.pop.new.self.ok.0 in
    subst (λ (n : ℕ). AreCutBehind c.args.plans.items c.pop.new.self.items c.args.tracks.now (set c.loop-plan.tracks n c.apply_track.new.track)) (sym at)
    (one_cut c.args.plans.items c.loop-plan.plans.items c.pop.new.self.items c.args.tracks.now c.loop-plan.tracks c.in-Some.plan c.index-tracks-at.result c.apply_track.new.track c.in-Some.ensures.items c.loop-plan.invariant
    (subst (λ (n : ℕ). c.apply_track.new.track ≡ placed_by c.in-Some.plan (get_or c.loop-plan.tracks n c.index-tracks-at.result)) at c.apply_track.ensures))

pub returns : goal.returns
returns c = all_cut c.args.plans.items c.loop-plan.plans.items c.args.tracks.now c.loop-plan.tracks (sym c.loop-plan.plans.ok.0 ∙ c.in_default.ensures.cases.0) c.loop-plan.invariant
