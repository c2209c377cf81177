use Rattle.std.proofs.Common.{◌≡◌, [], None, sym, ap, subst, ◌∙◌}
use Rattle.std.specs.List.{AllZip}
use Rattle.mp_movie.specs.PartsFit.{first_limit}
use Rattle.mp_movie.specs.Placed.{PlacedMovie}
use Rattle.mp_movie.specs.WholeParts.{AreParts}
use Rattle.cut_op.specs.Planned.{CanApply, placed_movie}
use Rattle.cut_op.proofs.CanCut.{plan_can_apply}
use Rattle.cut_op.proofs.CutAnswers.{gives, held, shows, whole}
use Rattle.cut_op.proofs.cutting.cut.Goals as goal
use Rattle.cut_op.proofs.cutting.cut.Goals.{After-apply, After-from_parts}

pub apply-requires : goal.apply-requires
apply-requires c = record {
  tracks =
      subst (λ (m : PlacedMovie). AllZip CanApply m.tracks c.in-Ok.plan.tracks.items) (sym c.take-parts.ensures.parts)
      (plan_can_apply [] c.args.from c.args.to c.args.movie c.in-Ok.plan c.can_be_cut.ensures.tracks (c.in-Ok.ensures.plan []));
}

-- the parts are those that the plan makes
made : (c : After-apply) → placed_movie c.in-Ok.plan c.args.movie ≡ c.apply.new.parts
made c = sym (c.apply.ensures ∙ ap (placed_movie c.in-Ok.plan) c.take-parts.ensures.parts)

made_movie : (c : After-from_parts) → placed_movie c.in-Ok.plan c.args.movie ≡ c.from_parts.result
made_movie c = sym (c.from_parts.ensures ∙ (c.apply.ensures ∙ ap (placed_movie c.in-Ok.plan) c.take-parts.ensures.parts))

pub from_parts-requires-clause-whole : goal.from_parts-requires-clause-whole
from_parts-requires-clause-whole c =
    subst AreParts (made c)
    (whole c.args.from c.args.to c.args.movie c.in-Ok.plan c.can_be_cut.ensures.tracks (subst AreParts c.take-parts.ensures.parts c.take-parts.ensures.whole) (c.in-Ok.ensures.plan []))

pub from_parts-requires-clause-fits : goal.from_parts-requires-clause-fits
from_parts-requires-clause-fits c = subst (λ (m : PlacedMovie). first_limit m ≡ None) (made c) (c.in-Ok.ensures.plan []).fits

pub returns-clause-gives : goal.returns-clause-gives
returns-clause-gives c = λ files hold.
    gives c.least_scales_are_found.ensures c.columns_are_kept.ensures c.cut_shows_the_range.ensures files c.args.from c.args.to c.args.movie c.in-Ok.plan c.requires c.can_be_cut.ensures.scale c.can_be_cut.ensures.tracks hold
    (c.in-Ok.ensures.plan files) c.from_parts.result (made_movie (goal.at.returns-clause-gives c).After-from_parts)

pub returns-clause-held : goal.returns-clause-held
returns-clause-held c = λ sizes hold. held sizes c.args.movie c.in-Ok.plan c.from_parts.result (made_movie (goal.at.returns-clause-held c).After-from_parts) hold

pub returns-clause-shows : goal.returns-clause-shows
returns-clause-shows c = λ files hold.
    shows c.least_scales_are_found.ensures c.columns_are_kept.ensures c.cut_shows_the_range.ensures files c.args.from c.args.to c.args.movie c.in-Ok.plan c.requires c.can_be_cut.ensures.scale c.can_be_cut.ensures.tracks hold
    (c.in-Ok.ensures.plan files) c.from_parts.result (made_movie (goal.at.returns-clause-shows c).After-from_parts)
