use Rattle.std.proofs.Common.{ℕ, ◌≡◌, ◌<◌, [], List, Some, None, refl, sym, ap, subst, ◌∙◌, arith}
use Rattle.mp_ports.specs.declared.fault.Bad.{Bad}
use Rattle.mp_ports.specs.declared.code.Code.{Code}
use Rattle.std.specs.Prelude.{Err}
use Rattle.std.specs.List.{AllZip, Contains}
use Rattle.std.specs.Vec.{with_items}
use Rattle.std.proofs.lemmas.List.{with_items_is}
use Rattle.mp_ports.specs.Checks.{placed}
use Rattle.mp_ports.specs.Gives.{refusal}
use Rattle.cut_op.specs.Cut.{cut_codes}
use Rattle.cut_op.specs.declared.plan.TrackPlan.{TrackPlan}
use Rattle.cut_op.specs.Planned.{AreFilled, CanEdit}
use Rattle.cut_op.proofs.FillingPlans.{filled_long}
use Rattle.cut_op.proofs.MadeMovies.{all_can_edit, is_planned, is_refused, passed_code, says, scale_refused}
use Rattle.cut_op.proofs.plan.make_plan.Goals as goal

pub returns-in_default-clause-refused : goal.returns-in_default-clause-refused
returns-in_default-clause-refused c = λ files hold.
    rw (c.bad-in_default.ensures) (ap (placed 0) (scale_refused files c.args.from c.args.to c.args.movie.now (sym c.is_before.ensures ∙ c.if-not-is_before.false) (c.in_default.ensures.none files c.args.movie.now.head)))

pub returns-in_default-clause-codes : goal.returns-in_default-clause-codes
returns-in_default-clause-codes c = rw (c.bad-in_default.ensures) (1, omega arith, refl)

pub plan_tracks-requires-clause-new_movie : goal.plan_tracks-requires-clause-new_movie
plan_tracks-requires-clause-new_movie c = (c.in-Some.ensures.some []).0.some

pub returns-in-Err-clause-refused : goal.returns-in-Err-clause-refused
returns-in-Err-clause-refused c = λ files hold. says (refusal c.in-Err.fail) c.in-Err.ensures.refused (λ bad h.
    ap (placed 0) (scale_refused files c.args.from c.args.to c.args.movie.now (sym c.is_before.ensures ∙ c.if-not-is_before.false) (h.1 files c.args.movie.now.head)) ∙ ap Err (sym h.0))

pub returns-in-Err-clause-codes : goal.returns-in-Err-clause-codes
returns-in-Err-clause-codes c = says (refusal c.in-Err.fail) c.in-Err.ensures.refused (λ bad h. subst (λ (b : Bad). Contains cut_codes b.code) (sym h.0) (1, omega arith, refl))

pub returns-in-Some-first_code-clause-refused : goal.returns-in-Some-first_code-clause-refused
returns-in-Some-first_code-clause-refused c = λ files hold.
    rw (c.bad-in-Some-first_code.ensures) (ap (placed 0) (is_refused c.least_scales_are_found.ensures c.wholeness_is_division.ensures files c.args.from c.args.to c.args.movie.now c.in-Some.scale c.can_be_cut.ensures.scale
    c.requires.some_begin.some c.requires.some_end.some c.can_be_cut.ensures.tracks c.can_be_cut.ensures.fits (sym c.is_before.ensures ∙ c.if-not-is_before.false) (c.in-Some.ensures.some files) c.columns_are_kept.ensures hold
    c.in-Ok.both.0.items c.in-Ok.both.1 c.in-Some-first_code.code (c.in-Ok.ensures.plans files) (sym c.first_code.ensures ∙ c.in-Some-first_code.is)))

pub returns-in-Some-first_code-clause-codes : goal.returns-in-Some-first_code-clause-codes
returns-in-Some-first_code-clause-codes c = rw (c.bad-in-Some-first_code.ensures) (passed_code c.in-Ok.both.1 c.in-Some-first_code.code (sym c.first_code.ensures ∙ c.in-Some-first_code.is))

pub fill_edits-requires-clause-new_movie : goal.fill_edits-requires-clause-new_movie
fill_edits-requires-clause-new_movie c = (c.in-Some.ensures.some []).0.some

pub fill_edits-requires-clause-told : goal.fill_edits-requires-clause-told
fill_edits-requires-clause-told c = λ files.
    let has = c.in-Some.ensures.some files in
    subst (AllZip (CanEdit files c.args.movie.now.scale c.in-Some.scale c.args.from c.args.to) c.args.movie.now.tracks) (sym c.deref_mut.ensures.value)
    (all_can_edit c.least_scales_are_found.ensures c.wholeness_is_division.ensures files c.args.movie.now.scale c.in-Some.scale c.args.from c.args.to c.can_be_cut.ensures.scale c.requires.some_begin.some c.requires.some_end.some
    has.0.some has.0.serves.multiple c.args.movie.now.tracks c.in-Ok.both.0.items c.in-Ok.both.1 c.can_be_cut.ensures.tracks has.0.serves.whole (c.in-Ok.ensures.plans files)
    (sym c.first_code.ensures ∙ c.in_default-first_code.is))

pub returns-in-Ok-fill_edits-clause-plan : goal.returns-in-Ok-fill_edits-clause-plan
returns-in-Ok-fill_edits-clause-plan c = λ files.
    let movie = c.args.movie.now in
    let now = c.fill_edits.new.plans in
    let plans = c.in-Ok.both.0 in
    let filled = subst (λ (ps : List TrackPlan). AreFilled files movie.scale c.in-Some.scale c.args.from c.args.to movie.tracks ps now) c.deref_mut.ensures.value (c.in-Ok-fill_edits.ensures files) in
    let same : (with_items plans now).items ≡ now = with_items_is plans now (filled_long files movie.scale c.in-Some.scale c.args.from c.args.to movie.tracks plans.items now filled ∙ sym plans.ok.0) in
    is_planned c.least_scales_are_found.ensures c.wholeness_is_division.ensures files c.args.from c.args.to movie c.in-Some.scale c.can_be_cut.ensures.scale c.requires.some_begin.some c.requires.some_end.some c.can_be_cut.ensures.tracks
    c.can_be_cut.ensures.fits (sym c.is_before.ensures ∙ c.if-not-is_before.false) (c.in-Some.ensures.some files) plans.items c.in-Ok.both.1 (record { scale = c.in-Some.scale; tracks = with_items plans now }) refl
    (c.in-Ok.ensures.plans files) (sym c.first_code.ensures ∙ c.in_default-first_code.is)
    (subst (λ (ps : List TrackPlan). AreFilled files movie.scale c.in-Some.scale c.args.from c.args.to movie.tracks plans.items ps) (sym same) filled)
