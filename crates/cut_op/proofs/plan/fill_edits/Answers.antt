use Rattle.std.proofs.Common.{ℕ, ◌≡◌, ◌<◌, ◌+◌, [], List, length, get_or, set, refl, sym, ap, subst, ◌∙◌, arith}
use Rattle.std.specs.List.{AllByRecursion, AllZip}
use Rattle.std.proofs.lemmas.List.{get_or_default, length-set, take_all}
use Rattle.mp_movie.specs.CanBeWritten.{CanBeWritten}
use Rattle.mp_movie.specs.Placed.{PlacedTrack}
use Rattle.cut_op.specs.declared.plan.TrackPlan.{TrackPlan}
use Rattle.cut_op.specs.Planned.{AreFilled, CanEdit, HasEdits}
use Rattle.cut_op.proofs.FillingPlans.{all_at, all_filled, one_filled, rest_at, same_at, zip_at, zip_long}
use Rattle.cut_op.proofs.MadeMovies.{few_tracks}
use Rattle.cut_op.proofs.plan.fill_edits.Goals as goal
use Rattle.cut_op.proofs.plan.fill_edits.Goals.{After-index-plans-at, In-loop-at}

-- there are as many plans as tracks
as_many : (c : In-loop-at) → length c.args.plans.now ≡ length c.tracks-tracks.result.now
as_many c = sym (zip_long (CanEdit [] c.args.movie.now.scale c.args.new c.args.from c.args.to) c.args.movie.now.tracks c.args.plans.now (c.requires.told [])) ∙ ap (λ (ts : List PlacedTrack). length ts) (sym c.tracks-tracks.ensures.tracks)

pub offset_bounds-tracks-at : goal.offset_bounds-tracks-at
offset_bounds-tracks-at c =
    let many = as_many c in
    let few = few_tracks c.args.movie.now c.can_be_cut.ensures.fits in
    let same : length c.tracks-tracks.result.now ≡ length c.args.movie.now.tracks = ap (λ (ts : List PlacedTrack). length ts) c.tracks-tracks.ensures.tracks in
    let lt = c.loop-at-test.true in
    omega (arith, lt, many, few, same)

pub bounds-tracks-at : goal.bounds-tracks-at
bounds-tracks-at c = subst (λ (n : ℕ). c.loop-at.at < n) (as_many c) c.loop-at-test.true

pub edits_of-requires-clause-track : goal.edits_of-requires-clause-track
edits_of-requires-clause-track c =
    subst CanBeWritten (sym c.index-tracks-at.is) (all_at CanBeWritten c.tracks-tracks.result.now c.loop-at.at c.index-tracks-at.result (subst (λ (n : ℕ). c.loop-at.at < n) (as_many (goal.at.edits_of-requires-clause-track c).In-loop-at) c.loop-at-test.true)
    (subst (AllByRecursion CanBeWritten) (sym c.tracks-tracks.ensures.tracks) c.can_be_cut.ensures.tracks))

pub edits_of-requires-clause-told : goal.edits_of-requires-clause-told
edits_of-requires-clause-told c = λ files.
    let at = c.loop-at.at in
    let long = c.loop-at.invariant.long in
    let lt = c.loop-at-test.true in
    let told = zip_at (CanEdit files c.args.movie.now.scale c.args.new c.args.from c.args.to) c.args.movie.now.tracks c.args.plans.now at c.index-tracks-at.result c.index-plans-at.result lt (c.requires.told files) in
    subst (λ (s : ℕ). CanEdit files s c.args.new c.args.from c.args.to c.index-tracks-at.result (get_or c.loop-at.plans at c.index-plans-at.result)) (sym c.scale-old.ensures)
    (subst (λ (t : PlacedTrack). CanEdit files c.args.movie.now.scale c.args.new c.args.from c.args.to t (get_or c.loop-at.plans at c.index-plans-at.result))
    (sym (c.index-tracks-at.is ∙ ap (λ (ts : List PlacedTrack). get_or ts at c.index-tracks-at.result) c.tracks-tracks.ensures.tracks))
    (subst (CanEdit files c.args.movie.now.scale c.args.new c.args.from c.args.to (get_or c.args.movie.now.tracks at c.index-tracks-at.result))
    (sym (same_at c.loop-at.plans c.args.plans.now at c.index-plans-at.result (omega (arith, lt, long)) lt c.loop-at.invariant.rest)) told))

pub loop-at-preserved : goal.loop-at-preserved
loop-at-preserved c =
    let at = c.loop-at.at in
    let long = c.loop-at.invariant.long in
    let lt = c.loop-at-test.true in
    let here : at < length c.loop-at.plans = omega (arith, lt, long) in
    let plan = get_or c.loop-at.plans at c.index-plans-at-in-loop-at.result in
    let one : TrackPlan = record plan { edits = c.in_ok-edits.edits } in
    let same : get_or c.loop-at.plans at c.index-plans-at.result ≡ plan = get_or_default c.loop-at.plans at c.index-plans-at.result c.index-plans-at-in-loop-at.result here in
    record {
      long = length-set c.loop-at.plans at one ∙ long;
      rest = rest_at c.loop-at.plans c.args.plans.now at one plan here lt c.loop-at.invariant.rest;
      filled = λ files.
          one_filled files c.scale-old.result c.args.new c.args.from c.args.to c.tracks-tracks.result.now c.args.plans.now c.loop-at.plans at c.index-tracks-at.result plan one (as_many (goal.at.loop-at-preserved c).In-loop-at) long lt
          c.loop-at.invariant.rest c.index-tracks-at.is (get_or_default c.loop-at.plans at c.index-plans-at-in-loop-at.result plan here) (c.loop-at.invariant.filled files)
          (record {
            same = refl;
            has = subst (λ (p : TrackPlan). HasEdits files c.scale-old.result c.args.new c.args.from c.args.to c.index-tracks-at.result p c.in_ok-edits.edits.items) same (c.in_ok-edits.ensures files);
          });
    }

pub returns : goal.returns
returns c = λ files.
    let many = zip_long (CanEdit [] c.args.movie.now.scale c.args.new c.args.from c.args.to) c.args.movie.now.tracks c.args.plans.now (c.requires.told []) in
    subst (λ (s : ℕ). AreFilled files s c.args.new c.args.from c.args.to c.args.movie.now.tracks c.args.plans.now c.loop-at.plans) c.scale-old.ensures
    (subst (λ (ts : List PlacedTrack). AreFilled files c.scale-old.result c.args.new c.args.from c.args.to ts c.args.plans.now c.loop-at.plans) c.tracks-tracks.ensures.tracks
    (all_filled files c.scale-old.result c.args.new c.args.from c.args.to c.tracks-tracks.result.now c.args.plans.now c.loop-at.plans c.loop-at.at (sym many ∙ ap (λ (ts : List PlacedTrack). length ts) (sym c.tracks-tracks.ensures.tracks))
    c.loop-at.invariant.long c.loop-at-test.false (c.loop-at.invariant.filled files)))
