use Rattle.std.proofs.Common.{rules, ℕ, ◌≡◌, ◌+◌, List, [], ◌∷◌, ◌++◌, take, drop, sym, ap, subst, ◌∙◌}
use Rattle.std.specs.List.{AllByRecursion}
use Rattle.std.proofs.lemmas.List.{take_all}
use Rattle.mp_movie.specs.CanBeWritten.{CanBeWritten}
use Rattle.mp_movie.specs.Placed.{PlacedTrack}
use Rattle.mp_ports.specs.Gives.{refusal}
use Rattle.cut_op.specs.Planned.{ArePlanned, NoCut}
use Rattle.cut_op.proofs.FillingPlans.{all_at, front_more, split_at}
use Rattle.cut_op.proofs.MadeMovies.{are_planned_more, says}
use Rattle.cut_op.proofs.plan.plan_tracks.Goals as goal

pub plan_track-requires-clause-track : goal.plan_track-requires-clause-track
plan_track-requires-clause-track c =
    subst CanBeWritten (sym c.track-item.is) (all_at CanBeWritten c.tracks-tracks.result.now c.loop-track.track-index c.track-item.result c.loop-track-test.true
    (subst (AllByRecursion CanBeWritten) (sym c.tracks-tracks.ensures.tracks) c.can_be_cut.ensures.tracks))

pub returns-in-Err-clause-refused : goal.returns-in-Err-clause-refused
returns-in-Err-clause-refused c =
    let tracks = c.tracks-tracks.result.now in
    let whole = split_at tracks c.loop-track.track-index c.track-item.result c.loop-track-test.true c.track-item.is in
    let can = subst (AllByRecursion CanBeWritten) (sym c.tracks-tracks.ensures.tracks) c.can_be_cut.ensures.tracks in
    says (refusal c.in-Err.fail) c.in-Err.ensures.refused (λ bad h. (
      h.0,
      λ files.
          subst (λ (scale : ℕ). NoCut files scale c.args.from c.args.to c.args.movie.now.tracks) c.scale-old.ensures
          (subst (λ (ts : List PlacedTrack). NoCut files c.scale-old.result c.args.from c.args.to ts) (whole ∙ c.tracks-tracks.ensures.tracks)
          (h.1 files (take c.loop-track.track-index tracks) (drop (c.loop-track.track-index + 1) tracks) (subst (AllByRecursion CanBeWritten) (sym whole) can))),
    ))

pub loop-track-preserved : goal.loop-track-preserved
loop-track-preserved c = λ files.
    let now : c.push.new.self.items ≡ c.loop-track.plans.items ++ c.in-Ok.both.0 ∷ [] = search rules in
    subst (λ (ts : List PlacedTrack). ArePlanned files c.scale-old.result c.args.new c.args.from c.args.to ts c.push.new.self.items c.either-passed.result)
    (sym (front_more c.tracks-tracks.result.now c.loop-track.track-index c.track-item.result c.loop-track-test.true c.track-item.is))
    (are_planned_more files c.scale-old.result c.args.new c.args.from c.args.to (take c.loop-track.track-index c.tracks-tracks.result.now) c.loop-track.plans.items c.push.new.self.items c.loop-track.passed c.either-passed.result
    c.track-item.result c.in-Ok.both.0 c.in-Ok.both.1 (c.loop-track.invariant files) (c.in-Ok.ensures.plan files) now c.either-passed.ensures)

pub returns-clause-plans : goal.returns-clause-plans
returns-clause-plans c = λ files.
    subst (λ (scale : ℕ). ArePlanned files scale c.args.new c.args.from c.args.to c.args.movie.now.tracks c.loop-track.plans.items c.loop-track.passed) c.scale-old.ensures
    (subst (λ (ts : List PlacedTrack). ArePlanned files c.scale-old.result c.args.new c.args.from c.args.to ts c.loop-track.plans.items c.loop-track.passed)
    (take_all c.loop-track.track-index c.tracks-tracks.result.now c.loop-track-test.false ∙ c.tracks-tracks.ensures.tracks) (c.loop-track.invariant files))
