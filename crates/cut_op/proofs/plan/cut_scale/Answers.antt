use Rattle.std.proofs.Common.{ℕ, ◌+◌, List, take, drop, sym, ap, subst, ◌∙◌}
use Rattle.std.specs.List.{AllByRecursion}
use Rattle.std.proofs.lemmas.List.{take_all}
use Rattle.mp_movie.specs.CanBeWritten.{CanBeWritten}
use Rattle.mp_movie.specs.Placed.{PlacedTrack}
use Rattle.cut_op.specs.Planned.{HasScale, NoCut}
use Rattle.cut_op.proofs.FillingPlans.{all_at, split_at}
use Rattle.cut_op.proofs.plan.cut_scale.Goals as goal

pub scale_with-requires-clause-track : goal.scale_with-requires-clause-track
scale_with-requires-clause-track c =
    subst CanBeWritten (sym c.track-item.is) (all_at CanBeWritten c.tracks-tracks.result.now c.loop-track.track-index c.track-item.result c.loop-track-test.true
    (subst (AllByRecursion CanBeWritten) (sym c.tracks-tracks.ensures.tracks) c.can_be_cut.ensures.tracks))

pub returns-in_default-clause-none : goal.returns-in_default-clause-none
returns-in_default-clause-none c = λ files.
    let tracks = c.tracks-tracks.result.now in
    let whole = split_at tracks c.loop-track.track-index c.track-item.result c.loop-track-test.true c.track-item.is in
    let can = subst (AllByRecursion CanBeWritten) (sym c.tracks-tracks.ensures.tracks) c.can_be_cut.ensures.tracks in
    subst (λ (scale : ℕ). NoCut files scale c.args.from c.args.to c.args.movie.now.tracks) c.scale-old.ensures
    (subst (λ (ts : List PlacedTrack). NoCut files c.scale-old.result c.args.from c.args.to ts) (whole ∙ c.tracks-tracks.ensures.tracks)
    (c.in_default.ensures.none files (take c.loop-track.track-index tracks) (drop (c.loop-track.track-index + 1) tracks) (subst (AllByRecursion CanBeWritten) (sym whole) can) (c.loop-track.invariant.has files)))

pub returns-clause-some : goal.returns-clause-some
returns-clause-some c = λ files.
    subst (λ (scale : ℕ). HasScale files scale c.args.from c.args.to c.args.movie.now.tracks c.loop-track.scale) c.scale-old.ensures
    (subst (λ (ts : List PlacedTrack). HasScale files c.scale-old.result c.args.from c.args.to ts c.loop-track.scale) (take_all c.loop-track.track-index c.tracks-tracks.result.now c.loop-track-test.false ∙ c.tracks-tracks.ensures.tracks)
    (c.loop-track.invariant.has files))
