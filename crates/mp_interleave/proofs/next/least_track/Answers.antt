use Rattle.std.proofs.Common.{◌∙◌, ℕ, ◌-◌, ◌<◌, ◌≤◌, Option, arith, ap, drop, length, slice_index, subst, sym}
use Rattle.mp_movie.specs.Placed.{PlacedTrack}
use Rattle.mp_interleave.specs.Order.{keys_in, track_keys}
use Rattle.mp_interleave.specs.Left.{least_from, sooner, tails, window_from}
use Rattle.mp_interleave.proofs.Places.{IsNumber, least-back, number-at}
use Rattle.mp_interleave.proofs.next.least_track.Goals as goal
use Rattle.mp_interleave.proofs.next.least_track.Goals.{After-index-tracks-at}

number : (c : After-index-tracks-at) → IsNumber c.args.tracks.now c.args.next.now (c.loop-at.at - 1)
number c =
    let lt : c.loop-at.at - 1 < length c.args.tracks.now = omega (arith, c.loop-at.invariant.0, c.loop-at-test.true) in
    number-at c.args.tracks.now c.args.window c.args.done c.args.next.now (c.loop-at.at - 1) c.requires.place lt

pub bounds-next-at : goal.bounds-next-at
bounds-next-at c = (number (goal.at.bounds-next-at c).After-index-tracks-at).named

pub window_from-requires-clause-some : goal.window_from-requires-clause-some
window_from-requires-clause-some c = (number (goal.at.window_from-requires-clause-some c).After-index-tracks-at).some

pub window_from-requires-clause-inside : goal.window_from-requires-clause-inside
window_from-requires-clause-inside c =
    subst (λ (track : PlacedTrack). slice_index c.args.next.now (c.loop-at.at - 1) - 1 ≤ length track.deltas) (sym c.index-tracks-at.is)
    ((number (goal.at.window_from-requires-clause-inside c).After-index-tracks-at).inside c.index-tracks-at.result)

pub loop-at-preserved : goal.loop-at-preserved
loop-at-preserved c =
    let before = c.loop-at.at - 1 in
    let left_of : ℕ → ℕ = λ position. slice_index c.args.next.now position - 1 in
    let rest = least_from c.loop-at.at (tails left_of c.loop-at.at (drop c.loop-at.at (keys_in c.args.window c.args.tracks.now))) in (
      omega (arith, c.loop-at.invariant.0),
      c.sooner-best.ensures
          ∙ (ap (λ (window : Option ℕ). sooner before window c.loop-at.best) c.window_from.ensures
          ∙ (ap (λ (best : Option (ℕ × ℕ)). sooner before (window_from (drop (left_of before) (track_keys c.args.window c.index-tracks-at.result))) best) c.loop-at.invariant.1
          ∙ (ap (λ (track : PlacedTrack). sooner before (window_from (drop (left_of before) (track_keys c.args.window track))) rest) c.index-tracks-at.is
          ∙ least-back left_of c.loop-at.at before c.args.window c.args.tracks.now c.index-tracks-at.result (omega (arith, c.loop-at-test.true)) (omega (arith, c.loop-at.invariant.0, c.loop-at-test.true))))),
    )
