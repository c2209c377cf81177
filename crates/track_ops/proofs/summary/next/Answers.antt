use Rattle.std.proofs.Common.{rules, List, subst, sym}
use Rattle.mp_movie.specs.Placed.{PlacedTrack}
use Rattle.track_ops.specs.Summed.{IsSummary}
use Rattle.track_ops.proofs.Summaries.{chosen_push, one_more}
use Rattle.track_ops.proofs.summary.next.Goals as goal

pub returns-then-is_chosen : goal.returns-then-is_chosen
returns-then-is_chosen c = λ tracks sum.
    subst (λ (ts : List PlacedTrack). IsSummary ts c.with_track.result) (sym (chosen_push c.args.choice tracks c.args.track.now (search rules))) (one_more _ c.args.track.now c.args.summary c.with_track.result sum c.with_track.ensures)
