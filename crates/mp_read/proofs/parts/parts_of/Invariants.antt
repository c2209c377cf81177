use Rattle.std.proofs.Common.{◌≡◌, ◌++◌, map}
use Rattle.std.specs.List.{AllByRecursion}
use Rattle.std.specs.Vec.Iter.{into_iter_items}
use Rattle.mp_read.specs.Parts.{HasSizes, placed_track}
use Rattle.mp_read.proofs.parts.parts_of.Given as goal

abbrev pub invariant-loop-track : goal.invariant-loop-track
invariant-loop-track l =
    (goal.iterator-loop-track).can_next l.track-iterator ×
    (goal.iterator-loop-track).is_finite l.track-iterator ×
    AllByRecursion HasSizes (into_iter_items l.track-iterator) ×
    (l.tracks.items ++ map (placed_track l.file) (into_iter_items l.track-iterator) ≡ map (placed_track l.fn.file) l.fn.movie.tracks)
