use Rattle.std.proofs.Common.{◌-◌, ◌≤◌, length}
use Rattle.mp_columns.specs.declared.columns.TheConstants.{MOST_ITEMS}
use Rattle.mp_movie.specs.Present.{traks_in}
use Rattle.mp_read.specs.Part.{part_of}
use Rattle.mp_read.proofs.Walk.{Walked}
use Rattle.mp_read.proofs.tracks.read_tracks.Given as goal

abbrev pub invariant-loop-child : goal.invariant-loop-child
invariant-loop-child l = record {
  inside : l.at ≤ length l.body;
  few : l.samples ≤ MOST_ITEMS;
  walked : Walked l.file_size l.base l.body (traks_in (part_of l.moov l.whole)) l.at l.tracks.items l.samples;
}

abbrev pub decreases-loop-child : goal.decreases-loop-child
decreases-loop-child l = length l.body - l.at
