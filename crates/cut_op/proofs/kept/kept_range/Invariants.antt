use Rattle.std.proofs.Common.{◌≡◌, ◌≤◌, List, length, take}
use Rattle.std.specs.Prelude.{sum}
use Rattle.mp_clip.specs.declared.touching.Span.{Span}
use Rattle.mp_movie.specs.Placed.{naturals}
use Rattle.cut_op.specs.Found.{is_marked, is_touched}
use Rattle.cut_op.specs.Items.{AreLeft}
use Rattle.cut_op.specs.Reach.{AreInOrder}
use Rattle.cut_op.proofs.Finding.{AreFound}
use Rattle.cut_op.proofs.kept.kept_range.Given as goal

-- three columns are read up to here, and what is found is found in the samples up to here
abbrev pub invariant-loop-before : goal.invariant-loop-before
invariant-loop-before l = record {
  deltas_column : l.deltas.column.now ≡ l.track.deltas;
  offsets_column : l.offsets.column.now ≡ l.track.offsets;
  syncs_column : l.syncs.column.now ≡ l.track.syncs;
  deltas : AreLeft l.track.deltas l.before l.deltas.cursor l.deltas.run;
  offsets : AreLeft l.track.offsets l.before l.offsets.cursor l.offsets.run;
  syncs : AreLeft l.track.syncs l.before l.syncs.cursor l.syncs.run;
  decode : l.decode ≡ sum (take l.before (naturals l.track.deltas));
  inside : l.before ≤ length l.track.deltas;
  found : (those : List Span) → AreInOrder those l.spans → AreFound (is_marked l.track) (is_touched those l.track) l.before l.found;
}
