use Rattle.std.proofs.Common.{◌-◌, ◌≤◌, drop, length}
use Rattle.mp_boxes.specs.Push.{IsLeft}
use Rattle.mp_chunks.proofs.SizesArePushed.{size_pieces}
use Rattle.mp_chunks.proofs.push.push_sizes.Given as goal

abbrev pub decreases-loop-stretch : goal.decreases-loop-stretch
decreases-loop-stretch g l = length (g.C.Column.items l.sizes) - l.cursor

abbrev pub invariant-loop-stretch : goal.invariant-loop-stretch
invariant-loop-stretch g l = record {
  inside : l.cursor ≤ length (g.C.Column.items l.sizes);
  left : IsLeft l.fn.out l.out (size_pieces (g.C.Column.items l.sizes)) (size_pieces (drop l.cursor (g.C.Column.items l.sizes)));
}
