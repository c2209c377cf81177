use Rattle.std.proofs.Common.{drop}
use Rattle.mp_boxes.specs.Push.{IsLeft}
use Rattle.mp_chunks.proofs.RunsArePushed.{place_pieces}
use Rattle.mp_chunks.proofs.push.push_places.Given as goal

abbrev pub invariant-loop-chunk : goal.invariant-loop-chunk
invariant-loop-chunk l = IsLeft l.fn.out l.out (place_pieces l.wide l.chunks) (place_pieces l.wide (drop l.chunk-index l.chunks))
