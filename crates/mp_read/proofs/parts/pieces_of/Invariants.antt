use Rattle.std.proofs.Common.{◌≡◌, map}
use Rattle.std.specs.List.{range_with_len}
use Rattle.mp_read.specs.Parts.{piece_in}
use Rattle.mp_read.proofs.parts.pieces_of.Given as goal

abbrev pub invariant-loop-i : goal.invariant-loop-i
invariant-loop-i l = l.pieces.items ≡ map (piece_in l.file l.places) (range_with_len 0 l.i)
