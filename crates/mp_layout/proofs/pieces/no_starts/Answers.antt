use Rattle.std.proofs.Common.{rules}
use Rattle.mp_layout.proofs.PiecesOfChunks.{starts-none}
use Rattle.mp_layout.proofs.pieces.no_starts.Goals as goal

pub returns : goal.returns
returns c = λ tracks few. starts-none tracks _ (search rules) few
