use Rattle.mp_movie.proofs.ColumnsAreKept.{columns_are_kept}
use Rattle.mp_movie.proofs.law.columns_are_kept.Goals as goal

pub returns : goal.returns
returns c = columns_are_kept
