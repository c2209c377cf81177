use Rattle.mp_read.proofs.TablesStand.{movies_stand}
use Rattle.mp_read.proofs.law.tables_stand_for_movies.Goals as goal

pub returns : goal.returns
returns c = movies_stand c.tables_give_samples.ensures
