use Rattle.mp_read.proofs.WithinLimits.{tables_fit}
use Rattle.mp_read.proofs.law.tables_fit.Goals as goal

pub returns : goal.returns
returns c = tables_fit (record { samples = c.tables_give_samples.ensures; kept = c.kept_are_entries.ensures; limits = c.limits_are_of_tracks.ensures })
