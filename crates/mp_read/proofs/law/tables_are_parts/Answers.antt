use Rattle.mp_read.proofs.BareParts.{parts_are}
use Rattle.mp_read.proofs.SizesFit.{have_sizes}
use Rattle.mp_read.proofs.law.tables_are_parts.Goals as goal

pub returns-clause-parts : goal.returns-clause-parts
returns-clause-parts c =
    parts_are (record { read = c.boxes_are_read.ensures; whole = c.boxes_are_whole.ensures; kept = c.kept_are_entries.ensures; samples = c.tables_give_samples.ensures })

pub returns-clause-sizes : goal.returns-clause-sizes
returns-clause-sizes c = have_sizes c.tables_give_samples.ensures
