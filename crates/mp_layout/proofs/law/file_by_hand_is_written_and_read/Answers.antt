use Rattle.mp_layout.proofs.Examples.{example_is_read, example_is_written}
use Rattle.mp_layout.proofs.law.file_by_hand_is_written_and_read.Goals as goal

pub returns-clause-written : goal.returns-clause-written
returns-clause-written c = example_is_written

pub returns-clause-read : goal.returns-clause-read
returns-clause-read c = example_is_read
