use Rattle.mp_movie.proofs.Laws.{is_read, is_refused}
use Rattle.mp_movie.proofs.law.readings_are_guarded.Goals as goal

pub returns-clause-read : goal.returns-clause-read
returns-clause-read c = is_read

pub returns-clause-refused : goal.returns-clause-refused
returns-clause-refused c = is_refused
