use Rattle.mp4edit.proofs.Sounds.{import_lies, read_lies}
use Rattle.mp4edit.proofs.input.read_opened.Goals as goal

pub returns-in-Some-Adts-clause-lies : goal.returns-in-Some-Adts-clause-lies
returns-in-Some-Adts-clause-lies g c = import_lies _ _ _ c.import_adts.ensures.sound

pub returns-in_default-clause-lies : goal.returns-in_default-clause-lies
returns-in_default-clause-lies g c = read_lies _ _ _ c.read_movie.ensures.inside
