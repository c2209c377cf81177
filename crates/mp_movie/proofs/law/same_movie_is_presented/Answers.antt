use Rattle.mp_movie.proofs.Laws.{has_scales}
use Rattle.mp_movie.proofs.law.same_movie_is_presented.Goals as goal

pub returns-clause-scales : goal.returns-clause-scales
returns-clause-scales c = has_scales

pub returns-clause-presented : goal.returns-clause-presented
returns-clause-presented c = λ file movie scales defined. record { read = movie; defined = defined; same = c.sameness_is_equality.ensures.same movie scales }
