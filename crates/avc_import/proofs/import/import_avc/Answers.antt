use Rattle.avc_import.proofs.Filming.{movie_not_there, movie_there}
use Rattle.avc_import.proofs.import.import_avc.Goals as goal

pub returns-in-Ok-movie_of-clause-movie : goal.returns-in-Ok-movie_of-clause-movie
returns-in-Ok-movie_of-clause-movie g c =
    let judged = c.in-Ok.ensures.judged in
    movie_there _ c.args.rate c.args.file _ c.in-Ok.judged c.in-Ok-movie_of.movie judged (λ files. c.in-Ok-movie_of.ensures.movie _ _ _ judged files)

pub returns-in-Err-Bad-clause-movie : goal.returns-in-Err-Bad-clause-movie
returns-in-Err-Bad-clause-movie g c =
    let judged = c.in-Ok.ensures.judged in
    movie_not_there _ c.args.rate c.args.file _ c.in-Ok.judged c.in-Err-Bad.bad judged (λ files. rw c.in-Err-Bad.field-0-is at (c.in-Err-Bad.ensures.movie _ _ _ judged files))
