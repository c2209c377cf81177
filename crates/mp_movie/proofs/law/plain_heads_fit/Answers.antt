use Rattle.mp_movie.proofs.PlainHeads.{movie_head_fits, sound_head_fits, track_head_fits}
use Rattle.mp_movie.proofs.law.plain_heads_fit.Goals as goal

pub returns-clause-movie : goal.returns-clause-movie
returns-clause-movie c = movie_head_fits

pub returns-clause-track : goal.returns-clause-track
returns-clause-track c = track_head_fits

pub returns-clause-sound : goal.returns-clause-sound
returns-clause-sound c = sound_head_fits
