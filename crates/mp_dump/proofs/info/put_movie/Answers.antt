use Rattle.std.proofs.Common.{ap, length, List}
use Rattle.mp_movie.specs.Placed.{PlacedTrack}
use Rattle.mp_dump.proofs.LineOfMovie.{line_of_movie}
use Rattle.mp_dump.proofs.info.put_movie.Goals as goal

pub returns : goal.returns
returns c = λ files.
    line_of_movie files c.args.movie.now c.scale.result c.movie_duration.result (length c.tracks.result.now) c.args.out.now.items c.put_field.new.out.items c.put_field-2.new.out.items
    c.put_field-3.new.out.items c.extend_from_slice.new.self.items c.scale.ensures (c.movie_duration.ensures files) (ap (λ (tracks : List PlacedTrack). length tracks) c.tracks.ensures.tracks)
    c.in_ok-put_field.ensures c.in_ok-put_field-2.ensures c.in_ok-put_field-3.ensures c.in_ok-extend_from_slice.ensures.items
