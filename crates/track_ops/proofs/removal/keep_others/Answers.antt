use Rattle.std.proofs.Common.{rules, ◌==◌, not}
use Rattle.std.proofs.lemmas.Fn.{filter_same}
use Rattle.mp_movie.specs.Placed.{PlacedTrack}
use Rattle.track_ops.proofs.removal.keep_others.Goals as goal

pub returns : goal.returns
returns c = filter_same _ (λ (track : PlacedTrack). not (track.number == c.args.number)) _ (λ x b f' k. search rules) _ _ c.retain.ensures.filtered
