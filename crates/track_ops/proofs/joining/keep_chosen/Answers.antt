use Rattle.std.proofs.Common.{rules}
use Rattle.std.proofs.lemmas.Fn.{filter_same}
use Rattle.mp_movie.specs.Placed.{PlacedTrack}
use Rattle.track_ops.specs.Adding.{is_chosen}
use Rattle.track_ops.proofs.joining.keep_chosen.Goals as goal

pub returns-clause-tracks : goal.returns-clause-tracks
returns-clause-tracks c = filter_same _ (λ (track : PlacedTrack). is_chosen c.args.choice track.number track.head.handler) _ (λ x b f' k. search rules) _ _ c.retain.ensures.filtered
