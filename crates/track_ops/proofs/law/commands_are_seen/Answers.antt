use Rattle.track_ops.proofs.SeenChanges.{delay_seen, movie_scale_seen, track_scale_seen}
use Rattle.track_ops.proofs.SeenCommands.{added, head_changed, removed}
use Rattle.track_ops.proofs.law.commands_are_seen.Goals as goal

pub returns : goal.returns
returns c =
    let law = c.times_decide_what_is_shown.ensures in
    record {
      add = added law;
      remove = removed;
      head = head_changed;
      delay = delay_seen;
      track_scale = track_scale_seen law;
      movie_scale = movie_scale_seen law;
    }
