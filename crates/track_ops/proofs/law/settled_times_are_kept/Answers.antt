use Rattle.track_ops.proofs.TimesStay.{kept}
use Rattle.track_ops.proofs.law.settled_times_are_kept.Goals as goal

pub returns : goal.returns
returns c = kept
