use Rattle.avc_order.proofs.Standing.{stands_in_one}
use Rattle.avc_order.proofs.law.pictures_in_sequences.Goals as goal

pub returns : goal.returns
returns c = λ picture within. stands_in_one c.args.syncs.now picture c.requires within
