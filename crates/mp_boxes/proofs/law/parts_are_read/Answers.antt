use Rattle.mp_boxes.proofs.PartsAreRead.{parts-cut, parts-read}
use Rattle.mp_boxes.proofs.law.parts_are_read.Goals as goal

pub returns : goal.returns
returns c = record { alone = parts-read; in_front = parts-cut }
