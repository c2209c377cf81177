use Rattle.mp_boxes.proofs.WholeBoxes.{all_whole, joined_cut}
use Rattle.mp_boxes.proofs.law.boxes_are_whole.Goals as goal

pub returns : goal.returns
returns c = record { alone = all_whole; joined = joined_cut }
