use Rattle.mp_boxes.proofs.Lengths.{box_bytes-len, boxes_bytes-len}
use Rattle.mp_boxes.proofs.format.boxes_have_lengths.Goals as goal

pub returns : goal.returns
returns c = record { one = box_bytes-len; all = boxes_bytes-len }
