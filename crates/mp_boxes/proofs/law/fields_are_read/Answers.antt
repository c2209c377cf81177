use Rattle.mp_boxes.proofs.FieldsAreRead.{bytes-next, two-next, four-next, time-next}
use Rattle.mp_boxes.proofs.law.fields_are_read.Goals as goal

pub returns : goal.returns
returns c = record { two = two-next; four = four-next; time = time-next; bytes = bytes-next }
