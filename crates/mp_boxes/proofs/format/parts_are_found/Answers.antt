use Rattle.mp_boxes.proofs.PartsAreFound.{parts-again, parts_of-anywhere, parts_of-behind, parts_of-read}
use Rattle.mp_boxes.proofs.format.parts_are_found.Goals as goal

pub returns : goal.returns
returns c = record { alone = parts_of-read; in_front = parts_of-behind; anywhere = parts_of-anywhere; same = parts-again }
