use Rattle.std.proofs.Common.{length, arith}
use Rattle.mp_boxes.proofs.CutInOneWay.{one_cut, walk-cut, cut-walk, fault-read, fault-walk}
use Rattle.mp_boxes.proofs.law.boxes_are_read.Goals as goal

pub returns : goal.returns
returns c = record {
  one_way = one_cut;
  found = λ top place text cut is. walk-cut (length text) top place text cut is (omega arith);
  spelled = λ top place text cut bytes is. cut-walk (length text) top place text cut bytes (omega arith) is;
  refused = fault-read;
  first = λ top place text bad bytes is. fault-walk (length text) top place text bad bytes (omega arith) is;
}
