use Rattle.std.proofs.Common.{length, refl}
use Rattle.mp_boxes.proofs.NumbersAreRead.{u16_at-behind, u32_at-behind, u64_at-behind, kind_at-behind}
use Rattle.mp_boxes.proofs.law.numbers_are_read.Goals as goal

pub returns : goal.returns
returns c = record {
  two = λ front rest n fits. u16_at-behind front n rest (length front) refl fits;
  four = λ front rest n fits. u32_at-behind front n rest (length front) refl fits;
  eight = λ front rest n fits. u64_at-behind front n rest (length front) refl fits;
  kind = λ front rest kind four. kind_at-behind front kind rest (length front) refl four;
}
