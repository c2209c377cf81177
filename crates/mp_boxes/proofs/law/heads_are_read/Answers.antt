use Rattle.std.proofs.Common.{◌≡◌, ◌-◌, ℕ, length, take, drop, subst, arith}
use Rattle.mp_boxes.specs.Header.{IsHeader}
use Rattle.mp_boxes.proofs.FrontIsEnough.{head_from-take}
use Rattle.mp_boxes.proofs.HeadersAreRead.{head_at-written}
use Rattle.mp_boxes.proofs.HeadsWereSpelled.{head_at-spelled}
use Rattle.mp_boxes.proofs.law.heads_are_read.Goals as goal

pub returns : goal.returns
returns c = record {
  read = λ top kind header body after is. head_at-written top kind body after header is;
  spelled = λ top text head bytes is.
      let r = head_at-spelled top text head bytes is in
      let whole = r.whole_len in
      let header = r.header_len in
      let len : length (drop head.head (take head.len text)) ≡ head.len - head.head = omega arith in
      subst (λ (n : ℕ). IsHeader top head.kind n (drop head.len text) (take head.head text)) len r.spelled;
  told = head_from-take;
}
