use Rattle.std.proofs.Common.{ℕ, List, ◌∷◌, subst, sym}
use Rattle.mp_boxes.specs.Push.{IsPushing}
use Rattle.mp_layout.proofs.plan.push_mdat_head.Goals as goal

pub returns : goal.returns
returns c = λ rest all p. c.push_head.ensures.pushed rest all (subst (λ (text : List ℕ). IsPushing c.args.out.now (text ∷ rest) all) (sym c.mdat_head_len.ensures.head) p)
