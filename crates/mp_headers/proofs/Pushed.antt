-- A box whose body is the same is pushed alike.
use Rattle.std.proofs.Common.{◌≡◌, ℕ, List, subst}
use Rattle.std.specs.declared.alloc.Global.{Global}
use Rattle.std.specs.declared.vec.Vec.{Vec}
use Rattle.mp_boxes.specs.Field.{Part, box_bytes}
use Rattle.mp_boxes.specs.Push.{IsPushed}

abbrev named : List ℕ → List ℕ → Part
named kind body = record { kind = kind; body = body }

pub same_body : (old new : Vec ℕ Global) (kind one other : List ℕ) → one ≡ other → IsPushed old new (box_bytes (named kind one)) → IsPushed old new (box_bytes (named kind other))
same_body old new kind one other = subst (λ (body : List ℕ). IsPushed old new (box_bytes (named kind body)))
