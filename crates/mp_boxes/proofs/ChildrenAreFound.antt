-- A walk over the boxes of a container's body finds its children by their type.
use Rattle.std.proofs.Common.{◌≡◌, ℕ, ◌+◌, Bool, true, false, List, [], ◌∷◌, length, Option, Some, None, Result, Ok, Err, refl, sym, ap, subst, ◌∙◌, arith, IsOk, Fits, w8, get_or}
use Rattle.std.specs.Prelude.{◌||◌}
use Rattle.std.specs.Str.{bytes_eq}
use Rattle.mp_ports.specs.declared.code.Code.TheVariants.{BoxTwice}
use Rattle.mp_ports.specs.declared.fault.Bad.{Bad}
use Rattle.mp_ports.specs.Checks.{bad_at, ◌>>=◌}
use Rattle.mp_boxes.specs.declared.head.BoxHead.{BoxHead}
use Rattle.mp_boxes.specs.Boxes.{AreLeft, Box, IsCut, boxes}
use Rattle.mp_boxes.specs.Child.{IsFirstOf, IsHeadOf, MayBeFirstOf, MayGiveBox, at_most_one_of, first_child, is_either, of_either, of_kind, one_child, one_child_of_two, one_of, optional_child, optional_child_of_two}
use Rattle.mp_boxes.proofs.CutInOneWay.{cut-walk}

-- ---- up to the next of two types

-- the boxes of either type among those that are left from `at` on are those of all
pub record Passed (base : ℕ) (bytes kind other : List ℕ) (at : ℕ) (all : List Box) : Type 0 where
  pub left : List Box
  pub cut : AreLeft base at bytes left
  pub same : of_either kind other all ≡ of_either kind other left

pub one_passed : (base : ℕ) (bytes kind other : List ℕ) (at : ℕ) (all : List Box) (b : BoxHead) (p : Passed base bytes kind other at all) → IsFirstOf (λ boxes. boxes) base bytes p.left b → is_either kind other b.kind ≡ false
    → Passed base bytes kind other (b.place + b.len) all
one_passed base bytes kind other at all b p f k =
    record { left = f.others; cut = f.cut; same = p.same ∙ (ap (of_either kind other) f.both ∙ rw (← f.head.kind, k) refl) }

pub all_passed : (base : ℕ) (bytes kind other : List ℕ) (at : ℕ) (all : List Box) (p : Passed base bytes kind other at all) → p.left ≡ [] → of_either kind other all ≡ []
all_passed base bytes kind other at all p e = p.same ∙ ap (of_either kind other) e

-- ---- two types that are one

or_same : (b : Bool) → (b || b) ≡ b
or_same true = refl
or_same false = refl

either_same : (kind : List ℕ) (boxes : List Box) → of_either kind kind boxes ≡ of_kind kind boxes
either_same kind [] = refl
either_same kind (box ∷ boxes) = rw (or_same (bytes_eq box.kind kind), either_same kind boxes) refl

pub next_same : (kind : List ℕ) (base : ℕ) (bytes : List ℕ) (left : List Box) (found : Option BoxHead) → MayBeFirstOf (of_either kind kind) base bytes left found → MayBeFirstOf (of_kind kind) base bytes left found
next_same kind base bytes left None e = sym (either_same kind left) ∙ e
next_same kind base bytes left (Some b) f =
    record { first = f.first; others = f.others; both = sym (either_same kind left) ∙ (f.both ∙ ap (λ (v : List Box). f.first ∷ v) (either_same kind f.others)); head = f.head; cut = f.cut }

same_behind : {A : Type 0} (r : Result (List Box) Bad) (f g : List Box → Result A Bad) → ((children : List Box) → f children ≡ g children) → (r >>= f) ≡ (r >>= g)
same_behind (Ok children) f g e = e children
same_behind (Err bad) f g e = refl

pub optional_child_same : (base : ℕ) (bytes kind : List ℕ) → optional_child_of_two base bytes kind kind ≡ optional_child base bytes kind
optional_child_same base bytes kind =
    same_behind (boxes false base bytes) (λ children. at_most_one_of (of_either kind kind children)) (λ children. at_most_one_of (of_kind kind children)) (λ children. ap at_most_one_of (either_same kind children))

pub one_child_same : (base : ℕ) (bytes kind : List ℕ) → one_child_of_two base bytes kind kind ≡ one_child base bytes kind
one_child_same base bytes kind =
    same_behind (boxes false base bytes) (λ children. one_of (base + length bytes) (of_either kind kind children)) (λ children. one_of (base + length bytes) (of_kind kind children))
    (λ children. ap (one_of (base + length bytes)) (either_same kind children))

-- ---- the children of a body that is whole boxes

pub whole_boxes : (base : ℕ) (bytes : List ℕ) → ((at : ℕ) → Fits w8 (get_or bytes at 0)) → IsOk (boxes false base bytes) → (all : List Box) × (boxes false base bytes ≡ Ok all) × AreLeft base 0 bytes all
whole_boxes base bytes fits ok = by_result (boxes false base bytes) refl ok
  where
    by_result : (r : Result (List Box) Bad) → boxes false base bytes ≡ r → IsOk r → (all : List Box) × (boxes false base bytes ≡ Ok all) × AreLeft base 0 bytes all
    by_result (Ok all) e ok = (all, e, subst (λ (k : ℕ). IsCut false k bytes all []) (omega arith) (cut-walk (length bytes) false base bytes all (λ at. omega (arith, fits at)) (omega arith) e))
    by_result (Err bad) e ok = absurd cc

pub one_found : (pick : List Box → List Box) (base : ℕ) (bytes : List ℕ) (left : List Box) (b : BoxHead) (f : IsFirstOf pick base bytes left b) → pick f.others ≡ [] → at_most_one_of (pick left) ≡ Ok (Some f.first)
one_found pick base bytes left b f e = rw (f.both, e) refl

pub two_found : (pick : List Box → List Box) (base : ℕ) (bytes : List ℕ) (left : List Box) (b second : BoxHead) (f : IsFirstOf pick base bytes left b) → IsFirstOf pick base bytes f.others second
    → at_most_one_of (pick left) ≡ Err (bad_at BoxTwice (base + second.place))
two_found pick base bytes left b second f g = rw (f.both, g.both, ← g.head.span.place) refl

pub first_given : (base : ℕ) (bytes kind : List ℕ) (all : List Box) → boxes false base bytes ≡ Ok all → (found : Option BoxHead) → MayBeFirstOf (of_kind kind) base bytes all found
    → MayGiveBox (IsHeadOf base bytes) (Ok found) (first_child base bytes kind)
first_given base bytes kind all e None none = rw (e, none) refl
first_given base bytes kind all e (Some b) f = (f.first, rw (e, f.both) refl, f.head)

-- ---- their number

-- so many were counted in front of `at`
pub record Counted (base : ℕ) (bytes kind : List ℕ) (at count : ℕ) : Type 0 where
  pub all : List Box
  pub read : boxes false base bytes ≡ Ok all
  pub left : List Box
  pub cut : AreLeft base at bytes left
  pub sum : count + length (of_kind kind left) ≡ length (of_kind kind all)

pub none_counted : (base : ℕ) (bytes kind : List ℕ) → ((at : ℕ) → Fits w8 (get_or bytes at 0)) → IsOk (boxes false base bytes) → Counted base bytes kind 0 0
none_counted base bytes kind fits ok = let w = whole_boxes base bytes fits ok in record { all = w.0; read = w.1; left = w.0; cut = w.2; sum = omega arith }

pub one_counted : (base : ℕ) (bytes kind : List ℕ) (at count : ℕ) (b : BoxHead) (c : Counted base bytes kind at count) → IsFirstOf (of_kind kind) base bytes c.left b → Counted base bytes kind (b.place + b.len) (count + 1)
one_counted base bytes kind at count b c f = record { all = c.all; read = c.read; left = f.others; cut = f.cut; sum = omega (arith, c.sum, ap length f.both) }
