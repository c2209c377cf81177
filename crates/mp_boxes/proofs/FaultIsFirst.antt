-- A walk over the boxes of a container's body tells whether it is whole boxes, or its first fault.
use Rattle.std.proofs.Common.{◌≡◌, ℕ, ◌+◌, ◌-◌, ◌≤◌, Bool, false, List, [], ◌∷◌, ◌++◌, length, drop, Option, Some, None, Result, Ok, Err, refl, sym, ap, subst, ◌∙◌, arith, inl, inr, Fits, w8, get_or}
use Rattle.std.proofs.lemmas.Bool.{cases_eq, ne_eqb}
use Rattle.std.proofs.lemmas.List.{length-append, length-drop, drop-drop, drop_all, get_or-drop}
use Rattle.mp_ports.specs.declared.code.Code.{Code}
use Rattle.mp_ports.specs.declared.fault.Bad.{Bad}
use Rattle.mp_ports.specs.Checks.{bad_at, ◌>>=◌, placed}
use Rattle.mp_boxes.specs.declared.head.TopHead.{TopHead}
use Rattle.mp_boxes.specs.declared.head.BoxHead.{BoxHead}
use Rattle.mp_boxes.specs.Head.{head_fault, head_at, box_head, next_head}
use Rattle.mp_boxes.specs.Boxes.{IsBytes, Box, IsContainer, IsCut, IsFirstFault, front_box}
use Rattle.mp_boxes.proofs.HeadsWereSpelled.{head_at-spelled}
use Rattle.mp_boxes.proofs.CutInOneWay.{rest_within, cut-more, walk-cut}
use Rattle.mp_boxes.proofs.NextBoxes.{at_end, found_inj, not_err}

-- boxes behind boxes
cut-behind : (top : Bool) (place : ℕ) (text : List ℕ) (before : List Box) (middle : List ℕ) (more : List Box) (rest : List ℕ) → IsCut top place text before middle
    → IsCut top (place + (length text - length middle)) middle more rest → IsCut top place text (before ++ more) rest
cut-behind top place text [] middle more rest c d = rw c (subst (λ (k : ℕ). IsCut top k middle more rest) (omega (arith, ap length c)) d)
cut-behind top place text (box ∷ before) middle more rest c d =
    let within = rest_within top (place + length box.header + length box.body) c.0 before middle c.4 in
    let there : place + (length text - length middle) ≡ place + length box.header + length box.body + (length c.0 - length middle) =
    omega (arith, ap length c.2, length-append box.header (box.body ++ c.0), length-append box.body c.0) in
    (c.0, c.1, c.2, c.3, cut-behind top (place + length box.header + length box.body) c.0 before middle more rest c.4 (subst (λ (k : ℕ). IsCut top k middle more rest) there d))

-- the boxes in front of a place
pub record Walked (base : ℕ) (bytes : List ℕ) (at : ℕ) : Type 0 where
  pub before : List Box
  pub cut : IsCut false base bytes before (drop at bytes)

bad_inj : (x y : Bad) → let f : Bad → Result (Option BoxHead) Bad = λ v. Err v in f x ≡ f y → x ≡ y
bad_inj x y e = cc

none_some : (x : BoxHead) → let f : Option BoxHead → Result (Option BoxHead) Bad = λ v. Ok v in f None ≡ f (Some x) → ⊥
none_some x e = cc

before_end : (base at : ℕ) (bytes : List ℕ) → (at ≡ length bytes → ⊥) → next_head base bytes at ≡ (placed (base + at) (head_at false (drop at bytes)) >>= λ head. Ok (Some (box_head at head)))
before_end base at bytes more = rw (ne_eqb at (length bytes) more) refl

-- where a box is found, its head is read there
next-some : (base at : ℕ) (bytes : List ℕ) (b : BoxHead) → next_head base bytes at ≡ Ok (Some b) → (h : TopHead) × (head_at false (drop at bytes) ≡ Ok h) × (b ≡ box_head at h)
next-some base at bytes b e = by_head (head_at false (drop at bytes)) refl
  where
    more : at ≡ length bytes → ⊥
    more q = none_some b (sym (at_end base at bytes q) ∙ e)

    by_head : (r : Result TopHead Code) → head_at false (drop at bytes) ≡ r → (h : TopHead) × (head_at false (drop at bytes) ≡ Ok h) × (b ≡ box_head at h)
    by_head (Ok h) q = (h, q, sym (found_inj _ _ (rw (before_end base at bytes more, q) at e)))
    by_head (Err d) q = absurd (not_err (Some b) _ (sym (rw (before_end base at bytes more, q) at e)))

next-none : (base at : ℕ) (bytes : List ℕ) → next_head base bytes at ≡ Ok None → at ≡ length bytes
next-none base at bytes e = elim (cases_eq at (length bytes)) [
  | inl q ↦ q
  | inr more ↦ by_head more (head_at false (drop at bytes)) refl
]
  where
    by_head : (at ≡ length bytes → ⊥) → (r : Result TopHead Code) → head_at false (drop at bytes) ≡ r → at ≡ length bytes
    by_head more (Ok h) q = absurd (none_some _ (sym (rw (before_end base at bytes more, q) at e)))
    by_head more (Err d) q = absurd (not_err None _ (sym (rw (before_end base at bytes more, q) at e)))

next-err : (base at : ℕ) (bytes : List ℕ) (bad : Bad) → next_head base bytes at ≡ Err bad
    → (code : Code) × (head_fault false (drop at bytes) (length (drop at bytes)) ≡ Some code) × (bad ≡ bad_at code (base + at)) × (at ≡ length bytes → ⊥)
next-err base at bytes bad e = by_fault (head_fault false (drop at bytes) (length (drop at bytes))) refl
  where
    more : at ≡ length bytes → ⊥
    more q = not_err None bad (sym (at_end base at bytes q) ∙ e)

    by_fault : (f : Option Code) → head_fault false (drop at bytes) (length (drop at bytes)) ≡ f
        → (code : Code) × (head_fault false (drop at bytes) (length (drop at bytes)) ≡ Some code) × (bad ≡ bad_at code (base + at)) × (at ≡ length bytes → ⊥)
    by_fault None q = absurd (not_err _ bad (rw (before_end base at bytes more, q) at e))
    by_fault (Some code) q = (code, q, sym (bad_inj _ _ (rw (before_end base at bytes more, q) at e)), more)

pub walked_on : (base at : ℕ) (bytes : List ℕ) (b : BoxHead) → ((i : ℕ) → Fits w8 (get_or bytes i 0)) → at ≤ length bytes → next_head base bytes at ≡ Ok (Some b) → Walked base bytes at → Walked base bytes (at + b.len)
walked_on base at bytes b fits le e w =
    let n = next-some base at bytes b e in
    let h = n.0 in
    let text = drop at bytes in
    let is_bytes : IsBytes text = λ i. rw get_or-drop (omega (arith, fits (at + i))) in
    let r = head_at-spelled false text h is_bytes n.1 in
    let there : base + (length bytes - length text) ≡ base + at = omega (arith, length-drop at bytes) in
    let more : IsCut false (base + at) text (front_box h (base + at) text ∷ []) (drop h.len text) = cut-more false (base + at) text h [] (drop h.len text) r refl in
    let cut : IsCut false base bytes (w.before ++ front_box h (base + at) text ∷ []) (drop h.len text) =
    cut-behind false base bytes w.before text (front_box h (base + at) text ∷ []) (drop h.len text) w.cut (subst (λ (k : ℕ). IsCut false k text (front_box h (base + at) text ∷ []) (drop h.len text)) (sym there) more) in
    rw n.2 (record {
      before = w.before ++ front_box h (base + at) text ∷ [];
      cut = subst (λ (t : List ℕ). IsCut false base bytes (w.before ++ front_box h (base + at) text ∷ []) t) (drop-drop h.len at bytes) cut;
    })

pub walked_all : (base at : ℕ) (bytes : List ℕ) → next_head base bytes at ≡ Ok None → Walked base bytes at → (all : List Box) × IsCut false base bytes all []
walked_all base at bytes e w = (w.before, subst (λ (t : List ℕ). IsCut false base bytes w.before t) (drop_all at bytes (omega (arith, next-none base at bytes e))) w.cut)

pub walked_to_fault : (base at : ℕ) (bytes : List ℕ) (bad : Bad) → at ≤ length bytes → next_head base bytes at ≡ Err bad → Walked base bytes at → IsFirstFault false base bytes bad
walked_to_fault base at bytes bad le e w =
    let n = next-err base at bytes bad e in
    let more = n.3 in
    let there : base + at ≡ base + (length bytes - length (drop at bytes)) = omega (arith, length-drop at bytes) in
    record {
      before = w.before;
      rest = drop at bytes;
      cut = w.cut;
      more = omega (arith, length-drop at bytes);
      code = n.0;
      fault = n.1;
      bad_is = n.2 ∙ ap (bad_at n.0) there;
    }

pub all_read : (base : ℕ) (bytes : List ℕ) (all : List Box) → IsCut false base bytes all [] → IsContainer base bytes
all_read base bytes all cut = record {
  children = all;
  cut = cut;
  left = subst (λ (k : ℕ). IsCut false k bytes all []) (omega arith) cut;
  read = walk-cut (length bytes) false base bytes all cut (omega arith);
}
