-- What is found at a place of a container's body is the next of the boxes that are left.
use Rattle.std.proofs.Common.{◌≡◌, ℕ, ◌+◌, ◌-◌, ◌≤◌, false, List, [], ◌∷◌, ◌++◌, length, take, drop, Option, Some, None, Result, Ok, Err, refl, sym, ap, subst, ◌∙◌, add_assoc, arith, rules, slice_range}
use Rattle.std.proofs.Math.Seq.{take-append_seam}
use Rattle.std.proofs.lemmas.Bool.{ne_eqb, eq-eqb}
use Rattle.std.proofs.lemmas.List.{length-append, length-drop, drop-drop, same_lists, places}
use Rattle.mp_ports.specs.declared.fault.Bad.{Bad}
use Rattle.mp_boxes.specs.declared.head.BoxHead.{BoxHead}
use Rattle.mp_boxes.specs.Head.{head_at, next_head}
use Rattle.mp_boxes.specs.Boxes.{AreLeft, Box, IsCut}
use Rattle.mp_boxes.specs.Child.{IsFirstOf, IsHeadOf, IsNextOf}
use Rattle.mp_boxes.proofs.HeadersAreRead.{head_at-written, IsHeader-long}
use Rattle.mp_boxes.proofs.CutInOneWay.{body_of, rest_of}

pub found_inj : (x y : BoxHead) → let f : BoxHead → Result (Option BoxHead) Bad = λ v. Ok (Some v) in f x ≡ f y → x ≡ y
found_inj x y e = cc

not_none : (x : BoxHead) → let f : Option BoxHead → Result (Option BoxHead) Bad = λ v. Ok v in f (Some x) ≡ f None → ⊥
not_none x h = cc

pub not_err : (x : Option BoxHead) (d : Bad) → let f : Option BoxHead → Result (Option BoxHead) Bad = λ v. Ok v in f x ≡ Err d → ⊥
not_err x d h = cc

pub at_end : (base at : ℕ) (bytes : List ℕ) → at ≡ length bytes → next_head base bytes at ≡ Ok None
at_end base at bytes e = rw (eq-eqb at (length bytes) e) refl

-- the head of a box that begins at `at`
abbrev head_of_box : ℕ → Box → BoxHead
head_of_box at box = record { kind = box.kind; place = at; head = length box.header; len = length box.header + length box.body }

left_len : (base at : ℕ) (bytes : List ℕ) (box : Box) (others : List Box) (c : AreLeft base at bytes (box ∷ others)) → length bytes - at ≡ length box.header + (length box.body + length c.0)
left_len base at bytes box others c = omega (arith, length-drop at bytes, ap length c.2, length-append box.header (box.body ++ c.0), length-append box.body c.0)

-- a box at a place is what is found there
next-cut : (base at : ℕ) (bytes : List ℕ) (box : Box) (others : List Box) (c : AreLeft base at bytes (box ∷ others)) → next_head base bytes at ≡ Ok (Some (head_of_box at box))
next-cut base at bytes box others c =
    let long = IsHeader-long false box.kind (length box.body) c.0 box.header c.1 in
    let size = left_len base at bytes box others c in
    let more : at ≡ length bytes → ⊥ = λ q. omega arith in
    let read : head_at false (drop at bytes) ≡ Ok (record { kind = box.kind; head = length box.header; len = length box.header + length box.body }) =
    ap (head_at false) c.2 ∙ head_at-written false box.kind box.body c.0 box.header c.1 in
    rw (ne_eqb at (length bytes) more, read) refl

body_at : (at head len : ℕ) (bytes : List ℕ) → slice_range bytes (at + head) (at + (head + len)) ≡ drop head (take (head + len) (drop at bytes))
body_at at head len bytes = same_lists _ _ (search (rules, places)) (λ k d q. grind (arith, places))

box_of_text : (header body after : List ℕ) → take (length header + length body) (header ++ (body ++ after)) ≡ header ++ body
box_of_text header body after = same_lists _ _ (search (rules, places)) (λ k d q. grind (arith, places))

box_at : (at len : ℕ) (bytes : List ℕ) → slice_range bytes at (at + len) ≡ take len (drop at bytes)
box_at at len bytes = ap (λ (n : ℕ). take n (drop at bytes)) (omega arith)

header_at : (base at head : ℕ) (bytes : List ℕ) → slice_range bytes (base + at - base) (at + head) ≡ take head (drop at bytes)
header_at base at head bytes = ap (λ (n : ℕ). slice_range bytes n (at + head)) (omega arith) ∙ box_at at head bytes

head-of : (base at : ℕ) (bytes : List ℕ) (box : Box) (after : List ℕ) → drop at bytes ≡ box.header ++ (box.body ++ after) → box.place ≡ base + at → IsHeadOf base bytes (head_of_box at box) box
head-of base at bytes box after text place = record {
  kind = refl;
  span = record {
    place = sym place;
    from = omega (arith, place);
    to = omega (arith, place);
    header = header_at base at (length box.header) bytes ∙ (ap (take (length box.header)) text ∙ take-append_seam box.header (box.body ++ after));
    body = body_at at (length box.header) (length box.body) bytes
        ∙ (ap (λ (t : List ℕ). drop (length box.header) (take (length box.header + length box.body) t)) text ∙ body_of box.header box.body after);
  };
  whole = box_at at (length box.header + length box.body) bytes ∙ (ap (take (length box.header + length box.body)) text ∙ box_of_text box.header box.body after);
}

first-of : (base at : ℕ) (bytes : List ℕ) (box : Box) (others : List Box) → AreLeft base at bytes (box ∷ others) → IsFirstOf (λ boxes. boxes) base bytes (box ∷ others) (head_of_box at box)
first-of base at bytes box others c =
    let after : drop (at + (length box.header + length box.body)) bytes ≡ c.0 =
    sym (drop-drop (length box.header + length box.body) at bytes) ∙ ap (drop (length box.header + length box.body)) c.2 ∙ rest_of box.header box.body c.0 in
    record {
      first = box;
      others = others;
      both = refl;
      head = head-of base at bytes box c.0 c.2 c.3;
      cut = rw (after, ← add_assoc, ← add_assoc) (subst (λ (k : ℕ). IsCut false k c.0 others []) (omega arith) c.4);
    }

-- what is found at a place is the next of the boxes that are left
pub next_of : (base at : ℕ) (bytes : List ℕ) (r : Result (Option BoxHead) Bad) → at ≤ length bytes → next_head base bytes at ≡ r → (left : List Box) → AreLeft base at bytes left → IsNextOf base bytes left r
next_of base at bytes (Ok None) le e [] c = refl
next_of base at bytes (Ok None) le e (box ∷ others) c = absurd (not_none _ (sym (next-cut base at bytes box others c) ∙ e))
next_of base at bytes (Ok (Some b)) le e [] c = absurd (not_none b (sym e ∙ at_end base at bytes (omega (arith, length-drop at bytes, ap length c))))
next_of base at bytes (Ok (Some b)) le e (box ∷ others) c =
    subst (λ (v : BoxHead). IsFirstOf (λ boxes. boxes) base bytes (box ∷ others) v) (found_inj _ b (sym (next-cut base at bytes box others c) ∙ e)) (first-of base at bytes box others c)
next_of base at bytes (Err bad) le e [] c = absurd (not_err None bad (sym (at_end base at bytes (omega (arith, length-drop at bytes, ap length c))) ∙ e))
next_of base at bytes (Err bad) le e (box ∷ others) c = absurd (not_err _ bad (sym (next-cut base at bytes box others c) ∙ e))
