-- The last place of a mark, found from the end of the text on.
use Rattle.std.proofs.Common.{◌≡◌, ℕ, ◌+◌, ◌<◌, List, [], ◌∷◌, ◌++◌, take, drop, length, get_or, true, false, nat_eq, Some, None, refl, ap, sym, ◌∙◌, arith}
use Rattle.std.specs.List.{starts_with}
use Rattle.std.proofs.lemmas.List.{take-append-drop, drop_more, length-take-le}
use Rattle.mp_words.specs.Marks.{last_place}

-- in a text behind more text
behind : (mark front text : List ℕ) (at : ℕ) → last_place mark text ≡ Some at → last_place mark (front ++ text) ≡ Some (length front + at)
behind mark [] text at e = e ∙ ap Some (omega arith)
behind mark (c ∷ front) text at e = rw (behind mark front text at e) (ap Some (omega arith))

first : (mark : List ℕ) (c : ℕ) (text : List ℕ) → last_place mark text ≡ None → starts_with nat_eq (c ∷ text) mark ≡ true → last_place mark (c ∷ text) ≡ Some 0
first mark c text none here = rw (none, here) refl

nowhere : (mark : List ℕ) (c : ℕ) (text : List ℕ) → last_place mark text ≡ None → starts_with nat_eq (c ∷ text) mark ≡ false → last_place mark (c ∷ text) ≡ None
nowhere mark c text none here = rw (none, here) refl

-- it stands here, and nowhere behind
pub found_here : (mark text : List ℕ) (at : ℕ) → at < length text → last_place mark (drop (at + 1) text) ≡ None → starts_with nat_eq (drop at text) mark ≡ true → last_place mark text ≡ Some at
found_here mark text at inside behind_it here =
    let e : drop at text ≡ get_or text at 0 ∷ drop (at + 1) text = drop_more text at 0 inside in
    let begins : last_place mark (drop at text) ≡ Some 0 = rw e (first mark _ _ behind_it (rw e at here)) in
    ap (last_place mark) (sym (take-append-drop at text)) ∙ behind mark (take at text) (drop at text) 0 begins ∙ ap Some (omega (arith, length-take-le at text (omega arith)))

-- it stands neither here nor behind
pub found_nowhere : (mark text : List ℕ) (at : ℕ) → at < length text → last_place mark (drop (at + 1) text) ≡ None → starts_with nat_eq (drop at text) mark ≡ false → last_place mark (drop at text) ≡ None
found_nowhere mark text at inside behind_it here =
    let e : drop at text ≡ get_or text at 0 ∷ drop (at + 1) text = drop_more text at 0 inside in
    rw e (nowhere mark _ _ behind_it (rw e at here))
