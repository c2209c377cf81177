-- The first 24 bytes tell the head.
use Rattle.std.proofs.Common.{◌≡◌, ℕ, ◌+◌, ◌-◌, ◌≤◌, Bool, false, Result, Ok, Some, List, length, take, drop, min, refl, sym, ap, ◌∙◌, arith, inl, inr}
use Rattle.std.proofs.lemmas.Bool.{cases_lt, ne_eqb}
use Rattle.std.proofs.lemmas.List.{take_all, length-drop}
use Rattle.mp_ports.specs.declared.code.Code.{Code}
use Rattle.mp_ports.specs.Checks.{◌>>=◌, placed}
use Rattle.mp_boxes.specs.declared.head.TopHead.{TopHead}
use Rattle.mp_boxes.proofs.NumbersAreRead.{in_front, u32_at-same, kind_at-same, u64_at-same}
use Rattle.mp_boxes.specs.Head.{head_from, head_at, box_head, next_head}

pub head_from-take : (top : Bool) (n : ℕ) (xs : List ℕ) → n ≡ min (length xs) 24 → head_from top (take n xs) (length xs) ≡ head_at top xs
head_from-take top n xs e = elim (cases_lt (length xs) 24) [
  | inl lt ↦ ap (λ (t : List ℕ). head_from top t (length xs)) (take_all n xs (omega arith))
  | inr le ↦ rw (u32_at-same _ _ 0 0 (in_front 4 n xs 0 (omega arith)), kind_at-same _ _ 4 4 (in_front 4 n xs 4 (omega arith)), u64_at-same _ _ 8 8 (in_front 8 n xs 8 (omega arith))) refl
]

-- the head at a place is told by the first bytes of what is left
pub head_from-front : (at few : ℕ) (bytes : List ℕ) (read : Result TopHead Code) → at ≤ length bytes → few ≡ min (length bytes - at) 24 → read ≡ head_from false (take ((at + few) - at) (drop at bytes)) (length bytes - at)
    → read ≡ head_at false (drop at bytes)
head_from-front at few bytes read le f e =
    let n : (at + few) - at ≡ min (length (drop at bytes)) 24 = omega (arith, length-drop at bytes) in
    e ∙ (ap (head_from false (take ((at + few) - at) (drop at bytes))) (sym (length-drop at bytes)) ∙ head_from-take false ((at + few) - at) (drop at bytes) n)

-- so is the next box
pub next_head-front : (base at few : ℕ) (bytes : List ℕ) (read : Result TopHead Code) → at ≤ length bytes → (at ≡ length bytes → ⊥) → few ≡ min (length bytes - at) 24
    → read ≡ head_from false (take ((at + few) - at) (drop at bytes)) (length bytes - at) → next_head base bytes at ≡ (placed (base + at) read >>= λ head. Ok (Some (box_head at head)))
next_head-front base at few bytes read le more f e = rw (ne_eqb at (length bytes) more, ← head_from-front at few bytes read le f e) refl
