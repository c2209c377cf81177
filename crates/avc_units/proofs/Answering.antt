-- From the first byte and the end of a unit to the answer.
use Rattle.std.proofs.Common.{◌≡◌, ℕ, zero, suc, ◌+◌, ◌-◌, ◌<◌, ◌≤◌, add-one, drop-cons, get_or, refl, inl, inr, List, [], ◌∷◌, ◌++◌, length, take, drop, Option, Some, None, IfSome, Result, Ok, Err, sym, ap, subst, ◌∙◌, arith}
use Rattle.mp_ports.specs.Checks.{bad_at}
use Rattle.mp_ports.specs.declared.code.Code.TheVariants.{UnitFraming, UnitLimit}
use Rattle.avc_units.specs.declared.reader.UnitSpan.{UnitSpan}
use Rattle.avc_units.specs.declared.reader.UnitFail.{UnitFail}
use Rattle.avc_units.specs.declared.reader.UnitFail.TheVariants.{Bad as Refused, ReadFault}
use Rattle.avc_units.specs.declared.piece.First.{First}
use Rattle.avc_units.specs.Units.{Placed, HasUnits}
use Rattle.avc_units.specs.Reader.{IsNextUnit}
use Rattle.avc_units.specs.Reading.{zeros_of}
use Rattle.avc_units.specs.Scan.{unit_len, left_of, found, step, HoldsUnit, IsFirst, Gives}
use Rattle.avc_units.specs.Scan.Step.{OneUnit}
use Rattle.std.proofs.lemmas.List.{length-drop}
use Rattle.avc_units.proofs.Passing.{drop_more, zeros_some, front_of}
use Rattle.avc_units.proofs.Cutting.{start-is, found-some, step-is, next-bytes, has-more, none-zeros}
use Rattle.avc_units.proofs.Faults.{fault-is, fault-first}

-- what a start code leads to
step_at : (b : List ℕ) (at : ℕ) (first : First) → IsFirst b at (Some first) → first.byte ≡ 1 → 2 ≤ first.place - at
    → step (drop at b) ≡ found (first.place - at + 1) (unit_len (drop (first.place + 1) b))
step_at b at first is one two =
    let z = zeros_of (drop at b) in
    let p_is : first.place ≡ at + z = is.0 in
    let here : drop z (drop at b) ≡ 1 ∷ drop (first.place + 1) b = drop_more at z b ∙ ap (λ (k : ℕ). drop k b) (sym p_is) ∙ is.1 ∙ ap (λ (k : ℕ). k ∷ drop (first.place + 1) b) one in
    rw (here, start-is z (first.place - at - 2) (drop (first.place + 1) b) (omega arith)) (ap (λ (k : ℕ). found k (unit_len (drop (first.place + 1) b))) (omega arith))

pub gives_empty : (bytes : Option (List ℕ)) (at end : ℕ) (first : First) → IfSome bytes (λ b. IsFirst b at (Some first)) → at ≤ first.place → first.byte ≡ 1 → 2 ≤ first.place - at
    → IfSome bytes (λ b. end ≡ first.place + 1 + unit_len (drop (first.place + 1) b)) → end ≡ first.place + 1 → IfSome bytes (λ b. Gives b at (Err (Refused (bad_at UnitFraming (first.place + 1)))))
gives_empty None at end first is le one two e none = tt
gives_empty (Some b) at end first is le one two e none =
    let n : unit_len (drop (first.place + 1) b) ≡ 0 = omega arith in
    inl (first.place - at + 1, step_at b at first is one two ∙ ap (found (first.place - at + 1)) n, ap (bad_at UnitFraming) (omega arith))

one_at : (b : List ℕ) (at end : ℕ) (first : First) → IsFirst b at (Some first) → first.byte ≡ 1 → 2 ≤ first.place - at → end ≡ first.place + 1 + unit_len (drop (first.place + 1) b) → first.place + 1 < end
    → step (drop at b) ≡ OneUnit (first.place - at + 1) (end - (first.place + 1))
one_at b at end first is one two e some =
    let n : unit_len (drop (first.place + 1) b) ≡ end - (first.place + 1) = omega arith in
    step_at b at first is one two ∙ ap (found (first.place - at + 1)) n ∙ found-some (first.place - at + 1) (end - (first.place + 1)) (omega arith)

pub gives_long : (bytes : Option (List ℕ)) (at end : ℕ) (first : First) → IfSome bytes (λ b. IsFirst b at (Some first)) → at ≤ first.place → first.byte ≡ 1 → 2 ≤ first.place - at
    → IfSome bytes (λ b. end ≡ first.place + 1 + unit_len (drop (first.place + 1) b)) → 16777216 < end - (first.place + 1) → IfSome bytes (λ b. Gives b at (Err (Refused (bad_at UnitLimit (first.place + 1)))))
gives_long None at end first is le one two e long = tt
gives_long (Some b) at end first is le one two e long =
    inr (first.place - at + 1, end - (first.place + 1), one_at b at end first is one two e (omega arith), long, ap (bad_at UnitLimit) (omega arith))

pub gives_unit : (bytes : Option (List ℕ)) (at end : ℕ) (first : First) → IfSome bytes (λ b. IsFirst b at (Some first)) → at ≤ first.place → first.byte ≡ 1 → 2 ≤ first.place - at
    → IfSome bytes (λ b. end ≡ first.place + 1 + unit_len (drop (first.place + 1) b)) → first.place + 1 < end → IfSome bytes (λ b. Gives b at (Ok (Some (record { from = first.place + 1; len = end - (first.place + 1) }))))
gives_unit None at end first is le one two e some = tt
gives_unit (Some b) at end first is le one two e some = (first.place - at + 1, one_at b at end first is one two e some, omega arith)

-- another byte than a start code's is a fault
pub gives_fault : (bytes : Option (List ℕ)) (at : ℕ) (first : First) → IfSome bytes (λ b. IsFirst b at (Some first)) → at ≤ first.place → (first.byte ≡ 1 → first.place - at < 2)
    → IfSome bytes (λ b. Gives b at (Err (Refused (bad_at UnitFraming first.place))))
gives_fault None at first is le other = tt
gives_fault (Some b) at first is le other =
    let z = zeros_of (drop at b) in
    let here : drop z (drop at b) ≡ first.byte ∷ drop (first.place + 1) b = drop_more at z b ∙ ap (λ (k : ℕ). drop k b) (sym is.0) ∙ is.1 in
    let two : first.byte ≡ 1 → z < 2 = λ e. let h = other e in let p = is.0 in omega arith in
    inl (z, fault-first (drop at b) first.byte (drop (first.place + 1) b) here two, ap (bad_at UnitFraming) is.0)

stands_so : (b : List ℕ) (at : ℕ) (us : List Placed) (r : Result (Option UnitSpan) UnitFail) → Gives b at r → HasUnits b us at → IsNextUnit b us at r
stands_so b at us (Err ReadFault) g h = tt
stands_so b at us (Err (Refused bad)) (inl g) h = inl (g.0, fault-is (drop at b) g.0 g.1, g.2)
stands_so b at us (Err (Refused bad)) (inr g) h =
    let n = step-is (drop at b) g.0 g.1 g.2 in
    let e : at + g.0 + g.1 ≡ at + g.0 + length n.bytes = ap (λ (k : ℕ). at + g.0 + k) (sym n.len_is) in
    let long : 16777216 < length n.bytes = rw n.len_is g.3 in
    inr (record { from = at + g.0; bytes = n.bytes }, subst (λ (k : ℕ). HasUnits b (us ++ (record { from = at + g.0; bytes = n.bytes }) ∷ []) k) e (has-more b 0 at g.0 g.1 us n h), long, g.4)
stands_so b at us (Ok None) g h = (at, h, none-zeros (drop at b) g)
stands_so b at us (Ok (Some s)) g h =
    let n = step-is (drop at b) g.0 s.len g.1 in
    let bytes : n.bytes ≡ take s.len (drop s.from b) = next-bytes b at g.0 s.len n ∙ ap (λ (f : ℕ). take s.len (drop f b)) (sym g.2) in
    let more : HasUnits b (us ++ (record { from = s.from; bytes = n.bytes }) ∷ []) (s.from + s.len) = subst (λ (f : ℕ). HasUnits b (us ++ (record { from = f; bytes = n.bytes }) ∷ []) (f + s.len)) (sym g.2) (has-more b 0 at g.0 s.len us n h) in
    subst (λ (x : List ℕ). HasUnits b (us ++ (record { from = s.from; bytes = x }) ∷ []) (s.from + s.len)) bytes more

pub stands_told : (bytes : Option (List ℕ)) (at : ℕ) (r : Result (Option UnitSpan) UnitFail) → IfSome bytes (λ b. Gives b at r) → IfSome bytes (λ b. (us : List Placed) → HasUnits b us at → IsNextUnit b us at r)
stands_told None at r g = tt
stands_told (Some b) at r g = λ us h. stands_so b at us r g h

-- ---- a unit that stands in what was read

drop_front : (xs rest : List ℕ) (n : ℕ) → n ≤ length xs → drop n (xs ++ rest) ≡ drop n xs ++ rest
drop_front xs rest zero h = refl
drop_front [] rest (suc n) h = absurd (omega arith)
drop_front (x ∷ xs) rest (suc n) h = drop_front xs rest n (omega arith)

step_in : (piece rest : List ℕ) (z used : ℕ) → z ≡ zeros_of piece → z < length piece → get_or piece z 0 ≡ 1 → 2 ≤ z → 2 < used
    → ((more : List ℕ) → left_of 0 (drop (z + 1) piece ++ more) + 2 ≡ 0 + used) → step (piece ++ rest) ≡ OneUnit (z + 1) (used - 2)
step_in piece rest z used is low byte two some ended =
    let zeros : zeros_of (piece ++ rest) ≡ z = zeros_some piece rest (omega arith) ∙ sym is in
    let tail = drop (z + 1) piece ++ rest in
    let one : drop z piece ≡ 1 ∷ drop (z + 1) piece = rw (add-one, drop-cons piece z 0, byte) refl in
    let here : drop z (piece ++ rest) ≡ 1 ∷ tail = drop_front piece rest z (omega arith) ∙ ap (λ (t : List ℕ). t ++ rest) one in
    let len : unit_len tail ≡ used - 2 = let e = ended rest in omega arith in
    let from : z - 2 + 3 ≡ z + 1 = omega arith in
    rw (zeros, here)
    (start-is z (z - 2) tail (omega arith) ∙ ap (λ (k : ℕ). found k (unit_len tail)) from ∙ ap (found (z + 1)) len ∙ found-some (z + 1) (used - 2) (omega arith))

pub holds_unit : (piece : List ℕ) (z used : ℕ) → z ≡ zeros_of piece → z < length piece → get_or piece z 0 ≡ 1 → 2 ≤ z → 2 < used → used < length (drop (z + 1) piece)
    → ((more : List ℕ) → left_of 0 (drop (z + 1) piece ++ more) + 2 ≡ 0 + used) → HoldsUnit piece (z + 1) (used - 2)
holds_unit piece z used is low byte two some within ended = record {
  code = omega arith;
  some = omega arith;
  within = omega (arith, length-drop (z + 1) piece);
  next = λ rest. step_in piece rest z used is low byte two some ended;
}

pub gives_held : (bytes : Option (List ℕ)) (end n from len : ℕ) (piece : List ℕ) → IfSome bytes (λ b. piece ≡ take n (drop end b)) → HoldsUnit piece from len
    → IfSome bytes (λ b. Gives b end (Ok (Some (record { from = end + from; len = len }))))
gives_held None end n from len piece holds u = tt
gives_held (Some b) end n from len piece holds u = (from, ap step (sym (front_of b end n piece holds)) ∙ u.next (drop (end + n) b), refl)
