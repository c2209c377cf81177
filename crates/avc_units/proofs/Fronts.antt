-- What the front of some bits says, all of them say, but for a syntax that fails.
use Rattle.std.proofs.Common.{◌≡◌, ◌≢◌, ℕ, zero, suc, ◌+◌, ◌<◌, ◌≤◌, inl, inr, List, [], ◌∷◌, ◌++◌, length, take, drop, Some, Result, Ok, Err, refl, sym, ap, ◌∙◌, arith}
use Rattle.std.proofs.lemmas.List.{take-append-le, drop-append-le, length-append, length-drop}
use Rattle.std.proofs.lemmas.Bool.{le-ltb}
use Rattle.avc_units.specs.declared.elements.ElementFail.{ElementFail}
use Rattle.avc_units.specs.declared.elements.ElementFail.TheVariants.{Syntax}
use Rattle.avc_units.specs.Bits.{number, Kind}
use Rattle.avc_units.specs.Reading.{read, zeros_of}
use Rattle.avc_units.specs.Bits.Kind.{U, Ue}
use Rattle.avc_units.specs.Table.{Table, walk}
use Rattle.avc_units.specs.Table.Table.{Done, Fail, Element}
use Rattle.avc_units.proofs.Numbers.{read_all, read_is, code_is, further}
use Rattle.avc_units.proofs.Writing.{cases}

zeros_more : (bits more : List ℕ) → zeros_of bits < length bits → zeros_of (bits ++ more) ≡ zeros_of bits
zeros_more [] more h = absurd (omega arith)
zeros_more (zero ∷ xs) more h = ap suc (zeros_more xs more (omega arith))
zeros_more (suc x ∷ xs) more h = refl

read_number_more : (n v : ℕ) (bits rest more : List ℕ) → read (U n) bits ≡ Some (v, rest) → read (U n) (bits ++ more) ≡ Some (v, rest ++ more)
read_number_more n v bits rest more e =
    let r = read_is n v bits rest e in
    read_all n n v (bits ++ more) (rest ++ more) refl (omega (arith, r.long, length-append bits more)) (r.value ∙ ap number (sym (take-append-le n bits more r.long))) (drop-append-le n bits more r.long ∙ ap (λ (t : List ℕ). t ++ more) (sym r.rest_is))

read_code_more : (v : ℕ) (bits rest more : List ℕ) → read Ue bits ≡ Some (v, rest) → read Ue (bits ++ more) ≡ Some (v, rest ++ more)
unfolding read
read_code_more v bits rest more e =
    let r = code_is v bits rest e in
    let z = zeros_of bits in
    let zs : zeros_of (bits ++ more) ≡ z = zeros_more bits more (omega (arith, r.long)) in
    let long : z + 1 + z ≤ length (bits ++ more) = omega (arith, r.long, length-append bits more) in
    let tail : drop (z + 1) (bits ++ more) ≡ drop (z + 1) bits ++ more = drop-append-le (z + 1) bits more (omega (arith, r.long)) in
    let front : take z (drop (z + 1) bits ++ more) ≡ take z (drop (z + 1) bits) = take-append-le z (drop (z + 1) bits) more (omega (arith, r.long, length-drop (z + 1) bits)) in
    let rest_is : drop (z + 1 + z) (bits ++ more) ≡ rest ++ more = drop-append-le (z + 1 + z) bits more r.long ∙ ap (λ (t : List ℕ). t ++ more) (sym (further (z + 1) z bits) ∙ sym r.rest_is) in
    rw (zs, le-ltb 31 z r.few, le-ltb (length (bits ++ more)) (z + 1 + z) long, tail, front, rest_is, ← r.value) refl

read_more : (kind : Kind) (v : ℕ) (bits rest more : List ℕ) → read kind bits ≡ Some (v, rest) → read kind (bits ++ more) ≡ Some (v, rest ++ more)
read_more (U n) v bits rest more e = read_number_more n v bits rest more e
read_more Ue v bits rest more e = read_code_more v bits rest more e

abbrev longer : {A : Type 0} → List ℕ → Result (A × List ℕ) ElementFail → Result (A × List ℕ) ElementFail
longer more (Ok p) = Ok (p.0, p.1 ++ more)
longer more (Err fail) = Err fail

pub walk_more : {A : Type 0} (t : Table A) (bits rest more : List ℕ) (x : A) → walk t bits ≡ Ok (x, rest) → walk t (bits ++ more) ≡ Ok (x, rest ++ more)
unfolding walk
walk_more {A = A} (Done y) bits rest more x e = done e
  where
    done : let f : Result (A × List ℕ) ElementFail = Ok (y, bits) in f ≡ Ok (x, rest) → let g : Result (A × List ℕ) ElementFail = Ok (y, bits ++ more) in g ≡ Ok (x, rest ++ more)
    done h = ap (longer more) h
walk_more {A = A} (Fail f) bits rest more x e = absurd cc
walk_more {A = A} (Element kind next) bits rest more x e = elim (cases (read kind bits)) [
  | inl n ↦ absurd (none (rw n at e))
  | inr p ↦ rw (read_more kind p.0.0 bits p.0.1 more p.1) (walk_more (next p.0.0) p.0.1 rest more x (rw p.1 at e))
]
  where
    none : let f : Result (A × List ℕ) ElementFail = Err Syntax in f ≡ Ok (x, rest) → ⊥
    none h = absurd cc

pub walk_fail_more : {A : Type 0} (t : Table A) (bits more : List ℕ) (fail : ElementFail) → fail ≢ Syntax → walk t bits ≡ Err fail → walk t (bits ++ more) ≡ Err fail
unfolding walk
walk_fail_more {A = A} (Done y) bits more fail ne e = absurd cc
walk_fail_more {A = A} (Fail c) bits more fail ne e = e
walk_fail_more {A = A} (Element kind next) bits more fail ne e = elim (cases (read kind bits)) [
  | inl n ↦ absurd (ne (none (rw n at e)))
  | inr p ↦ rw (read_more kind p.0.0 bits p.0.1 more p.1) (walk_fail_more (next p.0.0) p.0.1 more fail ne (rw p.1 at e))
]
  where
    none : let f : Result (A × List ℕ) ElementFail = Err Syntax in f ≡ Err fail → fail ≡ Syntax
    none h = cc
