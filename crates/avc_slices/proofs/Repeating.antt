-- What is repeated, one round after another: changes of a list, marking operations, weights.
use Rattle.std.proofs.Common.{◌≡◌, ℕ, zero, suc, ◌+◌, ◌-◌, ◌<◌, ◌≤◌, Bool, List, length, Ok, Err, refl, ◌∙◌, ap, arith}
use Rattle.std.proofs.lemmas.Bool.{ne_eqb}
use Rattle.avc_units.specs.declared.elements.ElementFail.{ElementFail}
use Rattle.avc_units.specs.Elements.{ue, ue_upto}
use Rattle.avc_units.specs.Law.{AreReadInTurn}
use Rattle.avc_units.specs.Table.{walk}
use Rattle.avc_slices.specs.References.{changes}
use Rattle.avc_slices.specs.Marking.{operands, operations}
use Rattle.avc_slices.specs.Weights.{luma_weight, chroma_weights, weights}

-- ---- changes of a list

pub change_more : AreReadInTurn ℕ (Unit {0}) → (m op v : ℕ) (b b1 b2 : List ℕ) → length b1 < length b → length b2 < length b1 → length b < m → walk (ue_upto 3) b ≡ Ok (op, b1) → (op ≡ 3 → ⊥) → walk ue b1 ≡ Ok (v, b2)
    → (k : ℕ) × (length b2 < k) × (walk (changes m) b ≡ walk (changes k) b2)
unfolding changes
change_more law zero op v b b1 b2 s1 s2 le e n f = absurd (omega arith)
change_more law (suc k) op v b b1 b2 s1 s2 le e n f = (k, omega arith, law (ue_upto 3) _ b ∙ rw (e, ne_eqb op 3 n) (law ue _ b1 ∙ rw f refl))

pub change_last : AreReadInTurn ℕ (Unit {0}) → (m op : ℕ) (b b1 : List ℕ) → length b < m → walk (ue_upto 3) b ≡ Ok (op, b1) → op ≡ 3 → walk (changes m) b ≡ Ok (tt, b1)
unfolding changes walk
change_last law zero op b b1 le e n = absurd (omega arith)
change_last law (suc k) op b b1 le e n = law (ue_upto 3) _ b ∙ rw (e, n) refl

pub change_cut : AreReadInTurn ℕ (Unit {0}) → (m : ℕ) (fail : ElementFail) (b : List ℕ) → length b < m → walk (ue_upto 3) b ≡ Err fail → walk (changes m) b ≡ Err fail
unfolding changes
change_cut law zero fail b le e = absurd (omega arith)
change_cut law (suc k) fail b le e = law (ue_upto 3) _ b ∙ rw e refl

pub change_half : AreReadInTurn ℕ (Unit {0}) → (m op : ℕ) (fail : ElementFail) (b b1 : List ℕ) → length b < m → walk (ue_upto 3) b ≡ Ok (op, b1) → (op ≡ 3 → ⊥) → walk ue b1 ≡ Err fail → walk (changes m) b ≡ Err fail
unfolding changes
change_half law zero op fail b b1 le e n f = absurd (omega arith)
change_half law (suc k) op fail b b1 le e n f = law (ue_upto 3) _ b ∙ rw (e, ne_eqb op 3 n) (law ue _ b1 ∙ rw f refl)

-- ---- marking operations

pub operation_more : AreReadInTurn ℕ (Unit {0}) → AreReadInTurn (Unit {0}) (Unit {0}) → (m op : ℕ) (b b1 b2 : List ℕ) → length b1 < length b → length b2 ≤ length b1 → length b < m → walk (ue_upto 6) b ≡ Ok (op, b1) → (op ≡ 0 → ⊥) → walk (operands op) b1 ≡ Ok (tt, b2)
    → (k : ℕ) × (length b2 < k) × (walk (operations m) b ≡ walk (operations k) b2)
unfolding operations
operation_more law passed zero op b b1 b2 s1 s2 le e n f = absurd (omega arith)
operation_more law passed (suc k) op b b1 b2 s1 s2 le e n f = (k, omega arith, law (ue_upto 6) _ b ∙ rw (e, ne_eqb op 0 n) (passed (operands op) _ b1 ∙ rw f refl))

pub operation_last : AreReadInTurn ℕ (Unit {0}) → (m op : ℕ) (b b1 : List ℕ) → length b < m → walk (ue_upto 6) b ≡ Ok (op, b1) → op ≡ 0 → walk (operations m) b ≡ Ok (tt, b1)
unfolding operations walk
operation_last law zero op b b1 le e n = absurd (omega arith)
operation_last law (suc k) op b b1 le e n = law (ue_upto 6) _ b ∙ rw (e, n) refl

pub operation_cut : AreReadInTurn ℕ (Unit {0}) → (m : ℕ) (fail : ElementFail) (b : List ℕ) → length b < m → walk (ue_upto 6) b ≡ Err fail → walk (operations m) b ≡ Err fail
unfolding operations
operation_cut law zero fail b le e = absurd (omega arith)
operation_cut law (suc k) fail b le e = law (ue_upto 6) _ b ∙ rw e refl

pub operation_half : AreReadInTurn ℕ (Unit {0}) → AreReadInTurn (Unit {0}) (Unit {0}) → (m op : ℕ) (fail : ElementFail) (b b1 : List ℕ) → length b < m → walk (ue_upto 6) b ≡ Ok (op, b1) → (op ≡ 0 → ⊥) → walk (operands op) b1 ≡ Err fail → walk (operations m) b ≡ Err fail
unfolding operations
operation_half law passed zero op fail b b1 le e n f = absurd (omega arith)
operation_half law passed (suc k) op fail b b1 le e n f = law (ue_upto 6) _ b ∙ rw (e, ne_eqb op 0 n) (passed (operands op) _ b1 ∙ rw f refl)

-- ---- weights

weight-passed : AreReadInTurn (Unit {0}) (Unit {0}) → (chroma : Bool) (left : ℕ) (b b1 b2 : List ℕ) → walk luma_weight b ≡ Ok (tt, b1) → walk (chroma_weights chroma) b1 ≡ Ok (tt, b2)
    → walk (weights chroma (suc left)) b ≡ walk (weights chroma left) b2
unfolding weights
weight-passed law chroma left b b1 b2 e f = law luma_weight _ b ∙ rw e (law (chroma_weights chroma) _ b1 ∙ rw f refl)

pub next_weight : AreReadInTurn (Unit {0}) (Unit {0}) → (chroma : Bool) (count i : ℕ) (b b1 b2 : List ℕ) → i < count → walk luma_weight b ≡ Ok (tt, b1) → walk (chroma_weights chroma) b1 ≡ Ok (tt, b2)
    → walk (weights chroma (count - i)) b ≡ walk (weights chroma (count - (i + 1))) b2
next_weight law chroma count i b b1 b2 inside e f =
    let more : count - i ≡ suc (count - (i + 1)) = omega arith in
    ap (λ (left : ℕ). walk (weights chroma left) b) more ∙ weight-passed law chroma (count - (i + 1)) b b1 b2 e f

luma-refused : AreReadInTurn (Unit {0}) (Unit {0}) → (chroma : Bool) (left : ℕ) (b : List ℕ) (fail : ElementFail) → 0 < left → walk luma_weight b ≡ Err fail → walk (weights chroma left) b ≡ Err fail
unfolding weights
luma-refused law chroma zero b fail some e = absurd (omega arith)
luma-refused law chroma (suc left) b fail some e = law luma_weight _ b ∙ rw e refl

pub refused_luma : AreReadInTurn (Unit {0}) (Unit {0}) → (chroma : Bool) (count i : ℕ) (b : List ℕ) (fail : ElementFail) → i < count → walk luma_weight b ≡ Err fail → walk (weights chroma (count - i)) b ≡ Err fail
refused_luma law chroma count i b fail inside e = luma-refused law chroma (count - i) b fail (omega arith) e

chroma-refused : AreReadInTurn (Unit {0}) (Unit {0}) → (chroma : Bool) (left : ℕ) (b b1 : List ℕ) (fail : ElementFail) → 0 < left → walk luma_weight b ≡ Ok (tt, b1) → walk (chroma_weights chroma) b1 ≡ Err fail → walk (weights chroma left) b ≡ Err fail
unfolding weights
chroma-refused law chroma zero b b1 fail some e f = absurd (omega arith)
chroma-refused law chroma (suc left) b b1 fail some e f = law luma_weight _ b ∙ rw e (law (chroma_weights chroma) _ b1 ∙ rw f refl)

pub refused_chroma : AreReadInTurn (Unit {0}) (Unit {0}) → (chroma : Bool) (count i : ℕ) (b b1 : List ℕ) (fail : ElementFail) → i < count → walk luma_weight b ≡ Ok (tt, b1) → walk (chroma_weights chroma) b1 ≡ Err fail → walk (weights chroma (count - i)) b ≡ Err fail
refused_chroma law chroma count i b b1 fail inside e f = chroma-refused law chroma (count - i) b b1 fail (omega arith) e f

pub no_weight : (chroma : Bool) (count i : ℕ) (b : List ℕ) → count ≤ i → walk (weights chroma (count - i)) b ≡ Ok (tt {0}, b)
unfolding weights walk
no_weight chroma count i b end =
    let none : count - i ≡ 0 = omega arith in
    ap (λ (left : ℕ). walk (weights chroma left) b) none
