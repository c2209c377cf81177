-- Scaling lists that are passed entry by entry, and list by list.
use Rattle.std.proofs.Common.{◌≡◌, ℕ, zero, suc, ◌+◌, ◌-◌, ◌<◌, ◌≤◌, List, [], ◌∷◌, Ok, Err, refl, ◌∙◌, ap, arith}
use Rattle.avc_units.specs.declared.elements.ElementFail.{ElementFail}
use Rattle.avc_units.specs.Table.{walk}
use Rattle.avc_units.specs.Law.{AreReadInTurn}
use Rattle.avc_sets.specs.declared.format.Scales.{Scales}
use Rattle.avc_sets.specs.Format.{scale, scales_of, scaling_list, scaling_lists}

-- an entry that is refused ends the list
scale-refused : AreReadInTurn Scales (Unit {0}) → (left : ℕ) (s : Scales) (bits : List ℕ) (fail : ElementFail) → 0 < left → walk (scale s) bits ≡ Err fail
    → walk (scales_of left s) bits ≡ Err fail
unfolding scales_of
scale-refused law zero s bits fail some found = absurd (omega arith)
scale-refused law (suc left) s bits fail some found = law (scale s) (scales_of left) bits ∙ rw found refl

-- behind an entry comes the rest of the list
scale-passed : AreReadInTurn Scales (Unit {0}) → (left : ℕ) (s next : Scales) (bits rest : List ℕ) → walk (scale s) bits ≡ Ok (next, rest)
    → walk (scales_of (suc left) s) bits ≡ walk (scales_of left next) rest
unfolding scales_of
scale-passed law left s next bits rest found = law (scale s) (scales_of left) bits ∙ rw found refl

-- the same by how many entries were passed
pub next_scale : AreReadInTurn Scales (Unit {0}) → (entries entry : ℕ) (s next : Scales) (bits rest : List ℕ) → entry < entries → walk (scale s) bits ≡ Ok (next, rest)
    → walk (scales_of (entries - entry) s) bits ≡ walk (scales_of (entries - (entry + 1)) next) rest
next_scale law entries entry s next bits rest inside found =
    let more : entries - entry ≡ suc (entries - (entry + 1)) = omega arith in
    ap (λ (left : ℕ). walk (scales_of left s) bits) more ∙ scale-passed law (entries - (entry + 1)) s next bits rest found

pub refused_scale : AreReadInTurn Scales (Unit {0}) → (entries entry : ℕ) (s : Scales) (bits : List ℕ) (fail : ElementFail) → entry < entries → walk (scale s) bits ≡ Err fail
    → walk (scales_of (entries - entry) s) bits ≡ Err fail
refused_scale law entries entry s bits fail inside found = scale-refused law (entries - entry) s bits fail (omega arith) found

-- no entry is left
pub no_scale : (entries entry : ℕ) (s : Scales) (bits : List ℕ) → entries ≤ entry → walk (scales_of (entries - entry) s) bits ≡ Ok (tt {0}, bits)
unfolding scales_of walk
no_scale entries entry s bits end =
    let none : entries - entry ≡ 0 = omega arith in
    ap (λ (left : ℕ). walk (scales_of left s) bits) none

-- a list that is refused ends the lists
pub refused_list : AreReadInTurn (Unit {0}) (Unit {0}) → (entries : ℕ) (others bits : List ℕ) (fail : ElementFail) → walk (scaling_list entries) bits ≡ Err fail
    → walk (scaling_lists (entries ∷ others)) bits ≡ Err fail
unfolding scaling_lists
refused_list law entries others bits fail found = law (scaling_list entries) (λ _. scaling_lists others) bits ∙ rw found refl

-- behind a list come the others
pub next_list : AreReadInTurn (Unit {0}) (Unit {0}) → (entries : ℕ) (others bits rest : List ℕ) → walk (scaling_list entries) bits ≡ Ok (tt {0}, rest)
    → walk (scaling_lists (entries ∷ others)) bits ≡ walk (scaling_lists others) rest
unfolding scaling_lists
next_list law entries others bits rest found = law (scaling_list entries) (λ _. scaling_lists others) bits ∙ rw found refl

-- no list is left
pub no_list : (bits : List ℕ) → walk (scaling_lists []) bits ≡ Ok (tt {0}, bits)
unfolding scaling_lists walk
no_list bits = refl
