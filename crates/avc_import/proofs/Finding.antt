-- The unit of a set, found one set after another.
use Rattle.std.proofs.Common.{◌≡◌, ◌≢◌, ◌<◌, ◌+◌, ℕ, zero, suc, List, [], ◌∷◌, length, drop, refl, arith, ne_eqb}
use Rattle.std.specs.Prelude.{get_or}
use Rattle.avc_sets.specs.Set.{PictureSet}
use Rattle.avc_import.specs.Sets.{unit_of}

pub passed_on : (number at : ℕ) (pictures : List PictureSet) (units : List (List ℕ)) (d : PictureSet) → length pictures ≡ length units → at < length pictures
    → (get_or pictures at d).number ≢ number → unit_of number (drop at pictures) (drop at units) ≡ unit_of number (drop (at + 1) pictures) (drop (at + 1) units)
passed_on number at [] units d same inside other = absurd (omega arith)
passed_on number at (p ∷ ps) [] d same inside other = absurd (omega arith)
passed_on number zero (p ∷ ps) (u ∷ us) d same inside other = rw (ne_eqb p.number number other) refl
passed_on number (suc at) (p ∷ ps) (u ∷ us) d same inside other =
    let next : suc at + 1 ≡ suc (at + 1) = omega arith in
    rw next (passed_on number at ps us d (omega arith) (omega arith) other)
