-- What calls of a cursor over bits answer.
use Rattle.std.specs.Prelude.{◌≡◌, ℕ, ◌<◌, List, [], ◌∷◌, Option, Some, None, Result, Ok, Err}
use Rattle.avc_units.specs.declared.elements.ElementFail.{ElementFail}

-- the first bit, which is passed
abbrev pub IsNext : List ℕ → Option ℕ → List ℕ → Type 0
IsNext old (Some b) new = (old ≡ b ∷ new) × (b < 2)
IsNext old None new = (old ≡ []) × (new ≡ old)

-- the value that is read, and the bits that are left; without a value nothing is passed
abbrev pub Reads : {A : Type 0} → Option (A × List ℕ) → List ℕ → Option A → List ℕ → Type 0
Reads found old (Some v) new = found ≡ Some (v, new)
Reads found old None new = (found ≡ None) × (new ≡ old)

-- what a table comes to, and the bits that are left
abbrev pub Takes : {A : Type 0} → Result (A × List ℕ) ElementFail → Result A ElementFail → List ℕ → Type 0
Takes found (Ok x) new = found ≡ Ok (x, new)
Takes found (Err fail) new = found ≡ Err fail
