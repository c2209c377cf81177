-- What is read at one place is read at every place.
use Rattle.std.proofs.Common.{◌≡◌, ℕ, Result, Ok, Err}
use Rattle.mp_ports.specs.declared.code.Code.{Code}
use Rattle.mp_ports.specs.Checks.{placed}
use Rattle.mp_boxes.specs.Reading.{value_or}

pub fields_anywhere : {A : Type 0} (place other : ℕ) (r : Result A Code) (none value : A) → placed place r ≡ Ok value → value_or none (placed other r) ≡ value
fields_anywhere place other (Ok found) none value e = cc
fields_anywhere place other (Err code) none value e = absurd cc
