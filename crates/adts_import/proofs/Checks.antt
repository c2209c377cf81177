-- A list of checks has no fault exactly where each test fails to hold.
use Rattle.std.proofs.Common.{◌≡◌, Bool, true, false, List, [], ◌∷◌, None, refl}
use Rattle.std.specs.List.{AllByRecursion}
use Rattle.mp_ports.specs.Checks.{first_code}
use Rattle.mp_ports.specs.declared.code.Code.{Code}

abbrev pub AllPass : List (Bool × Code) → Type 0
AllPass checks = AllByRecursion (λ check. check.0 ≡ false) checks

pub all_pass : (checks : List (Bool × Code)) → AllPass checks → first_code checks ≡ None
all_pass [] pass = refl
all_pass (check ∷ checks) pass = rw pass.0 (all_pass checks pass.1)

pub passed : (checks : List (Bool × Code)) → first_code checks ≡ None → AllPass checks
passed [] none = tt
passed ((true, code) ∷ checks) none = cc
passed ((false, code) ∷ checks) none = (refl, passed checks none)
