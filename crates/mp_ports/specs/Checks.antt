-- Words on checks: a refusal and its place, the first fault of a list of checks, what is handed on.
use Rattle.std.specs.Prelude.{◌≡◌, ℕ, Bool, List, [], ◌∷◌, Option, Some, None, Result, Ok, Err, if◌then◌else◌}
use Rattle.mp_ports.specs.declared.code.Code.{Code}
use Rattle.mp_ports.specs.declared.fault.Bad.{Bad}

infixl 10 ◌>>=◌
-- a refusal at a place of the named file
abbrev pub bad_at : Code → ℕ → Bad
bad_at code place = record { code = code; command = 0; file = 0; place = place }

-- an answer, its fault at this place
abbrev pub placed : {A : Type 0} → ℕ → Result A Code → Result A Bad
placed place (Ok value) = Ok value
placed place (Err code) = Err (bad_at code place)

-- a fault, at its place
abbrev pub fault_at : ℕ → Option Code → Option Bad
fault_at place None = None
fault_at place (Some code) = Some (bad_at code place)

-- the code of the first test that holds
abbrev pub first_code : List (Bool × Code) → Option Code
first_code [] = None
first_code (check ∷ checks) = if check.0 then Some check.1 else first_code checks

-- the first fault of a list of checks
abbrev pub first_some : {A : Type 0} → List (Option A) → Option A
first_some [] = None
first_some (None ∷ checks) = first_some checks
first_some (Some fault ∷ checks) = Some fault

-- a value, unless there is a fault
abbrev pub unless : {A E : Type 0} → Option E → A → Result A E
unless None value = Ok value
unless (Some fault) value = Err fault

-- the first value handed on, or its fault
abbrev pub ◌>>=◌ : {A B E : Type 0} → Result A E → (A → Result B E) → Result B E
(Ok value) >>= next = next value
(Err fault) >>= next = Err fault

-- the answer has the fault, or there is none
abbrev pub Checks : {A E : Type 0} → Result A E → Option E → Type 0
Checks (Ok value) fault = fault ≡ None
Checks (Err found) fault = fault ≡ Some found
