-- Words on readings: a check is what a reading refuses.
use Rattle.std.specs.Prelude.{Option, Some, None, Result, Ok, Err}
use Rattle.mp_ports.specs.declared.fault.Bad.{Bad}

-- the fault of a reading, where it has one
abbrev pub fault_of : {A : Type 0} → Result A Bad → Option Bad
fault_of (Ok value) = None
fault_of (Err bad) = Some bad

-- a check of what may not be there
abbrev pub if_there : {A : Type 0} → (A → Option Bad) → Option A → Option Bad
if_there check None = None
if_there check (Some value) = check value
