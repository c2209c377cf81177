-- What an answer gives: a value as it is viewed, or the refusal that its failure stands for.
use Rattle.std.specs.Prelude.{◌≡◌, Option, Some, None, IfSome, Result, Ok, Err}
use Rattle.mp_ports.specs.declared.fault.Bad.{Bad}
use Rattle.mp_ports.specs.declared.fault.Fail.{Fail}
use Rattle.mp_ports.specs.declared.fault.Fail.TheVariants.{Bad as Refused, NoMemory}
use Rattle.mp_ports.specs.declared.fault.ReadFail.{ReadFail}
use Rattle.mp_ports.specs.declared.fault.ReadFail.TheVariants.{Bad as RefusedRead, ReadFault, NoMemory as NoMemoryToRead}

-- the refusal that a failure stands for: want of memory stands for none, and may be answered to any input
abbrev pub refusal : Fail → Option Bad
refusal (Refused bad) = Some bad
refusal NoMemory = None

-- the same where the call reads: a failed read stands for none either
abbrev pub read_refusal : ReadFail → Option Bad
read_refusal (RefusedRead bad) = Some bad
read_refusal ReadFault = None
read_refusal NoMemoryToRead = None

-- the same failure of a function that reads
abbrev pub read_fail : Fail → ReadFail
read_fail (Refused bad) = RefusedRead bad
read_fail NoMemory = NoMemoryToRead

-- what is wanted is this value as it is viewed, or the refusal that this failure stands for, by `why`
abbrev pub Gives : {A B E F : Type 0} → (E → Option F) → (A → B) → Result A E → Result B F → Type 0
Gives why view (Ok value) wanted = wanted ≡ Ok (view value)
Gives why view (Err fail) wanted = IfSome (why fail) (λ fault. wanted ≡ Err fault)
