-- What a call that only reads does to a folder.
use Rattle.std.specs.Prelude.{◌≡◌, Result, Ok, Err}
use Rattle.mp_ports.specs.Folder.{FolderState, FailsToRead}
use Rattle.mp_ports.specs.declared.fault.ReadFail.{ReadFail}
use Rattle.mp_ports.specs.declared.fault.ReadFail.TheVariants.{Bad, ReadFault, NoMemory}

-- after a failed read the count of read faults rose and nothing else changed; after any other answer nothing changed
abbrev pub OnlyReads : {A : Type 0} → Result A ReadFail → FolderState → FolderState → Type 0
OnlyReads (Ok value) old new = new ≡ old
OnlyReads (Err (Bad bad)) old new = new ≡ old
OnlyReads (Err ReadFault) old new = FailsToRead old new
OnlyReads (Err NoMemory) old new = new ≡ old
