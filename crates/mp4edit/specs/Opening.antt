-- What opening a file of an option answers, and does to a folder.
use Rattle.std.specs.Prelude.{◌≡◌, ℕ, List, Option, Some, None, Result, Ok, Err}
use Rattle.mp_ports.specs.Folder.{FailsToRead, FolderState, Misses, Opens}
use Rattle.mp4edit.specs.declared.stop.Stop.{Stop}
use Rattle.mp4edit.specs.declared.stop.Stop.TheVariants.{Missing, Bad, ReadFault, NoMemory}

-- the number of the file of that name, or none where it is missing; else a failed read, or want of memory
abbrev pub Finds : Result (Option ℕ) Stop → FolderState → FolderState → List ℕ → Type 0
Finds (Ok (Some file)) old new name = Opens old new name file
Finds (Ok None) old new name = Misses old new name
Finds (Err ReadFault) old new name = FailsToRead old new
Finds (Err NoMemory) old new name = new ≡ old
Finds (Err _) old new name = ⊥

-- the same, of a file without which the option of that number ends the run
abbrev pub FindsFor : ℕ → Result ℕ Stop → FolderState → FolderState → List ℕ → Type 0
FindsFor command (Ok file) old new name = Opens old new name file
FindsFor command (Err (Missing number)) old new name = (number ≡ command) × Misses old new name
FindsFor command (Err ReadFault) old new name = FailsToRead old new
FindsFor command (Err NoMemory) old new name = new ≡ old
FindsFor command (Err (Bad bad)) old new name = ⊥
