-- What stands written, whole or in part.
use Rattle.std.specs.Prelude.{◌≡◌, ◌==◌, ℕ, true, false, List, length, map, Some, Result, Ok, Err, option_map, IfSome, IfNone, IsSomeAnd}
use Rattle.mp_ports.specs.Count.{after_fault}
use Rattle.mp_ports.specs.Folder.{FolderState}
use Rattle.mp_pieces.specs.Copied.{IsFront}
use Rattle.mp_movie.specs.Placed.{PlacedMovie}
use Rattle.mp_ports.specs.declared.fault.Fail.{Fail}
use Rattle.mp_ports.specs.declared.fault.Fail.TheVariants.{Bad, NoMemory}
use Rattle.mp_movie.specs.StandsFor.{Hold, stands_for}
use Rattle.mp_layout.specs.Emitted.{AreTold, written_of}
use Rattle.mp_layout.specs.Plan.{FilePlanRecord, IsPlanOf}
use Rattle.mp4edit.specs.Outcome.{output_fault}

-- the output's name, the number of its option, and the window in milliseconds
pub record OutputRecord : Type 0 where
  pub name : List ℕ
  pub command : ℕ
  pub window : ℕ

-- the plan of the movie's file, or why it can't be written, or there is no memory
abbrev pub PlansOutput : Result FilePlanRecord Fail → PlacedMovie → ℕ → Type 0
PlansOutput (Ok plan) movie millis = ((length movie.tracks == 0) ≡ false) × IsPlanOf plan movie millis
PlansOutput (Err (Bad bad)) movie millis = (files : List (List ℕ)) → Hold (map length files) movie → output_fault millis (stands_for files movie) ≡ Some bad
PlansOutput (Err NoMemory) movie millis = Unit

-- it is the plan of the movie's file, its samples in windows of some length
pub record IsPlanned (plan : FilePlanRecord) (movie : PlacedMovie) : Type 0 where
  pub millis : ℕ
  pub is : IsPlanOf plan movie millis

-- the whole file stands under the name and is finished; nothing else changed
pub record WritesWhole (old new : FolderState) (name : List ℕ) (movie : PlacedMovie) (millis : ℕ) : Type 0 where
  pub bytes : List ℕ
  pub state : new ≡ record old { output = Some (record { name = name; finished = true }); written = option_map (λ _. bytes) old.written }
  pub told : (files : List (List ℕ)) → AreTold old movie files → bytes ≡ written_of movie millis files

-- where the folder tells what is written, it is a front of these bytes
abbrev pub IsToldFront : FolderState → FolderState → List ℕ → Type 0
IsToldFront old new bytes = IfSome old.written (λ _. IsSomeAnd new.written (λ written. IsFront written bytes))

-- what was created stands under the name, unfinished, and holds a front of the file
pub record LeavesFront (old new : FolderState) (name : List ℕ) (movie : PlacedMovie) (millis : ℕ) : Type 0 where
  pub created : IfSome new.output (λ out. out ≡ record { name = name; finished = false })
  pub front : (files : List (List ℕ)) → AreTold old movie files
      → IfSome new.output (λ _. IsToldFront old new (written_of movie millis files))
  pub untouched : IfNone new.output (new.written ≡ old.written)

-- a read failed, behind the creation
pub record StopsReading (old new : FolderState) (name : List ℕ) (movie : PlacedMovie) (millis : ℕ) : Type 0 where
  pub state : new ≡ record old { output = new.output; written = new.written; read_faults = after_fault old.read_faults }
  pub left : LeavesFront old new name movie millis

-- writing failed
pub record StopsWriting (old new : FolderState) (name : List ℕ) (movie : PlacedMovie) (millis : ℕ) : Type 0 where
  pub state : new ≡ record old { output = new.output; written = new.written; write_faults = after_fault old.write_faults }
  pub left : LeavesFront old new name movie millis
