-- What a reader of units answers.
use Rattle.std.specs.Prelude.{◌≡◌, ◌⊎◌, ℕ, ◌+◌, ◌<◌, ◌≤◌, List, [], ◌∷◌, ◌++◌, length, take, drop, Option, Some, None, Result, Ok, Err}
use Rattle.mp_ports.specs.Checks.{bad_at}
use Rattle.mp_ports.specs.Folder.{FolderState, OpenedFile, FailsToRead}
use Rattle.mp_ports.specs.declared.code.Code.TheVariants.{UnitFraming, UnitLimit}
use Rattle.mp_ports.specs.declared.fault.Bad.{Bad}
use Rattle.avc_units.specs.declared.piece.Piece.{Piece}
use Rattle.avc_units.specs.declared.reader.UnitSpan.{UnitSpan}
use Rattle.avc_units.specs.declared.reader.UnitFail.{UnitFail}
use Rattle.avc_units.specs.declared.reader.UnitFail.TheVariants.{Bad as Refused, ReadFault}
use Rattle.avc_units.specs.Scan.{Keeps}
use Rattle.avc_units.specs.Units.{Placed, HasUnits, AreUnits, IsFault}

-- the longest unit that is read, in bytes
abbrev pub longest_unit : ℕ
longest_unit = 16777216

-- the unit of that place and length
abbrev pub unit_at : List ℕ → UnitSpan → Placed
unit_at file span = record { from = span.from; bytes = take span.len (drop span.from file) }

-- behind these first units, the last of which ends at `end`, comes a fault, or a unit that is too long
abbrev pub IsRefused : List ℕ → List Placed → ℕ → Bad → Type 0
IsRefused file us end bad =
    ((at : ℕ) × IsFault (drop end file) at × (bad ≡ bad_at UnitFraming (end + at)))
    ⊎ ((u : Placed) × HasUnits file (us ++ u ∷ []) (u.from + length u.bytes) × (longest_unit < length u.bytes) × (bad ≡ bad_at UnitLimit u.from))

-- behind these first units the answer is the next one, that there is none, or why there is none that is read
abbrev pub IsNextUnit : List ℕ → List Placed → ℕ → Result (Option UnitSpan) UnitFail → Type 0
IsNextUnit file us end (Ok (Some span)) = HasUnits file (us ++ unit_at file span ∷ []) (span.from + span.len)
IsNextUnit file us end (Ok None) = AreUnits file us
IsNextUnit file us end (Err (Refused bad)) = IsRefused file us end bad
IsNextUnit file us end (Err ReadFault) = Unit {0}

-- over any folder: the unit isn't empty nor too long, it begins behind a start code, and lies in the file
pub record LiesBehind (end size : ℕ) (span : UnitSpan) : Type 0 where
  pub behind : end + 3 ≤ span.from
  pub some : 0 < span.len
  pub within : span.from + span.len ≤ size
  pub few : span.len ≤ longest_unit

-- a reader of an opened file: it has the file's size, and what it keeps of the file is what stands in it
pub record IsReaderOf (file : OpenedFile) (size : ℕ) (piece : Piece) : Type 0 where
  pub size_is : size ≡ file.size
  pub kept : Keeps file piece

-- where the reader stands after an answer: behind the unit, or where it stood
abbrev pub end_after : ℕ → Result (Option UnitSpan) UnitFail → ℕ
end_after end (Ok (Some span)) = span.from + span.len
end_after end (Ok None) = end
end_after end (Err fail) = end

-- after a failed read the count of read faults rose and nothing else changed; after any other answer nothing changed
abbrev pub OnlyReads : {A : Type 0} → Result A UnitFail → FolderState → FolderState → Type 0
OnlyReads (Ok value) old new = new ≡ old
OnlyReads (Err (Refused bad)) old new = new ≡ old
OnlyReads (Err ReadFault) old new = FailsToRead old new
