-- What is kept of a stream's units while they come.
use Rattle.std.specs.Prelude.{◌≡◌, ℕ, ◌+◌, ◌<◌, ◌≤◌, true, List, [], ◌∷◌, ◌++◌, length, map, All, Option, Some, None, Result, Ok, Err}
use Rattle.std.specs.List.{flat_map}
use Rattle.mp_ports.specs.declared.fault.Bad.{Bad}
use Rattle.mp_ports.specs.declared.fault.Fail.{Fail}
use Rattle.mp_ports.specs.declared.fault.Fail.TheVariants.{Bad as Refused, NoMemory}
use Rattle.mp_pieces.specs.declared.piece.Piece.{Piece}
use Rattle.avc_units.specs.declared.reader.UnitSpan.{UnitSpan}
use Rattle.avc_slices.specs.declared.slice.Slice.{Slice}
use Rattle.avc_order.specs.declared.access.NalUnit.{NalUnit}
use Rattle.avc_order.specs.Access.{access_units, first_slices, last_slice, pictures}
use Rattle.avc_import.specs.declared.pictures.Pictures.{Pictures}
use Rattle.avc_import.specs.Unit.{most_frames}
use Rattle.avc_order.specs.Sequence.{is_sync}
use Rattle.avc_import.specs.Film.{marks, part_of}

-- a unit of a sample, behind its length
abbrev pub piece_of : ℕ → UnitSpan → Piece
piece_of file u = record { file = file; from = u.from; len = u.len; prefix = Some u.len }

-- it has bytes of that file of so many bytes, as many as a unit
pub record IsUnitPiece (file size : ℕ) (piece : Piece) : Type 0 where
  pub names : piece.file ≡ file
  pub inside : piece.from + piece.len ≤ size

-- all but the last
abbrev pub all_but_last : {X : Type 0} → List X → List X
all_but_last [] = []
all_but_last (x ∷ []) = []
all_but_last (x ∷ next ∷ xs) = x ∷ all_but_last (next ∷ xs)

-- where lists end that are joined, the first of which begins at n
abbrev pub ends_from : {X : Type 0} → ℕ → List (List X) → List ℕ
ends_from n [] = []
ends_from n (part ∷ parts) = (n + length part) ∷ ends_from (n + length part) parts

-- the first of the pictures is an IDR picture
abbrev pub BeginsRight : List (NalUnit × UnitSpan) → Type 0
BeginsRight units = 0 < length (first_slices units) → is_sync (marks (first_slices units)) 0 ≡ true

-- what is kept of these units: the last slice of the access unit, the first slices and their places, the pieces of all samples, and how
-- many of them stand in front of each further access unit
pub record Stands (file size : ℕ) (units : List (NalUnit × UnitSpan)) (kept : Pictures) : Type 0 where
  pub last : kept.access.last ≡ last_slice units
  pub firsts : kept.firsts.items ≡ map (λ (p : Slice × UnitSpan). p.0) (first_slices units)
  pub places : kept.places.items ≡ map (λ (p : Slice × UnitSpan). p.1.from) (first_slices units)
  pub few : length (first_slices units) ≤ most_frames
  pub begins : BeginsRight units
  pub pieces : kept.pieces.items ≡ map (piece_of file) (part_of units)
  pub inside : All (IsUnitPiece file size) kept.pieces.items
  pub ends : kept.ends.items ≡ ends_from 0 (all_but_last (map part_of (access_units units)))

-- the fault is answered, or there is none and this holds
abbrev pub IsAccepted : Result (Unit {0}) Fail → Option Bad → Type 0 → Type 0
IsAccepted (Ok done) fault Holds = (fault ≡ None) × Holds
IsAccepted (Err (Refused bad)) fault Holds = fault ≡ Some bad
IsAccepted (Err NoMemory) fault Holds = Unit {0}

-- how pieces of that file are cut into these parts, one behind the other, and what follows them
pub record AreCut (file : ℕ) (parts : List (List UnitSpan)) (pieces : List Piece) (ends : List ℕ) : Type 0 where
  pub more : List Piece
  pub joined : pieces ≡ map (piece_of file) (flat_map (λ (part : List UnitSpan). part) parts) ++ more
  pub ends_are : ends ≡ ends_from 0 parts

-- they are cut into the parts of some file
pub record HasParts (pieces : List Piece) (ends : List ℕ) : Type 0 where
  pub file : ℕ
  pub parts : List (List UnitSpan)
  pub are : AreCut file parts pieces ends

-- what is kept of all units of a stream
pub record IsClosed (file size : ℕ) (units : List (NalUnit × UnitSpan)) (kept : Pictures) : Type 0 where
  pub firsts : kept.firsts.items ≡ map (λ (p : Slice × UnitSpan). p.0) (first_slices units)
  pub places : kept.places.items ≡ map (λ (p : Slice × UnitSpan). p.1.from) (first_slices units)
  pub few : length (first_slices units) ≤ most_frames
  pub begins : BeginsRight units
  pub number : length (first_slices units) ≡ length (map part_of (pictures units))
  pub parts : AreCut file (map part_of (pictures units)) kept.pieces.items kept.ends.items
  pub inside : All (IsUnitPiece file size) kept.pieces.items
