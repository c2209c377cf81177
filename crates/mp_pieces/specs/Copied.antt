-- Pieces of opened files that are copied to the output.
use Rattle.std.specs.Prelude.{◌≡◌, ℕ, List, [], take, map, get_or, Some, All}
use Rattle.mp_ports.specs.Count.{after_fault}
use Rattle.mp_ports.specs.Folder.{FolderState, OpenedFile, Appends, opened_at}
use Rattle.mp_ports.specs.Told.{followed_by}
use Rattle.mp_pieces.specs.declared.piece.Piece.{Piece}

-- the sizes of the opened files
abbrev pub sizes_of : FolderState → List ℕ
sizes_of s = map (λ (file : OpenedFile). file.size) s.opened

-- the folder tells that the files of these pieces have these bytes
abbrev pub Tells : FolderState → List (List ℕ) → List Piece → Type 0
Tells s files pieces = All (λ piece. (opened_at s piece.file).bytes ≡ Some (get_or files piece.file [])) pieces

-- bytes that are made of the opened files' bytes
abbrev pub Made : Type 0
Made = List (List ℕ) → List ℕ

-- the bytes are a front of the whole
abbrev pub IsFront : List ℕ → List ℕ → Type 0
IsFront bytes whole = (part : ℕ) × (bytes ≡ take part whole)

-- bytes were appended, and nothing else changed: where the files of the pieces are told, what the files make of them
pub record Emits (old new : FolderState) (pieces : List Piece) (made : Made) : Type 0 where
  pub bytes : List ℕ
  pub appended : Appends old new bytes
  pub told : (files : List (List ℕ)) → Tells old files pieces → made files ≡ bytes

-- a read failed, and only a front of them was appended
pub record StopsReading (old new : FolderState) (pieces : List Piece) (made : Made) : Type 0 where
  pub bytes : List ℕ
  pub state : new ≡ record old { written = followed_by old.written bytes; read_faults = after_fault old.read_faults }
  pub told : (files : List (List ℕ)) → Tells old files pieces → IsFront bytes (made files)

-- an append failed, and only a front of them was appended
pub record StopsWriting (old new : FolderState) (pieces : List Piece) (made : Made) : Type 0 where
  pub bytes : List ℕ
  pub state : new ≡ record old { written = followed_by old.written bytes; write_faults = after_fault old.write_faults }
  pub told : (files : List (List ℕ)) → Tells old files pieces → IsFront bytes (made files)
