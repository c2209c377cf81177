-- A window through which pieces are copied: at its front bytes are gathered, and behind them stand bytes that were read ahead.
use Rattle.std.specs.Prelude.{◌≡◌, ℕ, ◌-◌, ◌<◌, ◌≤◌, List, ◌++◌, length, take, drop, IfSome}
use Rattle.mp_ports.specs.Folder.{FolderState, Appends, ReadsFrom, opened_at}
use Rattle.mp_pieces.specs.declared.piece.Piece.{Piece}
use Rattle.mp_pieces.specs.declared.stand.Stand.{Stand}
use Rattle.mp_pieces.specs.Copied.{Made, Tells}

-- of what is made of the files, where they are told, a front was appended, and the rest is held
pub record Gathers (old new : FolderState) (pieces : List Piece) (made : Made) (held : List ℕ) : Type 0 where
  pub front : List ℕ
  pub appended : Appends old new front
  pub told : (files : List (List ℕ)) → Tells old files pieces → made files ≡ front ++ held

-- nothing is kept, and nothing was read ahead
abbrev pub blank_stand : Stand
blank_stand = record { kept = 0; begin = 0; end = 0; file = 0; to = 0 }

-- the bytes that are gathered
abbrev pub gathered : List ℕ → Stand → List ℕ
gathered window stand = take stand.kept window

-- the bytes of a file that were read ahead
abbrev pub read_ahead : List ℕ → Stand → List ℕ
read_ahead window stand = drop stand.begin (take stand.end window)

-- the window stands so: its parts one behind the other, and those read ahead are bytes of the file
pub record IsStand (s : FolderState) (window : List ℕ) (stand : Stand) : Type 0 where
  pub kept : stand.kept ≤ stand.begin
  pub ahead : stand.begin ≤ stand.end
  pub room : stand.end ≤ length window
  pub place : stand.end - stand.begin ≤ stand.to
  pub part : ReadsFrom (opened_at s stand.file) (stand.to - (stand.end - stand.begin)) (read_ahead window stand)

-- the byte at that place of the file was read ahead
pub record IsAhead (stand : Stand) (file at : ℕ) : Type 0 where
  pub same : stand.file ≡ file
  pub before : at < stand.to
  pub behind : stand.to - at ≤ stand.end - stand.begin

-- so many bytes of the file from that place on are gathered behind the others
pub record Keeps (s : FolderState) (old new : List ℕ) (stand next : Stand) (at count : ℕ) : Type 0 where
  pub stands : IsStand s new next
  pub kept : IfSome (opened_at s stand.file).bytes
      (λ file. gathered new next ≡ gathered old stand ++ take count (drop at file))
