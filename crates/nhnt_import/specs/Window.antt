-- The window through which a table is read.
use Rattle.std.specs.Prelude.{◌≡◌, ℕ, ◌≤◌}
use Rattle.mp_ports.specs.Folder.{FolderState}
use Rattle.mp_pieces.specs.Window.{WindowRecord, IsOf}

-- a window of that opened file, in which a record has room
pub record IsWindow (s : FolderState) (file : ℕ) (window : WindowRecord) : Type 0 where
  pub part : IsOf s window
  pub names : window.file ≡ file
  pub room : 28 ≤ window.room
