-- A part of an opened file that is held in memory.
use Rattle.std.specs.Prelude.{◌≡◌, ℕ, ◌+◌, ◌≤◌, ◌<◌, List, [], length}
use Rattle.mp_ports.specs.Folder.{FolderState, ReadsFrom, opened_at}

-- the file and its size, where the part begins, its bytes, and how many fit
pub record WindowRecord : Type 0 where
  pub file : ℕ
  pub size : ℕ
  pub from : ℕ
  pub held : List ℕ
  pub room : ℕ

-- a window of this opened file that holds nothing yet
abbrev pub blank : FolderState → ℕ → ℕ → WindowRecord
blank s file room = record { file = file; size = (opened_at s file).size; from = 0; held = []; room = room }

-- the window is one of this folder's opened files, and holds its bytes, where they are told
pub record IsOf (s : FolderState) (window : WindowRecord) : Type 0 where
  pub opened : window.file < length s.opened
  pub size : window.size ≡ (opened_at s window.file).size
  pub part : ReadsFrom (opened_at s window.file) window.from window.held

-- so many bytes of the file from the place `at` on are held
pub record Covers (window : WindowRecord) (at count : ℕ) : Type 0 where
  pub begins : window.from ≤ at
  pub ends : at + count ≤ window.from + length window.held

-- what the window holds may have changed, and it covers these bytes
pub record Fills (s : FolderState) (old new : WindowRecord) (at count : ℕ) : Type 0 where
  pub same : new ≡ record old { from = new.from; held = new.held }
  pub part : IsOf s new
  pub covers : Covers new at count
