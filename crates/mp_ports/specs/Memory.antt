-- A folder and a report in memory.
use Rattle.std.specs.Prelude.{◌≡◌, ℕ, List, [], ◌/◌, length, take, get_or, Some}
use Rattle.mp_ports.specs.Calls.{CallCount, called}
use Rattle.mp_ports.specs.Report.{ReportState}
use Rattle.mp_ports.specs.Folder.{FolderState, HeldFile, OpenedFile}

-- a folder in memory: what it is as a folder, its counted calls, and the room for written bytes
pub record MemState : Type 0 where
  pub folder : FolderState
  pub calls : CallCount
  pub room : ℕ

-- a report in memory: what it is as a report, its counted calls, and the room for said bytes
pub record MemReportState : Type 0 where
  pub report : ReportState
  pub calls : CallCount
  pub room : ℕ

-- one more call was counted, and only what it is as a folder may have changed
abbrev pub Counts : MemState → MemState → Type 0
Counts old new = new ≡ record old { folder = new.folder; calls = called old.calls }

-- the file at that place among the files held, as it is when it is opened
abbrev pub opened_file : List HeldFile → ℕ → OpenedFile
opened_file files at =
    let file = get_or files at (record { name = []; bytes = [] }) in
    record { name = file.name; size = length file.bytes; bytes = Some file.bytes }

-- the first half of a piece, its length rounded down
abbrev pub half_of : List ℕ → List ℕ
half_of piece = take (length piece / 2) piece
