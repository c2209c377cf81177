-- A folder of files, and what each of its calls does to it.
use Rattle.std.specs.Prelude.{◌≡◌, ℕ, Bool, true, false, List, [], ◌∷◌, ◌++◌, length, take, drop, get_or, if◌then◌else◌, Option, Some, None, option_map, option_and_then, IfSome, IsSome, IsSomeAnd, bytes_eq}
use Rattle.mp_ports.specs.Count.{after_fault}
use Rattle.mp_ports.specs.Told.{followed_by}

-- a file that is held
pub record HeldFile : Type 0 where
  pub name : List ℕ
  pub bytes : List ℕ

-- a file that was opened: its size at that time, and its bytes where they are told
pub record OpenedFile : Type 0 where
  pub name : List ℕ
  pub size : ℕ
  pub bytes : Option (List ℕ)

-- the file that is written
pub record Output : Type 0 where
  pub name : List ℕ
  pub finished : Bool

-- all that can be said of a folder
pub record FolderState : Type 0 where
  -- the files that it holds, where it tells
  pub held : Option (List HeldFile)
  -- the opened files, each at its number
  pub opened : List OpenedFile
  -- the created file, if there is one
  pub output : Option Output
  -- the bytes written to it, where it tells
  pub written : Option (List ℕ)
  -- how often opening or reading, and creating, writing or finishing, failed
  pub read_faults : ℕ
  pub write_faults : ℕ
  -- how often there was no file of a name
  pub misses : ℕ

-- the bytes of the first file of that name
abbrev pub bytes_under : List ℕ → List HeldFile → Option (List ℕ)
bytes_under name [] = None
bytes_under name (file ∷ rest) =
    if bytes_eq file.name name then Some file.bytes else bytes_under name rest

-- the bytes held under that name: None where the folder doesn't tell, or no file has it
abbrev pub held_under : List ℕ → FolderState → Option (List ℕ)
held_under name s = option_and_then (bytes_under name) s.held

-- the opened file of that number
abbrev pub opened_at : FolderState → ℕ → OpenedFile
opened_at s file = get_or s.opened file (record { name = []; size = 0; bytes = None })

-- the file has the next number and, where that is told, the bytes held under its name; all else stays
pub record Opens (old new : FolderState) (name : List ℕ) (file : ℕ) : Type 0 where
  pub size : ℕ
  pub number : file ≡ length old.opened
  pub found : IfSome old.held (λ files. IsSome (bytes_under name files))
  pub sized : IfSome (held_under name old) (λ bytes. size ≡ length bytes)
  pub state : new ≡ record old {
    opened = old.opened ++ (record { name = name; size = size; bytes = held_under name old }) ∷ [];
  }

-- no file of that name, where the folder tells, and only the misses rose
pub record Misses (old new : FolderState) (name : List ℕ) : Type 0 where
  pub missing : held_under name old ≡ None
  pub state : new ≡ record old { misses = after_fault old.misses }

-- only the count of read faults rose
abbrev pub FailsToRead : FolderState → FolderState → Type 0
FailsToRead old new = new ≡ record old { read_faults = after_fault old.read_faults }

-- only the count of write faults rose
abbrev pub FailsToWrite : FolderState → FolderState → Type 0
FailsToWrite old new = new ≡ record old { write_faults = after_fault old.write_faults }

-- the bytes of the file from that place on, where the folder tells
abbrev pub ReadsFrom : OpenedFile → ℕ → List ℕ → Type 0
ReadsFrom file from got = IfSome file.bytes (λ bytes. got ≡ take (length got) (drop from bytes))

-- the file is there under that name, not finished, with no bytes; all else stays
abbrev pub Creates : FolderState → FolderState → List ℕ → Type 0
Creates old new name = new ≡ record old {
  output = Some (record { name = name; finished = false });
  written = option_map (λ _. []) old.written;
}

-- a file is created, and isn't finished
abbrev pub IsWriting : FolderState → Type 0
IsWriting s = IsSomeAnd s.output (λ out. out.finished ≡ false)

-- the piece follows what was written, and all else stays
abbrev pub Appends : FolderState → FolderState → List ℕ → Type 0
Appends old new piece = new ≡ record old { written = followed_by old.written piece }

-- a front of the piece follows what was written, and only the count of write faults rose
pub record FailsToAppend (old new : FolderState) (piece : List ℕ) : Type 0 where
  pub part : ℕ
  pub state : new ≡ record old {
    written = followed_by old.written (take part piece);
    write_faults = after_fault old.write_faults;
  }

-- the created file is finished, and all else stays
abbrev pub Finishes : FolderState → FolderState → Type 0
Finishes old new = new ≡ record old {
  output = option_map {T = Output} (λ out. record out { finished = true }) old.output;
}

-- several appends in a row are one append of the whole, whether all are made or one of them fails
pub record AppendsFollow : Type 0 where
  -- one append after what is done
  pub more : (s t u : FolderState) (done piece : List ℕ)
      → Appends s t done → Appends t u piece → Appends s u (done ++ piece)
  -- the first fails, and the rest isn't made
  pub first : (s t : FolderState) (piece rest : List ℕ)
      → FailsToAppend s t piece → FailsToAppend s t (piece ++ rest)
  -- one fails after what is done, and the rest isn't made
  pub later : (s t u : FolderState) (done piece rest : List ℕ)
      → Appends s t done → FailsToAppend t u piece → FailsToAppend s u (done ++ (piece ++ rest))
  -- the last fails
  pub last : (s t u : FolderState) (done piece : List ℕ)
      → Appends s t done → FailsToAppend t u piece → FailsToAppend s u (done ++ piece)
