-- The files that options read, and what opening them does to a folder.
use Rattle.std.specs.Prelude.{◌≡◌, ◌≤◌, ℕ, Bool, true, false, List, [], ◌∷◌, ◌++◌, All, map, take, length, Option, Some, is_some, if◌then◌else◌, IfSome}
use Rattle.std.specs.List.{flat_map}
use Rattle.mp_ports.specs.Folder.{FolderState, HeldFile, OpenedFile, bytes_under}
use Rattle.mp_words.specs.declared.name.FileKind.{FileKind}
use Rattle.mp_words.specs.declared.name.FileKind.TheVariants.{Nhnt}
use Rattle.mp_words.specs.Jobs.{Asked, Adds, CommandRecord}
use Rattle.mp_words.specs.Names.{files_with, kind_of}

-- the names that are wanted, by the files that are held
abbrev pub Wanted : Type 0
Wanted = List HeldFile → List (List ℕ)

-- the name, where a file of it is held
abbrev pub held_name : List ℕ → Wanted
held_name name files = if is_some (bytes_under name files) then name ∷ [] else []

-- of these names those that are held, in order
abbrev pub held_names : List (List ℕ) → Wanted
held_names names files = flat_map (λ name. held_name name files) names

-- of the files of the input of that name: the file itself and, beside an NHNT table, its `.media` and its `.info`
abbrev pub input_names : List ℕ → Wanted
input_names name = held_names (files_with (kind_of name) name)

-- of the files that an option reads
abbrev pub names_of : Asked → Wanted
names_of (Adds name choice rate) files = input_names name files
names_of _ files = []

-- the held names that options read, in order
abbrev pub reads : List CommandRecord → Wanted
reads commands files = flat_map (λ command. names_of command.what files) commands

-- it is the kind of an NHNT table
abbrev pub is_nhnt : Option FileKind → Bool
is_nhnt (Some Nhnt) = true
is_nhnt _ = false

-- all files that an option reads must be there: it reads no NHNT pair, which may have no `.info`
abbrev pub NeedsAll : Asked → Type 0
NeedsAll (Adds name choice rate) = is_nhnt (kind_of name) ≡ false
NeedsAll _ = Unit

-- and all that options read
abbrev pub NeedAll : List CommandRecord → Type 0
NeedAll commands = All (λ command. NeedsAll command.what) commands

abbrev pub names : List OpenedFile → List (List ℕ)
names opened = map (λ file. file.name) opened

-- a front of the wanted names was opened, in order, at most so many
pub record OpensFront (wanted : Wanted) (most : ℕ) (old new : FolderState) : Type 0 where
  pub files : List OpenedFile
  pub opened : new.opened ≡ old.opened ++ files
  pub few : length files ≤ most
  pub told : IfSome old.held (λ held. (part : ℕ) × (part ≤ length (wanted held)) × (names files ≡ take part (wanted held)))

-- all of them were opened
pub record OpensAll (wanted : Wanted) (most : ℕ) (old new : FolderState) : Type 0 where
  pub files : List OpenedFile
  pub opened : new.opened ≡ old.opened ++ files
  pub few : length files ≤ most
  pub told : IfSome old.held (λ held. names files ≡ wanted held)
