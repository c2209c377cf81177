-- The job of a line, as far as jobs are built.
use Rattle.std.specs.Prelude.{ℕ, ◌-◌, ◌*◌, Bool, true, false, List, [], ◌∷◌, Option, Some, None, Result, Ok, Err, if◌then◌else◌}
use Rattle.mp_ports.specs.Checks.{◌>>=◌}
use Rattle.mp_words.specs.declared.fault.WordKind.TheVariants.{NotYet}
use Rattle.mp_words.specs.declared.name.FileKind.{FileKind}
use Rattle.mp_words.specs.declared.name.FileKind.TheVariants.{Mp4, Avc, Adts, Nhnt}
use Rattle.mp_words.specs.declared.job.DumpKind.{DumpKind}
use Rattle.mp_words.specs.Jobs.{Asked, Adds, Removes, Delays, Cuts, ScalesTrack, ScalesMovie, SetsLanguage, Enables, CommandRecord, EditRecord, JobRecord, Edits, Dumps, Generates}
use Rattle.mp_words.specs.Line.{WordFault, job as line_job}
use Rattle.mp_words.specs.Names.{kind_of}

-- files of that kind are read
abbrev pub is_read : Option FileKind → Bool
is_read (Some Mp4) = true
is_read (Some Avc) = true
is_read (Some Adts) = true
is_read (Some Nhnt) = true
is_read _ = false

-- what an option asks for is built
abbrev pub is_built : Asked → Bool
is_built (Adds name choice rate) = is_read (kind_of name)
is_built (Removes number) = true
is_built (Delays number ms) = true
is_built (Cuts from to) = true
is_built (ScalesTrack number scale) = true
is_built (ScalesMovie scale) = true
is_built (SetsLanguage number letters) = true
is_built (Enables number on) = true
is_built _ = false

-- the number of the first option that asks for what isn't built
abbrev pub first_unbuilt : List CommandRecord → Option ℕ
first_unbuilt [] = None
first_unbuilt (command ∷ commands) = if is_built command.what then first_unbuilt commands else Some command.place

-- the option of that number asks for what isn't built
abbrev pub not_yet : ℕ → Result JobRecord WordFault
not_yet place = Err (2 * place - 1, NotYet)

-- the edit, unless an option of it isn't built
abbrev pub built_edit : Option ℕ → EditRecord → Result JobRecord WordFault
built_edit None edit = Ok (Edits edit)
built_edit (Some place) edit = not_yet place

-- the job, unless it isn't built
abbrev pub built : JobRecord → Result JobRecord WordFault
built (Edits edit) = built_edit (first_unbuilt edit.commands) edit
built (Dumps kind name) = Ok (Dumps kind name)
built (Generates n) = not_yet 1

-- the job that the words of a line name, if all that it asks for is built
abbrev pub job : List (List ℕ) → Result JobRecord WordFault
job words = line_job words >>= built

-- of a line that names a job of this kind
abbrev pub IfEdits : Result JobRecord WordFault → (EditRecord → Type 0) → Type 0
IfEdits (Ok (Edits edit)) P = P edit
IfEdits _ P = Unit

abbrev pub IfDumps : Result JobRecord WordFault → (DumpKind → List ℕ → Type 0) → Type 0
IfDumps (Ok (Dumps kind name)) P = P kind name
IfDumps _ P = Unit
