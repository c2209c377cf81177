-- The job of a line, or its first fault, read from left to right.
use Rattle.std.specs.Prelude.{ℕ, ◌+◌, ◌*◌, ◌-◌, ◌==◌, ◌&&◌, ◌||◌, not, Bool, List, [], ◌∷◌, ◌++◌, bytes_eq, Option, Some, None, Result, Ok, Err, is_some, option_map, if◌then◌else◌}
use Rattle.std.specs.Bool.{then_some}
use Rattle.std.specs.List.{list_any}
use Rattle.mp_ports.specs.Checks.{◌>>=◌, first_some, unless}
use Rattle.mp_words.specs.declared.fault.WordKind.{WordKind}
use Rattle.mp_words.specs.declared.fault.WordKind.TheVariants.{Empty, Unknown, Mixed, OutTwice, Missing, Argument, NoOut, SameName}
use Rattle.mp_words.specs.declared.job.DumpKind.{DumpKind}
use Rattle.mp_words.specs.declared.options.LineOption.{LineOption}
use Rattle.mp_words.specs.declared.options.LineOption.TheVariants.{Inter, Out, Info, Timeline, Json, Gen}
use Rattle.mp_words.specs.declared.job.DumpKind.TheVariants.{Info as OfInfo, Timeline as OfTimeline, Json as OfJson}
use Rattle.mp_words.specs.Arguments.{asked_by}
use Rattle.mp_words.specs.Jobs.{Asked, Adds, Joins, CommandRecord, JobRecord, Edits, Dumps, Generates}
use Rattle.mp_words.specs.Names.{kind_of, is_mp4, files_with}
use Rattle.mp_words.specs.Numbers.{number_of, number_in}
use Rattle.mp_words.specs.Options.{option_of, stands_alone, is_out}

-- the word that is at fault, counted from 1, or 0 for the line; and why
abbrev pub WordFault : Type 0
WordFault = ℕ × WordKind

-- a value, or the fault of that word
abbrev pub at_word : {A : Type 0} → ℕ → Result A WordKind → Result A WordFault
at_word word (Ok value) = Ok value
at_word word (Err kind) = Err (word, kind)

-- what has been read of a line: its commands, its output's name and option, its window in milliseconds,
-- or the job of an option that is the whole line
pub record LineRecord : Type 0 where
  pub commands : List CommandRecord
  pub out : Option (List ℕ)
  pub out_command : ℕ
  pub window : ℕ
  pub alone : Option JobRecord

-- of a line of no words
abbrev pub nothing : LineRecord
nothing = record { commands = []; out = None; out_command = 0; window = 500; alone = None }

abbrev pub with_command : ℕ → LineRecord → Asked → LineRecord
with_command place line what = record line { commands = line.commands ++ (record { place = place; what = what }) ∷ [] }

abbrev pub with_asked : LineOption → List ℕ → ℕ → LineRecord → Option LineRecord
with_asked option argument place line = option_map (with_command place line) (asked_by option argument)

abbrev pub with_dump : DumpKind → List ℕ → LineRecord → Option LineRecord
with_dump kind name line = then_some (is_mp4 (kind_of name)) (record line { alone = Some (Dumps kind name) })

-- what has been read behind the option of that number and its argument; None where the argument isn't as it must be
abbrev pub with_option : LineOption → List ℕ → ℕ → LineRecord → Option LineRecord
with_option Inter argument place line = option_map (λ window. record line { window = window }) (number_of argument)
with_option Out argument place line = then_some (is_mp4 (kind_of argument)) (record line { out = Some argument; out_command = place })
with_option Info argument place line = with_dump OfInfo argument line
with_option Timeline argument place line = with_dump OfTimeline argument line
with_option Json argument place line = with_dump OfJson argument line
with_option Gen argument place line = option_map (λ n. record line { alone = Some (Generates n) }) (number_in 50 1000000 argument)
with_option option argument place line = with_asked option argument place line

-- the option of a word, by its number on the line, or what is wrong there before the argument is looked at
abbrev pub option_at : Option LineOption → ℕ → LineRecord → Result LineOption WordKind
option_at None place line = Err Unknown
option_at (Some option) place line =
    unless
    (first_some
    (then_some (is_some line.alone || (stands_alone option && not (place == 1))) Mixed
    ∷ then_some (is_out option && is_some line.out) OutTwice
    ∷ []))
    option

abbrev pub or_refused : Option LineRecord → Result LineRecord WordKind
or_refused None = Err Argument
or_refused (Some line) = Ok line

-- an option and its argument
abbrev pub read_option : List ℕ → List ℕ → ℕ → LineRecord → Result LineRecord WordFault
read_option word argument place line =
    at_word (2 * place - 1) (option_at (option_of word) place line)
    >>= (λ option. at_word (2 * place) (or_refused (with_option option argument place line)))

-- the options from that number on: each has two words
abbrev pub options_from : List (List ℕ) → ℕ → LineRecord → Result LineRecord WordFault
options_from [] place line = Ok line
options_from (word ∷ []) place line = at_word (2 * place - 1) (option_at (option_of word) place line >>= (λ _. Err Missing))
options_from (word ∷ argument ∷ words) place line = read_option word argument place line >>= options_from words (place + 1)

-- the files that an option reads
abbrev pub files_of : Asked → List (List ℕ)
files_of (Adds name choice rate) = files_with (kind_of name) name
files_of (Joins name) = name ∷ []
files_of _ = []

abbrev pub reads : List ℕ → CommandRecord → Bool
reads name command = list_any (bytes_eq name) (files_of command.what)

-- behind the last word of a line that writes a file
abbrev pub edit_to : Option (List ℕ) → LineRecord → Result JobRecord WordFault
edit_to None line = Err (0, NoOut)
edit_to (Some out) line =
    if list_any (reads out) line.commands then Err (2 * line.out_command, SameName)
    else Ok (Edits (record { commands = line.commands; out = out; out_command = line.out_command; window = line.window }))

-- behind the last word
abbrev pub job_of : Option JobRecord → LineRecord → Result JobRecord WordFault
job_of None line = edit_to line.out line
job_of (Some job) line = Ok job

abbrev pub whole : LineRecord → Result JobRecord WordFault
whole line = job_of line.alone line

-- the job that the words of a line name
abbrev pub job : List (List ℕ) → Result JobRecord WordFault
job [] = Err (0, Empty)
job words = options_from words 1 nothing >>= whole
