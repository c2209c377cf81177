-- What a line asks for, as records of numbers and texts.
use Rattle.std.specs.Prelude.{◌≤◌, ◌*◌, ℕ, ℤ, Bool, All, List, [], Option, Some, None, string_bytes}
use Rattle.mp_frac.specs.declared.time.Frac.{Frac}
use Rattle.mp_clip.specs.Clipped.{IsRange}
use Rattle.track_ops.specs.declared.chosen.Choice.{Choice}
use Rattle.mp_words.specs.declared.job.DumpKind.{DumpKind}
use Rattle.mp_words.specs.declared.job.Rate.{Rate}
use Rattle.mp_words.specs.declared.job.What.{What}
use Rattle.mp_words.specs.declared.job.What.TheVariants.{Add, Cat, Rem, Delay, Cut, TrackScale, MovieScale, Lang, Enabled}

-- what an option asks for
pub data Asked : Type 0 where
  Adds : List ℕ → Choice → Option Rate → Asked
  Joins : List ℕ → Asked
  Removes : ℕ → Asked
  Delays : ℕ → ℤ → Asked
  Cuts : Frac → Frac → Asked
  ScalesTrack : ℕ → ℕ → Asked
  ScalesMovie : ℕ → Asked
  SetsLanguage : ℕ → List ℕ → Asked
  Enables : ℕ → Bool → Asked

-- as it stands in a command
abbrev pub asked : What → Asked
asked (Add name choice rate) = Adds (string_bytes name) choice rate
asked (Cat name) = Joins (string_bytes name)
asked (Rem number) = Removes number
asked (Delay number ms) = Delays number ms
asked (Cut from to) = Cuts from to
asked (TrackScale number scale) = ScalesTrack number scale
asked (MovieScale scale) = ScalesMovie scale
asked (Lang number letters) = SetsLanguage number letters
asked (Enabled number on) = Enables number on

-- a rate is of some pictures in some seconds
abbrev pub IsRate : Option Rate → Type 0
IsRate None = Unit
IsRate (Some rate) = (1 ≤ rate.num) × (1 ≤ rate.den)

-- what a line can ask for: rates and scales aren't 0, no time is before 0, letters are `a` to `z`
abbrev pub IsAsked : Asked → Type 0
IsAsked (Adds name choice rate) = IsRate rate
IsAsked (Cuts from to) = IsRange from to
IsAsked (ScalesTrack number scale) = 1 ≤ scale
IsAsked (ScalesMovie scale) = 1 ≤ scale
IsAsked (SetsLanguage number letters) = All (λ letter. (97 ≤ letter) × (letter ≤ 122)) letters
IsAsked _ = Unit

-- what an option asks for, and the option's number on the line, counted from 1
pub record CommandRecord : Type 0 where
  pub place : ℕ
  pub what : Asked

-- the option and its argument are among so many words
pub record IsCommand (words : ℕ) (command : CommandRecord) : Type 0 where
  pub number : 1 ≤ command.place
  pub argument : 2 * command.place ≤ words
  pub asked : IsAsked command.what

-- the commands, the output's name and its option's number, and the window in milliseconds (0: one for all)
pub record EditRecord : Type 0 where
  pub commands : List CommandRecord
  pub out : List ℕ
  pub out_command : ℕ
  pub window : ℕ

-- an edit that is written, a dump of a file, or files of so many pictures that are generated
pub data JobRecord : Type 0 where
  Edits : EditRecord → JobRecord
  Dumps : DumpKind → List ℕ → JobRecord
  Generates : ℕ → JobRecord

-- the commands of a job
abbrev pub commands_of : JobRecord → List CommandRecord
commands_of (Edits edit) = edit.commands
commands_of _ = []
