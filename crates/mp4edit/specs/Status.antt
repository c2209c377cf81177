-- The status of an ending.
use Rattle.std.specs.Prelude.{◌≡◌, ℕ, Result}
use Rattle.mp4edit.specs.declared.ending.Ending.{Ending}
use Rattle.mp4edit.specs.declared.ending.Ending.TheVariants.{Done, Words, Refused, NoFile, ReadFault, WriteFault, ReportFault, NoMemory}
use Rattle.mp_words.specs.Jobs.{JobRecord}
use Rattle.mp_words.specs.Line.{WordFault}
use Rattle.mp4edit.specs.declared.stop.Stop.{Stop}
use Rattle.mp4edit.specs.declared.stop.Stop.TheVariants.{Missing, Bad, ReadFault as Fails, NoMemory as NoRoom}
use Rattle.mp4edit.specs.Run.{AnswersWords}

-- what the program ends with
abbrev pub status : Ending → ℕ
status Done = 0
status (Words word kind) = 1
status (Refused bad) = 2
status (NoFile command) = 3
status ReadFault = 4
status WriteFault = 5
status ReportFault = 6
status NoMemory = 7

-- the status of an ending that the line may have
pub record IsStatusOf (number : ℕ) (job : Result JobRecord WordFault) : Type 0 where
  pub ending : Ending
  pub answers : AnswersWords ending job
  pub status_is : number ≡ status ending

-- how a run ends whose options give no movie
abbrev pub ending_of : Stop → Ending
ending_of (Missing command) = NoFile command
ending_of (Bad bad) = Refused bad
ending_of Fails = ReadFault
ending_of NoRoom = NoMemory
