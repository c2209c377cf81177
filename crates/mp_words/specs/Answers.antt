-- What the calls answer.
use Rattle.std.specs.Prelude.{◌≡◌, ℕ, ◌*◌, Option, Some, None, Result, Ok, Err, string_bytes}
use Rattle.mp_words.specs.declared.fault.WordFail.{WordFail}
use Rattle.mp_words.specs.declared.fault.WordFail.TheVariants.{Words, NoMemory}
use Rattle.mp_words.specs.declared.fault.WordKind.TheVariants.{Argument}
use Rattle.mp_words.specs.declared.job.Job.{Job}
use Rattle.mp_words.specs.declared.job.Job.TheVariants.{Edit, Dump, Gen}
use Rattle.mp_words.specs.Jobs.{JobRecord, Edits, Dumps, Generates}
use Rattle.mp_words.specs.Line.{LineRecord, WordFault}

-- a job as a record
abbrev pub job_record : Job → JobRecord
job_record (Edit commands out out_command window) =
    Edits (record { commands = commands.items; out = string_bytes out; out_command = out_command; window = window })
job_record (Dump kind name) = Dumps kind (string_bytes name)
job_record (Gen n) = Generates n

-- the job of the line, or its first fault, or want of memory
abbrev pub GivesJob : Result Job WordFail → Result JobRecord WordFault → Type 0
GivesJob (Ok job) wanted = wanted ≡ Ok (job_record job)
GivesJob (Err (Words word kind)) wanted = wanted ≡ Err (word, kind)
GivesJob (Err NoMemory) wanted = Unit

-- the line that was read, or its first fault, or want of memory
abbrev pub GivesLine : Result LineRecord WordFail → Result LineRecord WordFault → Type 0
GivesLine (Ok line) wanted = wanted ≡ Ok line
GivesLine (Err (Words word kind)) wanted = wanted ≡ Err (word, kind)
GivesLine (Err NoMemory) wanted = Unit

-- the line with the option of that number; as it was where the argument is refused, or for want of memory
abbrev pub Takes : Result Unit WordFail → LineRecord → LineRecord → ℕ → Option LineRecord → Type 0
Takes (Ok _) old new place wanted = wanted ≡ Some new
Takes (Err (Words word kind)) old new place wanted = (wanted ≡ None) × (word ≡ 2 * place) × (kind ≡ Argument) × (new ≡ old)
Takes (Err NoMemory) old new place wanted = new ≡ old
