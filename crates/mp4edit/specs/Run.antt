-- What a run may have left behind, at each of its endings.
use Rattle.std.specs.Prelude.{◌≡◌, ◌≢◌, ◌⊎◌, ◌*◌, ℕ, true, false, List, length, Some, None, IfSome, IfNone, IsSomeAnd, Result, Ok, Err, IsOk}
use Rattle.mp_ports.specs.Count.{Rose}
use Rattle.mp_ports.specs.Folder.{FolderState}
use Rattle.mp_ports.specs.Report.{ReportState, Says, FailsToSay}
use Rattle.mp_layout.specs.File.{file_bytes}
use Rattle.mp_layout.specs.Plan.{IsFileOf}
use Rattle.mp4edit.specs.declared.ending.Ending.{Ending}
use Rattle.mp4edit.specs.declared.ending.Ending.TheVariants.{Done, Words, Refused, NoFile, ReadFault, WriteFault, ReportFault, NoMemory}
use Rattle.mp_timeline.specs.Movie.{MovieRecord}
use Rattle.mp_words.specs.declared.job.DumpKind.{DumpKind}
use Rattle.mp_words.specs.Line.{WordFault}
use Rattle.mp_words.specs.Jobs.{CommandRecord, EditRecord, JobRecord, Edits}
use Rattle.mp4edit.specs.Outcome.{Outcome, Movie, Refusal, Absent, IsMovieAnd, dump_outcome, outcome}
use Rattle.mp4edit.specs.Line.{line, text_of}
use Rattle.mp4edit.specs.Roll.{IsSeen, roll}
use Rattle.mp4edit.specs.Written.{IsToldFront, OutputRecord}
use Rattle.mp4edit.specs.Names.{NeedAll, OpensAll, OpensFront, Wanted, held_name, reads}
use Rattle.mp4edit.specs.Reading.{KeepsMisses}

-- each fault has its cause: of the counts only the one of that kind rose, and the files held are the same
pub record HasCauses (ending : Ending) (old new : FolderState) (before after : ReportState) : Type 0 where
  pub read_rose : ending ≡ ReadFault → Rose old.read_faults new.read_faults
  pub write_rose : ending ≡ WriteFault → Rose old.write_faults new.write_faults
  pub report_rose : ending ≡ ReportFault → Rose before.faults after.faults
  pub read_same : ending ≢ ReadFault → new.read_faults ≡ old.read_faults
  pub write_same : ending ≢ WriteFault → new.write_faults ≡ old.write_faults
  pub report_same : ending ≢ ReportFault → after.faults ≡ before.faults
  pub held_same : new.held ≡ old.held

-- a file that is missing and must be there raises the misses; without one they are the same where all must be (`needed`)
abbrev pub RaisesMisses : Type 0 → Ending → FolderState → FolderState → Type 0
RaisesMisses needed (NoFile command) old new = Rose old.misses new.misses
RaisesMisses needed _ old new = KeepsMisses needed old new

-- no option of the job may lack a file
abbrev pub NeedsAllFiles : Result JobRecord WordFault → Type 0
NeedsAllFiles (Ok (Edits edit)) = NeedAll edit.commands
NeedsAllFiles _ = Unit

-- a line that is no job is answered by its first fault, or there is no memory; any other ending is that of a job
abbrev pub AnswersWords : Ending → Result JobRecord WordFault → Type 0
AnswersWords (Words word kind) job = job ≡ Err (word, kind)
AnswersWords NoMemory job = Unit
AnswersWords _ job = IsOk job

-- it is no ending of a line that is no job
abbrev pub IsOfJob : Ending → Type 0
IsOfJob (Words word kind) = ⊥
IsOfJob _ = Unit

-- the folder and the report are as they were
abbrev pub IsUntouched : FolderState → FolderState → ReportState → ReportState → Type 0
IsUntouched old new before after = (new ≡ old) × (after ≡ before)

-- nothing was created, and nothing written
abbrev pub CreatesNothing : FolderState → FolderState → Type 0
CreatesNothing old new = (new.output ≡ None) × (new.written ≡ old.written)

-- at most an unfinished file was created
abbrev pub CreatesAtMost : List ℕ → FolderState → FolderState → Type 0
CreatesAtMost name old new =
    IfSome new.output (λ out. out ≡ record { name = name; finished = false }) × IfNone new.output (new.written ≡ old.written)

-- what was created: the finished file at `Done` and `ReportFault`, at most an unfinished one at `ReadFault` and `WriteFault`,
-- else nothing
abbrev pub Leaves : Ending → List ℕ → FolderState → FolderState → Type 0
Leaves Done name old new = new.output ≡ Some (record { name = name; finished = true })
Leaves ReportFault name old new = new.output ≡ Some (record { name = name; finished = true })
Leaves ReadFault name old new = CreatesAtMost name old new
Leaves WriteFault name old new = CreatesAtMost name old new
Leaves _ name old new = CreatesNothing old new

-- nothing was said, but at `Done` and `ReportFault`
abbrev pub SaysNothing : Ending → ReportState → ReportState → Type 0
SaysNothing Done before after = Unit
SaysNothing ReportFault before after = Unit
SaysNothing _ before after = after.said ≡ before.said

-- where the folder tells what is written, it is the whole file of the outcome's movie, which presents that movie
abbrev pub HasWritten : Outcome → ℕ → FolderState → FolderState → Type 0
HasWritten outcome window old new = IsMovieAnd outcome (λ movie. IfSome old.written (λ _. IsSomeAnd new.written (IsFileOf movie window)))

-- where a file was created, they are a front of it
abbrev pub HasWrittenFront : Outcome → ℕ → FolderState → FolderState → Type 0
HasWrittenFront outcome window old new =
    IsMovieAnd outcome (λ movie. IfSome new.output (λ _. IsToldFront old new (file_bytes movie window)))

-- what an ending says of the job's outcome, and of the bytes that stand written
abbrev pub Tells : Ending → Outcome → ℕ → FolderState → FolderState → Type 0
Tells Done outcome window old new = HasWritten outcome window old new
Tells ReportFault outcome window old new = HasWritten outcome window old new
Tells ReadFault outcome window old new = IfSome new.output (λ _. HasWrittenFront outcome window old new)
Tells WriteFault outcome window old new = HasWrittenFront outcome window old new
Tells (Refused bad) outcome window old new = outcome ≡ Refusal bad
Tells (NoFile command) outcome window old new = outcome ≡ Absent command
Tells _ outcome window old new = Unit

-- what was said: the text of the outcome's movie at `Done`, a front of it at `ReportFault`
abbrev pub SaysText : Ending → Outcome → (MovieRecord → List ℕ) → ReportState → ReportState → Type 0
SaysText Done outcome text before after = IsMovieAnd outcome (λ movie. Says before after (text movie))
SaysText ReportFault outcome text before after = IsMovieAnd outcome (λ movie. FailsToSay before after (text movie))
SaysText _ outcome text before after = after.said ≡ before.said

-- that ending, or want of memory
abbrev pub EndsAt : Ending → Ending → Type 0
EndsAt ending wanted = (ending ≡ wanted) ⊎ (ending ≡ NoMemory)

-- where nothing fails, the outcome decides the ending
abbrev pub Completes : Ending → Outcome → FolderState → FolderState → ReportState → ReportState → Type 0
Completes ending (Movie movie) old new before after =
    ¬ Rose old.read_faults new.read_faults → ¬ Rose old.write_faults new.write_faults → ¬ Rose before.faults after.faults → EndsAt ending Done
Completes ending (Refusal bad) old new before after = ¬ Rose old.read_faults new.read_faults → EndsAt ending (Refused bad)
Completes ending (Absent command) old new before after = ¬ Rose old.read_faults new.read_faults → EndsAt ending (NoFile command)

-- of the held files that are wanted a front was opened, in order, and at `Done` all
pub record OpensInputs (ending : Ending) (wanted : Wanted) (most : ℕ) (old new : FolderState) : Type 0 where
  pub front : OpensFront wanted most old new
  pub all : ending ≡ Done → OpensAll wanted most old new

-- the edit of these commands and this output
abbrev pub edit_of : List CommandRecord → OutputRecord → EditRecord
edit_of commands output = record { commands = commands; out = output.name; out_command = output.command; window = output.window }

-- what a job that writes a file opens, creates and says, by its outcome where the folder tells; and what its file shows at
-- each moment
pub record EndsEdit (ending : Ending) (edit : EditRecord) (old new : FolderState) (before after : ReportState) : Type 0 where
  pub inputs : OpensInputs ending (reads edit.commands) (3 * length edit.commands) old new
  pub left : Leaves ending edit.out old new
  pub told : IfSome old.held (λ files. Tells ending (outcome edit files) edit.window old new)
  pub said : IfSome old.held (λ files. SaysText ending (outcome edit files) (λ movie. line edit.out movie edit.window) before after)
  pub complete : IfSome old.held (λ files. Completes ending (outcome edit files) old new before after)
  pub seen : IfSome old.held (λ files. IsSeen ending (roll files edit.commands) old new)

-- a refusal, or a file that is missing, is the outcome
abbrev pub TellsFault : Ending → Outcome → Type 0
TellsFault (Refused bad) outcome = outcome ≡ Refusal bad
TellsFault (NoFile command) outcome = outcome ≡ Absent command
TellsFault _ outcome = Unit

-- it is no failed write
abbrev pub IsNoWriteFault : Ending → Type 0
IsNoWriteFault WriteFault = ⊥
IsNoWriteFault _ = Unit

-- what a job that tells of a file opens and says: it creates nothing, and no write of it can fail
pub record EndsDump (ending : Ending) (kind : DumpKind) (name : List ℕ) (old new : FolderState) (before after : ReportState) : Type 0 where
  pub inputs : OpensInputs ending (held_name name) 1 old new
  pub unwritten : IsNoWriteFault ending
  pub left : CreatesNothing old new
  pub told : IfSome old.held (λ files. TellsFault ending (dump_outcome name files))
  pub said : IfSome old.held (λ files. SaysText ending (dump_outcome name files) (text_of kind) before after)
  pub complete : IfSome old.held (λ files. Completes ending (dump_outcome name files) old new before after)
