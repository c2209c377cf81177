-- How a job ends, by what it comes to.
use Rattle.std.proofs.Common.{◌≡◌, ◌≤◌, ℕ, List, [], Option, Some, None, Err, IfSome, IsSomeAnd, length, inl, inr, refl, sym, subst, ap, ◌∙◌, arith}
use Rattle.std.proofs.lemmas.List.Elements.{All-nil}
use Rattle.mp_ports.specs.Count.{Rose, after_fault}
use Rattle.mp_ports.specs.Folder.{FolderState, HeldFile, OpenedFile, Output}
use Rattle.mp_ports.specs.Report.{FailsToSay, ReportState}
use Rattle.mp_movie.specs.Placed.{PlacedMovie}
use Rattle.mp_movie.specs.StandsFor.{stands_for}
use Rattle.mp4edit.specs.declared.ending.Ending.{Ending}
use Rattle.mp4edit.specs.declared.stop.Stop.{Stop}
use Rattle.mp4edit.specs.Outcome.{Outcome, Absent, Movie, Refusal}
use Rattle.mp4edit.specs.Reading.{AllTold, Gives, KeepsRest, told_files}
use Rattle.mp4edit.specs.Run.{Completes, EndsAt, HasWrittenFront, Tells, TellsFault}
use Rattle.mp4edit.specs.Status.{ending_of}

-- where nothing is opened, all that is opened is told, and so it is at the end
pub told_at_end : (held : Option (List HeldFile)) (s t : FolderState) → s.opened ≡ [] → IfSome held (λ _. AllTold s → AllTold t) → IfSome held (λ _. AllTold t)
told_at_end None s t none later = tt
told_at_end (Some files) s t none later = later (all_of s.opened none)
  where
    all_of : (opened : List OpenedFile) → opened ≡ [] → AllTold (record s { opened = opened })
    all_of opened none = rw none (All-nil (λ (file : OpenedFile). IsSomeAnd file.bytes (λ bytes. file.size ≡ length bytes)))

-- where there is no movie, a refusal or a missing file is what the job comes to
pub stop_tells : {A : Type 0} (movie_in : A → PlacedMovie) (held : Option (List HeldFile)) (outcome_by : List HeldFile → Outcome) (stop : Stop) (s : FolderState)
    → IfSome held (λ files. Gives movie_in (Err stop) s (outcome_by files)) → IfSome held (λ files. TellsFault (ending_of stop) (outcome_by files))
stop_tells movie_in None outcome_by stop s gives = tt
stop_tells movie_in (Some files) outcome_by (Stop.Bad bad) s gives = gives
stop_tells movie_in (Some files) outcome_by (Stop.Missing command) s gives = gives
stop_tells movie_in (Some files) outcome_by Stop.ReadFault s gives = tt
stop_tells movie_in (Some files) outcome_by Stop.NoMemory s gives = tt

-- so is it of a job that writes, which has created nothing then
pub stop_is_told : {A : Type 0} (movie_in : A → PlacedMovie) (held : Option (List HeldFile)) (outcome_by : List HeldFile → Outcome) (stop : Stop) (window : ℕ) (old new : FolderState)
    → old.output ≡ None → KeepsRest {A = A} (Err stop) old new → IfSome held (λ files. Gives movie_in (Err stop) new (outcome_by files))
    → IfSome held (λ files. Tells (ending_of stop) (outcome_by files) window old new)
stop_is_told movie_in None outcome_by stop window old new none rest gives = tt
stop_is_told movie_in (Some files) outcome_by (Stop.Bad bad) window old new none rest gives = gives
stop_is_told movie_in (Some files) outcome_by (Stop.Missing command) window old new none rest gives = gives
stop_is_told movie_in (Some files) outcome_by Stop.ReadFault window old new none rest gives =
    of_none new.output (HasWrittenFront (outcome_by files) window old new) (ap (λ (s : FolderState). s.output) rest ∙ none)
  where
    of_none : (output : Option Output) (P : Type 0) → output ≡ None → IfSome output (λ _. P)
    of_none output P is = rw is tt
stop_is_told movie_in (Some files) outcome_by Stop.NoMemory window old new none rest gives = tt

-- a failed read may end any job
read_fault_ends : (outcome : Outcome) (old new : FolderState) (before after : ReportState) → Rose old.read_faults new.read_faults → Completes Ending.ReadFault outcome old new before after
read_fault_ends (Movie movie) old new before after rose = λ read write report. absurd (read rose)
read_fault_ends (Refusal bad) old new before after rose = λ read. absurd (read rose)
read_fault_ends (Absent command) old new before after rose = λ read. absurd (read rose)

-- and so may want of memory
pub no_memory_ends : (outcome : Outcome) (old new : FolderState) (before after : ReportState) → Completes Ending.NoMemory outcome old new before after
no_memory_ends (Movie movie) old new before after = λ read write report. inr refl
no_memory_ends (Refusal bad) old new before after = λ read. inr refl
no_memory_ends (Absent command) old new before after = λ read. inr refl

at_least : (least n : ℕ) → n ≡ least → least ≤ n
at_least least n is = omega (arith, is)

pub rose_by : (before now : ℕ) → now ≡ after_fault before → Rose before now
rose_by before now is = at_least (after_fault before) now is

-- where there is no movie, what the job comes to decides how it ends
pub stop_completes : {A : Type 0} (movie_in : A → PlacedMovie) (held : Option (List HeldFile)) (outcome_by : List HeldFile → Outcome) (stop : Stop) (old new : FolderState) (before after : ReportState)
    → IfSome held (λ files. Gives movie_in (Err stop) new (outcome_by files)) → KeepsRest {A = A} (Err stop) old new
    → IfSome held (λ files. Completes (ending_of stop) (outcome_by files) old new before after)
stop_completes movie_in None outcome_by stop old new before after gives rest = tt
stop_completes movie_in (Some files) outcome_by (Stop.Bad bad) old new before after gives rest =
    subst (λ (o : Outcome). Completes (Ending.Refused bad) o old new before after) (sym gives) (λ read. inl refl)
stop_completes movie_in (Some files) outcome_by (Stop.Missing command) old new before after gives rest =
    subst (λ (o : Outcome). Completes (Ending.NoFile command) o old new before after) (sym gives) (λ read. inl refl)
stop_completes movie_in (Some files) outcome_by Stop.ReadFault old new before after gives rest =
    read_fault_ends (outcome_by files) old new before after (rose_by old.read_faults new.read_faults (ap (λ (s : FolderState). s.read_faults) rest))
stop_completes movie_in (Some files) outcome_by Stop.NoMemory old new before after gives rest = no_memory_ends (outcome_by files) old new before after

-- a job that comes to a movie ends `Done`, unless something failed or there was no memory
pub movie_completes : (held : Option (List HeldFile)) (outcome_by : List HeldFile → Outcome) (s : FolderState) (movie : PlacedMovie) (ending : Ending) (old new : FolderState) (before after : ReportState)
    → IfSome held (λ files. outcome_by files ≡ Movie (stands_for (told_files s) movie))
    → (¬ Rose old.read_faults new.read_faults → ¬ Rose old.write_faults new.write_faults → ¬ Rose before.faults after.faults → EndsAt ending Ending.Done)
    → IfSome held (λ files. Completes ending (outcome_by files) old new before after)
movie_completes None outcome_by s movie ending old new before after is ends = tt
movie_completes (Some files) outcome_by s movie ending old new before after is ends = subst (λ (o : Outcome). Completes ending o old new before after) (sym is) ends

-- a report that failed has risen
pub report_rose : (before after : ReportState) (text : List ℕ) → FailsToSay before after text → Rose before.faults after.faults
report_rose before after text fails = rose_by before.faults after.faults (ap (λ (r : ReportState). r.faults) fails.state)
