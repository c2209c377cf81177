-- What a run says of the job that its words name.
use Rattle.std.proofs.Common.{◌≡◌, ℕ, List, Option, Some, None, Result, Ok, Err, IfSome, refl, sym, subst, ap, arith}
use Rattle.mp_ports.specs.Folder.{FolderState, HeldFile}
use Rattle.mp_ports.specs.Report.{ReportState}
use Rattle.mp_words.specs.declared.job.DumpKind.{DumpKind}
use Rattle.mp_words.specs.Jobs.{EditRecord, JobRecord, Edits, Dumps, Generates}
use Rattle.mp_words.specs.Line.{WordFault}
use Rattle.mp4edit.specs.declared.ending.Ending.{Ending}
use Rattle.mp4edit.specs.Line.{text_of}
use Rattle.mp4edit.specs.Names.{NeedAll, held_name}
use Rattle.mp4edit.specs.Outcome.{dump_outcome}
use Rattle.mp4edit.specs.Run.{Completes, EndsDump, EndsEdit, NeedsAllFiles, RaisesMisses, SaysText, TellsFault}
use Rattle.mp4edit.specs.Status.{status}
use Rattle.mp4edit.specs.Words.{IfDumps, IfEdits}
use Rattle.mp4edit.proofs.Endings.{no_memory_ends}
use Rattle.mp4edit.proofs.Inputs.{opens_none}

-- of an edit
pub edit_ends : (wanted : Result JobRecord WordFault) (edit : EditRecord) (ending : Ending) (old new : FolderState) (before after : ReportState)
    → wanted ≡ Ok (Edits edit) → EndsEdit ending edit old new before after → IfEdits wanted (λ edit. EndsEdit ending edit old new before after)
edit_ends wanted edit ending old new before after is ends = rw is ends

pub edit_misses : (wanted : Result JobRecord WordFault) (edit : EditRecord) (ending : Ending) (old new : FolderState)
    → wanted ≡ Ok (Edits edit) → RaisesMisses (NeedAll edit.commands) ending old new → RaisesMisses (NeedsAllFiles wanted) ending old new
edit_misses wanted edit ending old new is misses = subst (λ (w : Result JobRecord WordFault). RaisesMisses (NeedsAllFiles w) ending old new) (sym is) misses

-- of a dump
pub dump_ends : (wanted : Result JobRecord WordFault) (kind : DumpKind) (name : List ℕ) (ending : Ending) (old new : FolderState) (before after : ReportState)
    → wanted ≡ Ok (Dumps kind name) → EndsDump ending kind name old new before after → IfDumps wanted (λ kind name. EndsDump ending kind name old new before after)
dump_ends wanted kind name ending old new before after is ends = rw is ends

each : (held : Option (List HeldFile)) (P : List HeldFile → Type 0) → ((files : List HeldFile) → P files) → IfSome held P
each None P all = tt
each (Some files) P all = all files

not_done : {A : Type 0} → Ending.NoMemory ≡ Ending.Done → A
not_done is = let number : 7 ≡ 0 = ap status is in absurd (omega (arith, number))

-- of a dump for which there was no memory before its file was opened
pub dump_is_not_begun : (wanted : Result JobRecord WordFault) (s : FolderState) (r : ReportState) → s.output ≡ None → IfDumps wanted (λ kind name. EndsDump Ending.NoMemory kind name s s r r)
dump_is_not_begun (Err fault) s r none = tt
dump_is_not_begun (Ok (Edits edit)) s r none = tt
dump_is_not_begun (Ok (Generates n)) s r none = tt
dump_is_not_begun (Ok (Dumps kind name)) s r none = record {
  inputs = record { front = opens_none (held_name name) 1 s s refl; all = λ is. not_done is };
  unwritten = tt;
  left = (none, refl);
  told = each s.held (λ files. TellsFault Ending.NoMemory (dump_outcome name files)) (λ files. tt);
  said = each s.held (λ files. SaysText Ending.NoMemory (dump_outcome name files) (text_of kind) r r) (λ files. refl);
  complete = each s.held (λ files. Completes Ending.NoMemory (dump_outcome name files) s s r r) (λ files. no_memory_ends (dump_outcome name files) s s r r);
}
