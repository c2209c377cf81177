use Rattle.std.proofs.Common.{rules, ◌≡◌, ◌∙◌, ℕ, List, length, sym, subst, ap, Err}
use Rattle.mp_ports.specs.Count.{after_fault}
use Rattle.mp_ports.specs.Folder.{FolderState}
use Rattle.mp_ports.specs.Report.{FailsToSay, Says}
use Rattle.mp_movie.specs.Placed.{PlacedMovie, sample_count}
use Rattle.mp_layout.specs.Plan.{FilePlanRecord}
use Rattle.mp4edit.specs.declared.ending.Ending.{Ending}
use Rattle.mp4edit.specs.Line.{line, wrote}
use Rattle.mp4edit.specs.Names.{NeedAll}
use Rattle.mp4edit.specs.Outcome.{outcome}
use Rattle.mp4edit.specs.Reading.{told_files}
use Rattle.mp4edit.specs.Roll.{roll}
use Rattle.mp4edit.specs.Run.{SaysText, Tells, edit_of}
use Rattle.mp4edit.proofs.Endings.{movie_completes, report_rose, rose_by, stop_completes, stop_is_told}
use Rattle.mp4edit.proofs.FilesInTurn.{misses_still}
use Rattle.mp4edit.proofs.Outcomes.{created_front, front_is_told, line_is, of_outcome, written_is_told}
use Rattle.mp4edit.proofs.Rolls.{is_seen, stop_is_seen}
use Rattle.mp4edit.proofs.edit.write_movie.Goals as goal

-- the options make no movie
pub returns-in-Err-clause-ends : goal.returns-in-Err-clause-ends
returns-in-Err-clause-ends g c =
    let s = g.F.Folder.state c.args.folder.now in
    let t = g.F.Folder.state c.plan_movie.new.folder in
    let edit = edit_of c.args.commands.now c.args.output in
    let first = λ (planned : PlacedMovie × FilePlanRecord). planned.0 in
    record {
      inputs = search rules;
      left = search rules;
      told = rw c.ending.ensures (stop_is_told first s.held (outcome edit) c.in-Err.stop edit.window s t c.requires.output c.in-Err.ensures.folder.rest c.in-Err.ensures.movie);
      said = search rules;
      complete = rw c.ending.ensures (stop_completes first s.held (outcome edit) c.in-Err.stop s t _ _ c.in-Err.ensures.movie c.in-Err.ensures.folder.rest);
      seen = rw c.ending.ensures (stop_is_seen s.held (λ files. roll files edit.commands) c.in-Err.stop s t);
    }

-- a read failed behind the creation
pub returns-in-Err-ReadFault-clause-ends : goal.returns-in-Err-ReadFault-clause-ends
returns-in-Err-ReadFault-clause-ends g c =
    let held = (g.F.Folder.state c.args.folder.now).held in
    let s = g.F.Folder.state c.plan_movie.new.folder in
    let new = g.F.Folder.state c.write_file.new.folder in
    let old = g.F.Folder.state c.args.folder.now in
    let same : s.written ≡ old.written = ap (λ (x : FolderState). x.written) c.in-Ok.ensures.folder.rest in
    let edit = edit_of c.args.commands.now c.args.output in
    let report = g.R.Report.state c.args.report.now in
    let stopped = c.in-Err-ReadFault.ensures.read _ c.in-Ok.ensures.plan (ap Err c.in-Err-ReadFault.field-0-is) in
    let is : new.read_faults ≡ after_fault old.read_faults =
    ap (λ (x : FolderState). x.read_faults) stopped.state ∙ ap (λ (x : FolderState). after_fault x.read_faults) c.in-Ok.ensures.folder.rest in
    record {
      inputs = search rules;
      left = search rules;
      told = of_outcome held s c.in-Ok.planned.0 (outcome edit) (λ o. Tells Ending.ReadFault o c.args.output.window old new) c.in-Ok.ensures.movie c.in-Ok.ensures.told c.in-Ok.ensures.held
          (λ told. created_front old s new _ _ _ same told stopped.left);
      said = search rules;
      complete = movie_completes old.held (outcome edit) s c.in-Ok.planned.0 Ending.ReadFault old new report report c.in-Ok.ensures.movie (λ read write report. absurd (read (rose_by old.read_faults new.read_faults is)));
      seen = search rules;
    }

-- writing failed
pub returns-in-Err-WriteFault-clause-ends : goal.returns-in-Err-WriteFault-clause-ends
returns-in-Err-WriteFault-clause-ends g c =
    let held = (g.F.Folder.state c.args.folder.now).held in
    let s = g.F.Folder.state c.plan_movie.new.folder in
    let new = g.F.Folder.state c.write_file.new.folder in
    let old = g.F.Folder.state c.args.folder.now in
    let same : s.written ≡ old.written = ap (λ (x : FolderState). x.written) c.in-Ok.ensures.folder.rest in
    let edit = edit_of c.args.commands.now c.args.output in
    let report = g.R.Report.state c.args.report.now in
    let stopped = c.in-Err-WriteFault.ensures.write _ c.in-Ok.ensures.plan (ap Err c.in-Err-WriteFault.field-0-is) in
    let is : new.write_faults ≡ after_fault old.write_faults =
    ap (λ (x : FolderState). x.write_faults) stopped.state ∙ ap (λ (x : FolderState). after_fault x.write_faults) c.in-Ok.ensures.folder.rest in
    record {
      inputs = search rules;
      left = search rules;
      told = of_outcome held s c.in-Ok.planned.0 (outcome edit) (λ o. Tells Ending.WriteFault o c.args.output.window old new) c.in-Ok.ensures.movie c.in-Ok.ensures.told c.in-Ok.ensures.held
          (λ told. front_is_told old s new _ _ _ same told stopped.left);
      said = search rules;
      complete = movie_completes old.held (outcome edit) s c.in-Ok.planned.0 Ending.WriteFault old new report report c.in-Ok.ensures.movie (λ read write report. absurd (write (rose_by old.write_faults new.write_faults is)));
      seen = search rules;
    }

-- the report failed: the file is whole
pub returns-then-is_err-clause-ends : goal.returns-then-is_err-clause-ends
returns-then-is_err-clause-ends g c =
    let held = (g.F.Folder.state c.args.folder.now).held in
    let s = g.F.Folder.state c.plan_movie.new.folder in
    let new = g.F.Folder.state c.write_file.new.folder in
    let old = g.F.Folder.state c.args.folder.now in
    let same : s.written ≡ old.written = ap (λ (x : FolderState). x.written) c.in-Ok.ensures.folder.rest in
    let edit = edit_of c.args.commands.now c.args.output in
    let before = g.R.Report.state c.args.report.now in
    let after = g.R.Report.state c.say.new.self in
    let planned = c.in-Ok.planned in
    let name = c.args.output.name in
    let said : FailsToSay before after (wrote name (length planned.0.tracks) (sample_count planned.0.tracks) planned.1.length) = search rules in
    let whole = c.in-Ok-write_file.ensures.whole _ c.in-Ok.ensures.plan in
    record {
      inputs = search rules;
      left = search rules;
      told = of_outcome held s planned.0 (outcome edit) (λ o. Tells Ending.ReportFault o c.args.output.window old new) c.in-Ok.ensures.movie c.in-Ok.ensures.told c.in-Ok.ensures.held
          (λ told. written_is_told old s new _ _ _ _ same c.in-Ok.ensures.plan told whole);
      said = of_outcome held s planned.0 (outcome edit) (λ o. SaysText Ending.ReportFault o (λ m. line name m c.args.output.window) before after) c.in-Ok.ensures.movie c.in-Ok.ensures.told c.in-Ok.ensures.held
          (λ told. subst (λ (text : List ℕ). FailsToSay before after text) (sym (line_is (told_files s) planned.0 planned.1 _ _ told.hold c.in-Ok.ensures.plan)) said);
      complete = movie_completes old.held (outcome edit) s planned.0 Ending.ReportFault old new before after c.in-Ok.ensures.movie (λ read write report. absurd (report (report_rose before after _ said)));
      seen = is_seen held s old new planned.0 c.args.output.window (λ files. roll files c.args.commands.now) c.in-Ok.ensures.told c.in-Ok.ensures.held c.in-Ok.ensures.seen
          (λ told. written_is_told old s new _ _ _ _ same c.in-Ok.ensures.plan told whole);
    }

-- all is done
pub returns-clause-ends : goal.returns-clause-ends
returns-clause-ends g c =
    let held = (g.F.Folder.state c.args.folder.now).held in
    let s = g.F.Folder.state c.plan_movie.new.folder in
    let new = g.F.Folder.state c.write_file.new.folder in
    let old = g.F.Folder.state c.args.folder.now in
    let same : s.written ≡ old.written = ap (λ (x : FolderState). x.written) c.in-Ok.ensures.folder.rest in
    let edit = edit_of c.args.commands.now c.args.output in
    let before = g.R.Report.state c.args.report.now in
    let after = g.R.Report.state c.say.new.self in
    let planned = c.in-Ok.planned in
    let name = c.args.output.name in
    let said : Says before after (wrote name (length planned.0.tracks) (sample_count planned.0.tracks) planned.1.length) = search rules in
    let whole = c.in-Ok-write_file.ensures.whole _ c.in-Ok.ensures.plan in
    record {
      inputs = search rules;
      left = search rules;
      told = of_outcome held s planned.0 (outcome edit) (λ o. Tells Ending.Done o c.args.output.window old new) c.in-Ok.ensures.movie c.in-Ok.ensures.told c.in-Ok.ensures.held
          (λ told. written_is_told old s new _ _ _ _ same c.in-Ok.ensures.plan told whole);
      said = of_outcome held s planned.0 (outcome edit) (λ o. SaysText Ending.Done o (λ m. line name m c.args.output.window) before after) c.in-Ok.ensures.movie c.in-Ok.ensures.told c.in-Ok.ensures.held
          (λ told. subst (λ (text : List ℕ). Says before after text) (sym (line_is (told_files s) planned.0 planned.1 _ _ told.hold c.in-Ok.ensures.plan)) said);
      complete = search rules;
      seen = is_seen held s old new planned.0 c.args.output.window (λ files. roll files c.args.commands.now) c.in-Ok.ensures.told c.in-Ok.ensures.held c.in-Ok.ensures.seen
          (λ told. written_is_told old s new _ _ _ _ same c.in-Ok.ensures.plan told whole);
    }

-- the plan is that of the movie
pub write_file-requires-clause-plan : goal.write_file-requires-clause-plan
write_file-requires-clause-plan g c = record { millis = c.args.output.window; is = c.in-Ok.ensures.plan }

pub returns-in-Err-ReadFault-clause-misses : goal.returns-in-Err-ReadFault-clause-misses
returns-in-Err-ReadFault-clause-misses g c =
    let s = g.F.Folder.state c.plan_movie.new.folder in
    let new = g.F.Folder.state c.write_file.new.folder in
    let old = g.F.Folder.state c.args.folder.now in
    misses_still (NeedAll c.args.commands.now) old s new c.in-Ok.ensures.folder.misses (ap (λ (x : FolderState). x.misses) (c.in-Err-ReadFault.ensures.read _ c.in-Ok.ensures.plan (ap Err c.in-Err-ReadFault.field-0-is)).state)

pub returns-in-Err-WriteFault-clause-misses : goal.returns-in-Err-WriteFault-clause-misses
returns-in-Err-WriteFault-clause-misses g c =
    let s = g.F.Folder.state c.plan_movie.new.folder in
    let new = g.F.Folder.state c.write_file.new.folder in
    let old = g.F.Folder.state c.args.folder.now in
    misses_still (NeedAll c.args.commands.now) old s new c.in-Ok.ensures.folder.misses (ap (λ (x : FolderState). x.misses) (c.in-Err-WriteFault.ensures.write _ c.in-Ok.ensures.plan (ap Err c.in-Err-WriteFault.field-0-is)).state)

pub returns-then-is_err-clause-misses : goal.returns-then-is_err-clause-misses
returns-then-is_err-clause-misses g c =
    let s = g.F.Folder.state c.plan_movie.new.folder in
    let new = g.F.Folder.state c.write_file.new.folder in
    let old = g.F.Folder.state c.args.folder.now in
    misses_still (NeedAll c.args.commands.now) old s new c.in-Ok.ensures.folder.misses (ap (λ (x : FolderState). x.misses) (c.in-Ok-write_file.ensures.whole _ c.in-Ok.ensures.plan).state)

pub returns-clause-misses : goal.returns-clause-misses
returns-clause-misses g c =
    let s = g.F.Folder.state c.plan_movie.new.folder in
    let new = g.F.Folder.state c.write_file.new.folder in
    let old = g.F.Folder.state c.args.folder.now in
    misses_still (NeedAll c.args.commands.now) old s new c.in-Ok.ensures.folder.misses (ap (λ (x : FolderState). x.misses) (c.in-Ok-write_file.ensures.whole _ c.in-Ok.ensures.plan).state)
