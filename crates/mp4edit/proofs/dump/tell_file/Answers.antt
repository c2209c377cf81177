use Rattle.std.proofs.Common.{rules, ℕ, List, inl, refl, subst}
use Rattle.mp_ports.specs.Report.{FailsToSay, Says}
use Rattle.mp4edit.specs.declared.ending.Ending.{Ending}
use Rattle.mp4edit.specs.Line.{text_of}
use Rattle.mp4edit.specs.Outcome.{dump_outcome}
use Rattle.mp4edit.specs.Run.{SaysText}
use Rattle.mp4edit.proofs.Endings.{movie_completes, report_rose, stop_completes, stop_tells, told_at_end}
use Rattle.mp4edit.proofs.Outcomes.{of_outcome}
use Rattle.mp4edit.proofs.dump.tell_file.Goals as goal

-- there is no movie
pub returns-in-Err-clause-told : goal.returns-in-Err-clause-told
returns-in-Err-clause-told g c =
    let s = g.F.Folder.state c.args.folder.now in
    let t = g.F.Folder.state c.read_file.new.folder in
    rw c.ending.ensures (stop_tells (λ movie. movie) s.held (dump_outcome c.args.name.now) c.in-Err.stop t c.in-Err.ensures.movie)

pub returns-in-Err-clause-complete : goal.returns-in-Err-clause-complete
returns-in-Err-clause-complete g c =
    let s = g.F.Folder.state c.args.folder.now in
    let t = g.F.Folder.state c.read_file.new.folder in
    rw c.ending.ensures (stop_completes (λ movie. movie) s.held (dump_outcome c.args.name.now) c.in-Err.stop s t _ _ c.in-Err.ensures.movie c.in-Err.ensures.folder.rest)

-- the report failed
pub returns-then-is_err-clause-said : goal.returns-then-is_err-clause-said
returns-then-is_err-clause-said g c =
    let s = g.F.Folder.state c.args.folder.now in
    let t = g.F.Folder.state c.read_file.new.folder in
    let before = g.R.Report.state c.args.report.now in
    let after = g.R.Report.state c.say.new.self in
    let said : FailsToSay before after c.in-Ok-text_of.text.items = search rules in
    of_outcome s.held t c.in-Ok.movie (dump_outcome c.args.name.now) (λ o. SaysText Ending.ReportFault o (text_of c.args.kind) before after)
    c.in-Ok.ensures.movie (told_at_end s.held s t c.requires.opened c.in-Ok.ensures.folder.told) c.in-Ok.ensures.held
    (λ told. subst (λ (text : List ℕ). FailsToSay before after text) (c.in-Ok-text_of.ensures _ told.hold) said)

pub returns-then-is_err-clause-complete : goal.returns-then-is_err-clause-complete
returns-then-is_err-clause-complete g c =
    let s = g.F.Folder.state c.args.folder.now in
    let t = g.F.Folder.state c.read_file.new.folder in
    let before = g.R.Report.state c.args.report.now in
    let after = g.R.Report.state c.say.new.self in
    let said : FailsToSay before after c.in-Ok-text_of.text.items = search rules in
    movie_completes s.held (dump_outcome c.args.name.now) t c.in-Ok.movie Ending.ReportFault s t before after c.in-Ok.ensures.movie
    (λ read write report. absurd (report (report_rose before after _ said)))

-- all is done
pub returns-clause-said : goal.returns-clause-said
returns-clause-said g c =
    let s = g.F.Folder.state c.args.folder.now in
    let t = g.F.Folder.state c.read_file.new.folder in
    let before = g.R.Report.state c.args.report.now in
    let after = g.R.Report.state c.say.new.self in
    let said : Says before after c.in-Ok-text_of.text.items = search rules in
    of_outcome s.held t c.in-Ok.movie (dump_outcome c.args.name.now) (λ o. SaysText Ending.Done o (text_of c.args.kind) before after)
    c.in-Ok.ensures.movie (told_at_end s.held s t c.requires.opened c.in-Ok.ensures.folder.told) c.in-Ok.ensures.held
    (λ told. subst (λ (text : List ℕ). Says before after text) (c.in-Ok-text_of.ensures _ told.hold) said)

pub returns-clause-complete : goal.returns-clause-complete
returns-clause-complete g c =
    let s = g.F.Folder.state c.args.folder.now in
    let t = g.F.Folder.state c.read_file.new.folder in
    let before = g.R.Report.state c.args.report.now in
    let after = g.R.Report.state c.say.new.self in
    movie_completes s.held (dump_outcome c.args.name.now) t c.in-Ok.movie Ending.Done s t before after c.in-Ok.ensures.movie (λ read write report. inl refl)
