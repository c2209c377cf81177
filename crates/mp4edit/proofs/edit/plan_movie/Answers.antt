use Rattle.std.proofs.Common.{arith, rules, ◌≡◌, ◌*◌, ℕ, length, Err, IfSome, refl, sym, subst}
use Rattle.mp_movie.specs.Placed.{PlacedMovie}
use Rattle.mp_layout.specs.Plan.{FilePlanRecord}
use Rattle.mp4edit.specs.Names.{NeedAll, reads}
use Rattle.mp4edit.specs.Outcome.{outcome}
use Rattle.mp4edit.specs.Reading.{Gives, of_fail}
use Rattle.mp4edit.specs.Run.{edit_of}
use Rattle.mp4edit.proofs.FilesInTurn.{opens_as, stops_as, then_fails}
use Rattle.mp4edit.proofs.Outcomes.{fold_stops, output_plans, output_stops}
use Rattle.mp4edit.proofs.edit.plan_movie.Goals as goal

pub returns-in-Err-clause-movie : goal.returns-in-Err-clause-movie
returns-in-Err-clause-movie g c = fold_stops (g.F.Folder.state c.args.folder.now).held c.args.commands.now c.args.output.now (g.F.Folder.state c.fold.new.folder) c.in-Err.stop c.in-Err.ensures.movie

pub returns-in-Ok-plan_output-clause-movie : goal.returns-in-Ok-plan_output-clause-movie
returns-in-Ok-plan_output-clause-movie g c =
    let s = g.F.Folder.state c.args.folder.now in
    let t = g.F.Folder.state c.fold.new.folder in
    output_plans s.held c.args.commands.now c.args.output.now t c.in-Ok.movie c.in-Ok-plan_output.plan
    c.in-Ok.ensures.told c.in-Ok.ensures.held c.in-Ok.ensures.movie c.in-Ok-plan_output.ensures

pub returns-in-Err-plan_output-clause-movie : goal.returns-in-Err-plan_output-clause-movie
returns-in-Err-plan_output-clause-movie g c =
    let s = g.F.Folder.state c.args.folder.now in
    let t = g.F.Folder.state c.fold.new.folder in
    let command : c.output.inside.command ≡ c.args.output.now.command = search rules in
    let stops = output_stops s.held c.args.commands.now c.args.output.now t c.in-Ok.movie c.in-Err-plan_output.fail
    c.in-Ok.ensures.told c.in-Ok.ensures.held c.in-Ok.ensures.movie c.in-Err-plan_output.ensures in
    rw c.of_fail.ensures (subst (λ (n : ℕ). IfSome s.held (λ files.
    Gives {A = PlacedMovie × FilePlanRecord} (λ planned. planned.0) (Err (of_fail n c.in-Err-plan_output.fail)) t (outcome (edit_of c.args.commands.now c.args.output.now) files)))
    (sym command) stops)

pub returns-in-Err-clause-folder : goal.returns-in-Err-clause-folder
returns-in-Err-clause-folder g c =
    let commands = c.args.commands.now in
    stops_as PlacedMovie (PlacedMovie × FilePlanRecord) c.in-Err.stop (reads commands) (reads commands) (3 * length commands) (3 * length commands) (NeedAll commands) (NeedAll commands) _ _
    (λ files. refl) (omega arith) (λ n. n) c.in-Err.ensures.folder

pub returns-in-Ok-plan_output-clause-folder : goal.returns-in-Ok-plan_output-clause-folder
returns-in-Ok-plan_output-clause-folder g c =
    let commands = c.args.commands.now in
    opens_as PlacedMovie (PlacedMovie × FilePlanRecord) c.in-Ok.movie (c.in-Ok.movie, c.in-Ok-plan_output.plan) (reads commands) (reads commands) (3 * length commands) (3 * length commands) (NeedAll commands) (NeedAll commands) _ _
    (λ files. refl) (omega arith) (λ n. n) c.in-Ok.ensures.folder

pub returns-in-Err-plan_output-clause-folder : goal.returns-in-Err-plan_output-clause-folder
returns-in-Err-plan_output-clause-folder g c =
    let commands = c.args.commands.now in
    rw c.of_fail.ensures (then_fails PlacedMovie (PlacedMovie × FilePlanRecord) c.in-Ok.movie _ c.in-Err-plan_output.fail (reads commands) (3 * length commands) (NeedAll commands) _ _ c.in-Ok.ensures.folder)
