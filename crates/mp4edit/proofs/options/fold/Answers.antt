use Rattle.std.proofs.Common.{arith, rules, ◌≡◌, ◌*◌, List, take, Option, Err, IfSome, refl, subst, ap}
use Rattle.mp_ports.specs.Folder.{FolderState, HeldFile}
use Rattle.mp_movie.specs.Placed.{PlacedMovie}
use Rattle.mp_movie.specs.StandsFor.{stands_for}
use Rattle.mp4edit.specs.Names.{NeedAll, reads}
use Rattle.mp4edit.specs.Outcome.{step}
use Rattle.mp4edit.specs.Reading.{Gives, told_files}
use Rattle.mp4edit.proofs.FilesInTurn.{opens_nothing, told_next}
use Rattle.mp4edit.proofs.Folds.{all_done, drop_at, goes_on, goes_on_here, has_room, stops, stops_here}
use Rattle.mp4edit.proofs.Rolls.{rolls_all, rolls_on}
use Rattle.mp4edit.proofs.options.fold.Goals as goal

pub take_step-requires-clause-opened : goal.take_step-requires-clause-opened
take_step-requires-clause-opened g c = has_room _ _ _ _ _ c.loop-command.invariant c.requires.opened c.loop-command-test.true c.requires.few

pub take_step-requires-clause-told : goal.take_step-requires-clause-told
take_step-requires-clause-told g c = rw (ap (λ (x : FolderState). x.held) c.loop-command.invariant.folder.rest) c.loop-command.invariant.told

pub take_step-requires-clause-held : goal.take_step-requires-clause-held
take_step-requires-clause-held g c = c.loop-command.invariant.held

pub loop-command-init : goal.loop-command-init
loop-command-init g c =
    let commands = c.args.commands.now in
    record {
      left = search rules;
      told = search rules;
      held = search rules;
      folder = opens_nothing Unit tt (reads (take 0 commands)) (3 * 0) (NeedAll commands) (g.F.Folder.state c.args.folder.now) (λ files. refl);
      seen = search rules;
    }

pub returns-in-Err-clause-movie : goal.returns-in-Err-clause-movie
returns-in-Err-clause-movie g c =
    let old = g.F.Folder.state c.args.folder.now in
    let s = g.F.Folder.state c.loop-command.folder in
    let t = g.F.Folder.state c.take_step.new.folder in
    let command = c.command-item.result in
    let stop = c.in-Err.stop in
    let next = c.take_step.new.movie in
    let held : s.held ≡ old.held = ap (λ (x : FolderState). x.held) c.loop-command.invariant.folder.rest in
    let gives : IfSome old.held (λ files. Gives {A = Unit} (λ _. next) (Err stop) t (step files command.place command.what (stands_for (told_files s) c.loop-command.movie))) =
    subst (λ (h : Option (List HeldFile)). IfSome h (λ files. Gives {A = Unit} (λ _. next) (Err stop) t (step files command.place command.what (stands_for (told_files s) c.loop-command.movie)))) held c.in-Err.ensures.movie in
    stops Unit c.args.commands.now c.loop-command.command-index command c.loop-command.movie old.held stop s t next c.loop-command-test.true c.command-item.is c.loop-command.invariant.left gives

pub returns-in-Err-clause-told : goal.returns-in-Err-clause-told
returns-in-Err-clause-told g c =
    let old = g.F.Folder.state c.args.folder.now in
    let s = g.F.Folder.state c.loop-command.folder in
    let t = g.F.Folder.state c.take_step.new.folder in
    told_next old.held s t (ap (λ (x : FolderState). x.held) c.loop-command.invariant.folder.rest) c.loop-command.invariant.told c.in-Err.ensures.folder.told

pub returns-in-Err-clause-folder : goal.returns-in-Err-clause-folder
returns-in-Err-clause-folder g c =
    stops_here Unit PlacedMovie c.args.commands.now c.loop-command.command-index c.command-item.result c.in-Err.stop _ _ _ c.loop-command-test.true c.command-item.is c.loop-command.invariant.folder c.in-Err.ensures.folder

pub loop-command-preserved : goal.loop-command-preserved
loop-command-preserved g c =
    let old = g.F.Folder.state c.args.folder.now in
    let s = g.F.Folder.state c.loop-command.folder in
    let t = g.F.Folder.state c.take_step.new.folder in
    record {
      left = goes_on c.args.commands.now c.loop-command.command-index c.command-item.result c.loop-command.movie c.take_step.new.movie old.held s t c.loop-command-test.true c.command-item.is c.loop-command.invariant.left (search rules);
      told = told_next old.held s t (ap (λ (x : FolderState). x.held) c.loop-command.invariant.folder.rest) c.loop-command.invariant.told c.in_default.ensures.folder.told;
      held = search rules;
      folder = goes_on_here Unit c.in_default.field-0 c.args.commands.now c.loop-command.command-index c.command-item.result old s t c.loop-command-test.true c.command-item.is c.loop-command.invariant.folder c.in_default.ensures.folder;
      seen = rolls_on c.commands_are_seen.ensures c.cuts_are_seen.ensures c.args.commands.now c.loop-command.command-index c.command-item.result c.loop-command.movie c.take_step.new.movie old.held s t
          (drop_at c.args.commands.now c.loop-command.command-index c.command-item.result c.loop-command-test.true c.command-item.is) c.loop-command.invariant.seen (search rules) (search rules);
    }

pub returns-clause-seen : goal.returns-clause-seen
returns-clause-seen g c =
    rolls_all c.args.commands.now c.loop-command.command-index c.loop-command.movie (g.F.Folder.state c.args.folder.now).held (g.F.Folder.state c.loop-command.folder) (omega (arith, c.loop-command-test.false)) c.loop-command.invariant.seen

pub returns-clause-folder : goal.returns-clause-folder
returns-clause-folder g c =
    all_done PlacedMovie _ c.args.commands.now c.loop-command.command-index _ _ (omega (arith, c.loop-command-test.false)) (omega (arith, c.loop-command.auto.command-index-end)) c.loop-command.invariant.folder
