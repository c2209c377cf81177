use Rattle.std.proofs.Common.{List, Option, Ok, Err, IfSome, sym, subst, ap}
use Rattle.mp_ports.specs.Folder.{FolderState, HeldFile}
use Rattle.mp_pieces.specs.Copied.{sizes_of}
use Rattle.mp_movie.specs.Placed.{PlacedMovie}
use Rattle.mp_movie.specs.StandsFor.{Hold}
use Rattle.mp4edit.specs.Outcome.{pair_input}
use Rattle.mp4edit.specs.Reading.{Gives, of_read}
use Rattle.mp4edit.proofs.Inputs.{fails_give}
use Rattle.mp4edit.proofs.Pairs.{pair_gives, units_lie}
use Rattle.mp4edit.proofs.ToldFiles.{lies_is_held}
use Rattle.mp4edit.proofs.pair.read_pair.Goals as goal

pub returns-in-Ok-import_nhnt-clause-movie : goal.returns-in-Ok-import_nhnt-clause-movie
returns-in-Ok-import_nhnt-clause-movie g c =
    let t = g.F.Folder.state c.open_pair.new.folder in
    let held = ap (λ (x : FolderState). x.held) c.in-Ok.ensures.folder.rest in
    let gives = pair_gives t c.args.name.now c.in-Ok.pair c.args.command (Ok c.in-Ok-import_nhnt.movie) c.in-Ok.ensures.pair c.in-Ok-import_nhnt.ensures.movie in
    subst (λ (x : FolderState). IfSome (g.F.Folder.state c.args.folder.now).held (λ files. Gives {A = PlacedMovie} (λ movie. movie) (Ok c.in-Ok-import_nhnt.movie) x (pair_input files c.args.command c.args.name.now))) (sym c.in-Ok-import_nhnt.ensures.folder)
    (subst (λ (h : Option (List HeldFile)). IfSome h (λ files. Gives {A = PlacedMovie} (λ movie. movie) (Ok c.in-Ok-import_nhnt.movie) t (pair_input files c.args.command c.args.name.now))) held gives)

pub returns-in-Ok-import_nhnt-clause-held : goal.returns-in-Ok-import_nhnt-clause-held
returns-in-Ok-import_nhnt-clause-held g c =
    subst (λ (x : FolderState). Hold (sizes_of x) c.in-Ok-import_nhnt.movie) (sym c.in-Ok-import_nhnt.ensures.folder)
    (lies_is_held c.stretches_are_held.ensures (g.F.Folder.state c.open_pair.new.folder) c.in-Ok.pair.media c.in-Ok-import_nhnt.movie c.in-Ok.ensures.pair.media.opened (units_lie _ _ _ c.in-Ok-import_nhnt.ensures.units))

pub returns-in-Err-import_nhnt-clause-movie : goal.returns-in-Err-import_nhnt-clause-movie
returns-in-Err-import_nhnt-clause-movie g c =
    let t = g.F.Folder.state c.open_pair.new.folder in
    let u = g.F.Folder.state c.import_nhnt.new.folder in
    let held = ap (λ (x : FolderState). x.held) c.in-Ok.ensures.folder.rest in
    let gives = pair_gives t c.args.name.now c.in-Ok.pair c.args.command (Err c.in-Err-import_nhnt.fail) c.in-Ok.ensures.pair c.in-Err-import_nhnt.ensures.movie in
    rw c.of_read.ensures
    (fails_give t u (g.F.Folder.state c.args.folder.now).held c.args.command c.in-Err-import_nhnt.fail (λ files. pair_input files c.args.command c.args.name.now)
    (subst (λ (h : Option (List HeldFile)). IfSome h (λ files. Gives {A = PlacedMovie} (λ movie. movie) (Err (of_read c.args.command c.in-Err-import_nhnt.fail)) t (pair_input files c.args.command c.args.name.now))) held gives))
