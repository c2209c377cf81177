use Rattle.std.proofs.Common.{ℕ, Ok, Err}
use Rattle.mp_movie.specs.Placed.{PlacedMovie}
use Rattle.mp4edit.specs.Names.{held_name}
use Rattle.mp4edit.proofs.FilesInTurn.{found_opens, then_reads}
use Rattle.mp4edit.proofs.Inputs.{fail_gives}
use Rattle.mp4edit.proofs.input.read_file.Goals as goal

pub returns-in-Ok-read_opened-clause-folder : goal.returns-in-Ok-read_opened-clause-folder
returns-in-Ok-read_opened-clause-folder g c =
    let s = g.F.Folder.state c.args.folder.now in
    let t = g.F.Folder.state c.find_for.new.folder in
    let u = g.F.Folder.state c.read_opened.new.folder in
    let name = c.args.name.now in
    then_reads ℕ PlacedMovie c.in-Ok.file c.args.command (Ok c.in-Ok-read_opened.movie) (held_name name) 1 Unit s t u
    (found_opens ℕ c.in-Ok.file Unit s t name c.in-Ok.file c.in-Ok.ensures) c.in-Ok-read_opened.ensures.folder

pub returns-in-Err-read_opened-clause-movie : goal.returns-in-Err-read_opened-clause-movie
returns-in-Err-read_opened-clause-movie g c =
    let s = g.F.Folder.state c.args.folder.now in
    let t = g.F.Folder.state c.find_for.new.folder in
    let u = g.F.Folder.state c.read_opened.new.folder in
    rw c.of_read.ensures (fail_gives s t u c.args.name.now c.args.rate c.kind_of.result c.in-Ok.file c.args.command c.in-Err-read_opened.fail c.in-Ok.ensures c.kind_of.ensures c.in-Err-read_opened.ensures.movie)

pub returns-in-Err-read_opened-clause-folder : goal.returns-in-Err-read_opened-clause-folder
returns-in-Err-read_opened-clause-folder g c =
    let s = g.F.Folder.state c.args.folder.now in
    let t = g.F.Folder.state c.find_for.new.folder in
    let u = g.F.Folder.state c.read_opened.new.folder in
    let name = c.args.name.now in
    rw c.of_read.ensures
    (then_reads ℕ PlacedMovie c.in-Ok.file c.args.command (Err c.in-Err-read_opened.fail) (held_name name) 1 Unit s t u
    (found_opens ℕ c.in-Ok.file Unit s t name c.in-Ok.file c.in-Ok.ensures) c.in-Err-read_opened.ensures.folder)
