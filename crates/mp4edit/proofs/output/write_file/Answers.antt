use Rattle.std.proofs.Common.{string_bytes}
use Rattle.mp4edit.proofs.Writes.{append_stops, finish_stops, read_stops, still_writing, whole_is_written}
use Rattle.mp4edit.proofs.output.write_file.Goals as goal

pub emit-requires-clause-order : goal.emit-requires-clause-order
emit-requires-clause-order g c = record { millis = c.requires.plan.millis; is = c.requires.plan.is.order }

pub finish-requires : goal.finish-requires
finish-requires g c =
    let s = g.F.Folder.state c.args.folder.now in
    let created = g.F.Folder.state c.create.new.self in
    let emitted = g.F.Folder.state c.emit.new.folder in
    still_writing s created emitted (string_bytes c.args.name) c.args.movie.now c.requires.plan.millis c.in-Ok.ensures.created (c.in_default-emit.ensures.written c.requires.plan.millis c.requires.plan.is)

pub returns-in-Ok-finish-clause-whole : goal.returns-in-Ok-finish-clause-whole
returns-in-Ok-finish-clause-whole g c =
    λ millis plans. whole_is_written _ _ _ _ _ _ millis c.in-Ok.ensures.created (c.in_default-emit.ensures.written millis plans) c.in-Ok-finish.ensures.finished

pub returns-in-Err-clause-read : goal.returns-in-Err-clause-read
returns-in-Err-clause-read g c = λ millis plans failed. read_stops _ _ _ _ _ millis c.in-Ok.ensures.created (c.in-Err.ensures.read millis plans failed)

pub returns-in-Err-clause-write : goal.returns-in-Err-clause-write
returns-in-Err-clause-write g c = λ millis plans failed. append_stops _ _ _ _ _ millis c.in-Ok.ensures.created (c.in-Err.ensures.write millis plans failed)

pub returns-in-Err-finish-clause-write : goal.returns-in-Err-finish-clause-write
returns-in-Err-finish-clause-write g c =
    λ millis plans failed. finish_stops _ _ _ _ _ _ millis c.in-Ok.ensures.created (c.in_default-emit.ensures.written millis plans) c.in-Err-finish.ensures.failed
