use Rattle.std.proofs.Common.{rules, ◌≡◌, ◌∙◌, Ok, ap, map, string_bytes}
use Rattle.mp_words.specs.Answers.{job_record}
use Rattle.mp_words.specs.Jobs.{Dumps, Edits}
use Rattle.mp4edit.specs.Run.{edit_of}
use Rattle.mp4edit.specs.Words.{job}
use Rattle.mp4edit.specs.Written.{OutputRecord}
use Rattle.mp4edit.proofs.Jobs.{dump_ends, dump_is_not_begun, edit_ends, edit_misses}
use Rattle.mp4edit.proofs.run.mp4edit.Goals as goal

pub returns-in-Ok-Edit-clause-edit : goal.returns-in-Ok-Edit-clause-edit
returns-in-Ok-Edit-clause-edit g c =
    let output : OutputRecord = record { name = string_bytes c.in-Ok-Edit.out; command = c.in-Ok-Edit.out_command; window = c.in-Ok-Edit.window } in
    let commands : c.in-Ok-Edit.commands.items ≡ c.deref.result.now = search rules in
    edit_ends (job (map string_bytes c.args.words.now)) (edit_of c.deref.result.now output) _ _ _ _ _
    (c.in-Ok-Edit.ensures.job ∙ (ap (λ j. Ok (job_record j)) c.in-Ok-Edit.field-0-is ∙ ap (λ l. Ok (Edits (edit_of l output))) commands))
    c.write_movie.ensures.ends

pub returns-in-Ok-Dump-clause-dump : goal.returns-in-Ok-Dump-clause-dump
returns-in-Ok-Dump-clause-dump g c =
    let e = c.tell_file.ensures in
    let named : string_bytes c.in-Ok-Dump.name ≡ c.deref-in-Ok-Dump.result.now = search rules in
    dump_ends (job (map string_bytes c.args.words.now)) c.in-Ok-Dump.kind c.deref-in-Ok-Dump.result.now _ _ _ _ _
    (c.in-Ok-Dump.ensures.job ∙ (ap (λ j. Ok (job_record j)) c.in-Ok-Dump.field-0-is ∙ ap (λ n. Ok (Dumps c.in-Ok-Dump.kind n)) named))
    (record { inputs = e.inputs; unwritten = e.unwritten; left = e.left; told = e.told; said = e.said; complete = e.complete })

pub returns-in-Err-NoMemory-clause-dump : goal.returns-in-Err-NoMemory-clause-dump
returns-in-Err-NoMemory-clause-dump g c = dump_is_not_begun (job (map string_bytes c.args.words.now)) _ _ c.requires.output

pub returns-in-Ok-Edit-clause-misses : goal.returns-in-Ok-Edit-clause-misses
returns-in-Ok-Edit-clause-misses g c =
    let output : OutputRecord = record { name = string_bytes c.in-Ok-Edit.out; command = c.in-Ok-Edit.out_command; window = c.in-Ok-Edit.window } in
    let commands : c.in-Ok-Edit.commands.items ≡ c.deref.result.now = search rules in
    edit_misses (job (map string_bytes c.args.words.now)) (edit_of c.deref.result.now output) c.write_movie.result _ _
    (c.in-Ok-Edit.ensures.job ∙ (ap (λ j. Ok (job_record j)) c.in-Ok-Edit.field-0-is ∙ ap (λ l. Ok (Edits (edit_of l output))) commands))
    c.write_movie.ensures.misses
