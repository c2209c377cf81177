use Rattle.std.proofs.Common.{◌∙◌, ap}
use Rattle.std.specs.Int.{w32, to_be_bytes}
use Rattle.generator.proofs.Growing.{record_behind}
use Rattle.generator.proofs.files.push_record.Goals as goal

pub returns : goal.returns
returns c =
    record_behind c.args.picture c.picture_len.result c.picture_flags.result c.args.made.now.items _ _ _ _ _ _ _ c.picture_len.ensures.same c.picture_flags.ensures
    (c.to_be_bytes.ensures ∙ ap (to_be_bytes w32) c.requires.from) (c.to_be_bytes-2.ensures ∙ ap (to_be_bytes w32) c.picture_shown.ensures) c.to_be_bytes-3.ensures
    c.in_ok-extend_from_slice.ensures.items c.in_ok-extend_from_slice-2.ensures.items c.in_ok-extend_from_slice-3.ensures.items c.in_ok-extend_from_slice-4.ensures.items
