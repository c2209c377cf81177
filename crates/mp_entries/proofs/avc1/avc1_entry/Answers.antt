use Rattle.std.proofs.Common.{[], codes, subst, sym, ◌∙◌, arith}
use Rattle.mp_entries.specs.Avc1.{avcc}
use Rattle.mp_entries.specs.Entry.{IsEntry}
use Rattle.mp_entries.specs.Visual.{visual_fields}
use Rattle.mp_entries.proofs.Keeping.{avc1_is_entry}
use Rattle.mp_entries.proofs.Pieces.{all_pushed, same_front}
use Rattle.mp_entries.proofs.avc1.avc1_entry.Goals as goal

pub returns-clause-written : goal.returns-clause-written
returns-clause-written c =
    let part = avcc c.args.avcc.now in
    let begun = c.in_ok-out.ensures part (omega (arith, c.box_len.ensures.len)) in
    all_pushed _ _ (c.push_box.ensures [] _ begun)
    ∙ same_front (codes "avc1") c.visual_fields-fields.result (visual_fields c.args.width c.args.height) part c.visual_fields-fields.ensures

pub returns-clause-well_formed : goal.returns-clause-well_formed
returns-clause-well_formed c =
    subst IsEntry (sym (returns-clause-written c)) (avc1_is_entry c.boxes_have_lengths.ensures c.written_is_whole.ensures c.args.avcc.now c.args.width c.args.height c.requires)
