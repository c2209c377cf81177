use Rattle.std.proofs.Common.{rules, ◌≡◌, ◌∙◌, ap, length, ℤ, List}
use Rattle.mp_columns.specs.Numbers.{total}
use Rattle.mp_dump.proofs.LinesOfTracks.{totals_are}
use Rattle.mp_dump.proofs.info.put_totals.Goals as goal

pub returns : goal.returns
returns c = λ files held.
    let deltas : c.track.inside.deltas ≡ c.args.track.now.deltas = search rules in
    let syncs : c.track.inside.syncs ≡ c.args.track.now.syncs = search rules in
    let sizes : c.track.inside.sizes ≡ c.args.track.now.sizes = search rules in
    totals_are c.columns_are_kept.ensures files c.args.track.now c.requires held c.len.result c.media_duration.result c.total.result c.total-2.result
    c.args.out.now.items c.put_field.new.out.items c.put_signed.new.out.items c.put_signed-2.new.out.items c.put_field-2.new.out.items
    (c.len.ensures.count ∙ ap (λ (column : List ℤ). length column) deltas) (c.total.ensures ∙ ap total syncs) (c.total-2.ensures ∙ ap total sizes) (c.media_duration.ensures files)
    c.in_ok-put_field.ensures (search rules) (search rules) c.in_ok-put_field-2.ensures
