use Rattle.std.proofs.Common.{rules, ◌≡◌, ◌∙◌, ◌++◌, ap, List}
use Rattle.std.specs.List.{flat_map}
use Rattle.mp_edits.specs.EditBox.{segments_in}
use Rattle.mp_dump.specs.declared.row.Row.{Row}
use Rattle.mp_dump.specs.Timeline.{row_lines, segment_line, track_lines}
use Rattle.mp_dump.proofs.Chains.{behind}
use Rattle.mp_dump.proofs.RowsByColumns.{rows_are_kept}
use Rattle.mp_dump.proofs.timeline.put_lines.Goals as goal

pub returns : goal.returns
unfolding track_lines
returns c = λ files held.
    let old = c.args.out.now.items in
    let a = c.put_track.new.out.items in
    let b = c.put_edits.new.out.items in
    let edits : b ≡ a ++ flat_map segment_line (segments_in c.args.track.now.edits) = search rules in
    behind old b c.put_rows.new.out.items _ _ (behind old a b _ _ (c.in_ok-put_track.ensures files held) edits)
    (c.in_ok-put_rows.ensures ∙ ap (λ (rows : List Row). b ++ row_lines 0 rows) (rows_are_kept c.columns_are_kept.ensures files c.args.track.now c.requires.columns held))
