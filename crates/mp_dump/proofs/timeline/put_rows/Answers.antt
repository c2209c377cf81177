use Rattle.std.proofs.Common.{rules, ◌∙◌, ◌+◌, ◌<◌, ◌≤◌, length, sym, refl, arith, append-nil}
use Rattle.mp_dump.specs.Timeline.{row_line, row_lines}
use Rattle.mp_dump.proofs.RowsAreWritten.{all_written, row_written}
use Rattle.mp_dump.proofs.timeline.put_rows.Goals as goal

pub loop-before-preserved : goal.loop-before-preserved
loop-before-preserved c =
    let lt : c.loop-before.before < length c.args.track.now.deltas = search rules in
    row_written row_lines (λ n row. row_line (n + 1) row) (λ n row rest. refl) c.args.track.now c.row_at-row.result c.loop-before.before c.loop-before.decode
    (c.loop-before.decode + c.from-decode.result) c.loop-before.out.items c.put_row.new.out.items c.args.out.now.items lt c.row_at-row.ensures.row c.row_at-row.ensures.short
    (omega (arith, c.from-decode.ensures)) c.in_ok-put_row.ensures c.loop-before.invariant

pub returns : goal.returns
returns c =
    let past : length c.args.track.now.deltas ≤ c.loop-before.before = search rules in
    sym (append-nil _) ∙ all_written row_lines c.args.track.now c.loop-before.before c.loop-before.decode c.loop-before.out.items c.args.out.now.items past c.loop-before.invariant
