use Rattle.std.proofs.Common.{rules, ◌∙◌, ◌+◌, ◌<◌, ◌≤◌, ◌++◌, ◌∷◌, [], ℕ, List, nat_lt, length, ap, arith, append_assoc}
use Rattle.serde_json.specs.Written.{comma_if, compact_text}
use Rattle.mp_dump.specs.Json.{row_value}
use Rattle.mp_dump.specs.Track.{rows_in}
use Rattle.mp_dump.proofs.Chains.{behind}
use Rattle.mp_dump.proofs.Commas.{left, next_item, one}
use Rattle.mp_dump.proofs.RowsAreWritten.{all_written, row_written}
use Rattle.mp_dump.proofs.object.put_rows.Goals as goal

pub loop-before-preserved : goal.loop-before-preserved
loop-before-preserved c =
    let lt : c.loop-before.before < length c.args.track.now.deltas = search rules in
    row_written (left row_value) (one row_value) (next_item row_value) c.args.track.now c.row_at-row.result c.loop-before.before c.loop-before.decode
    (c.loop-before.decode + c.from-decode.result) c.loop-before.out.items c.put_row.new.out.items c.extend_from_slice.new.self.items lt c.row_at-row.ensures.row c.row_at-row.ensures.short
    (omega (arith, c.from-decode.ensures))
    (behind c.loop-before.out.items c.put_comma.new.out.items c.put_row.new.out.items (comma_if (nat_lt 0 c.loop-before.before)) (compact_text (row_value c.row_at-row.result)) c.in_ok-put_comma.ensures c.in_ok-put_row.ensures)
    c.loop-before.invariant

pub returns : goal.returns
returns c =
    let past : length c.args.track.now.deltas ≤ c.loop-before.before = search rules in
    let start = c.extend_from_slice.new.self.items in
    let rows = left row_value 0 (rows_in c.args.track.now) in
    c.in_ok-extend_from_slice-2.ensures.items
    ∙ (all_written (left row_value) c.args.track.now c.loop-before.before c.loop-before.decode c.loop-before.out.items start past c.loop-before.invariant
    ∙ (ap (λ (t : List ℕ). t ++ rows) c.in_ok-extend_from_slice.ensures.items ∙ append_assoc c.args.out.now.items (91 ∷ []) rows))
