use Rattle.std.proofs.Common.{rules, ◌∙◌, ◌++◌, ap, List}
use Rattle.serde_json.specs.Data.{array}
use Rattle.serde_json.specs.Written.{compact_text}
use Rattle.mp_movie.specs.StandsFor.{track_for}
use Rattle.mp_dump.specs.declared.row.Row.{Row}
use Rattle.mp_dump.specs.Json.{items, row_value}
use Rattle.mp_dump.proofs.Objects.{object_of_track}
use Rattle.mp_dump.proofs.RowsByColumns.{rows_are_kept}
use Rattle.mp_dump.proofs.object.put_track.Goals as goal

pub returns : goal.returns
returns c = λ files held.
    object_of_track (track_for files c.args.track.now) c.args.out.now.items
    c.extend_from_slice.new.self.items c.put_edits.new.out.items
    c.extend_from_slice-2.new.self.items c.put_boolean.new.out.items
    c.extend_from_slice-3.new.self.items c.put_entries.new.out.items
    c.extend_from_slice-4.new.self.items c.put_string.new.out.items
    c.extend_from_slice-5.new.self.items c.put_string-2.new.out.items
    c.extend_from_slice-6.new.self.items c.put_number.new.out.items
    c.extend_from_slice-7.new.self.items c.put_rows.new.out.items
    c.extend_from_slice-8.new.self.items c.put_number-2.new.out.items
    c.extend_from_slice-9.new.self.items
    c.in_ok-extend_from_slice.ensures.items (search rules)
    c.in_ok-extend_from_slice-2.ensures.items (search rules)
    c.in_ok-extend_from_slice-3.ensures.items (search rules)
    c.in_ok-extend_from_slice-4.ensures.items (search rules)
    c.in_ok-extend_from_slice-5.ensures.items (search rules)
    c.in_ok-extend_from_slice-6.ensures.items (search rules)
    c.in_ok-extend_from_slice-7.ensures.items
    (c.in_ok-put_rows.ensures
    ∙ ap (λ (rows : List Row). c.extend_from_slice-7.new.self.items ++ compact_text (array (items row_value rows))) (rows_are_kept c.columns_are_kept.ensures files c.args.track.now c.requires.columns held))
    c.in_ok-extend_from_slice-8.ensures.items (search rules)
    c.in_ok-extend_from_slice-9.ensures.items
