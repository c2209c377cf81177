use Rattle.std.proofs.Common.{Bool, ◌∷◌, map, subst, sym}
use Rattle.std.specs.Prelude.{codes}
use Rattle.std.proofs.lemmas.List.{length-map}
use Rattle.mp_boxes.specs.Field.{box_bytes, leaf}
use Rattle.mp_boxes.specs.Push.{IsPushing}
use Rattle.mp_boxes.specs.Table.{table_fields}
use Rattle.mp_edits.specs.Written.{entry_fields}
use Rattle.mp_edits.proofs.Entries.{width_each}
use Rattle.mp_edits.proofs.put.push_elst.Goals as goal

pub returns : goal.returns
returns c = λ rest all p.
    let edits = c.args.edits.now in
    let wide = c.needs_wide-wide.result in
    let left = subst (λ (w : Bool). IsPushing c.args.out.now (box_bytes (leaf (codes "elst") (table_fields w (map (entry_fields w) edits))) ∷ rest) all) (sym c.needs_wide-wide.ensures) p in
    c.push_entries.ensures rest all (c.begin_table.ensures (map (entry_fields wide) edits) (sym (length-map edits (entry_fields wide))) (rw c.entry_len.ensures (width_each wide edits)) rest all left)
