use Rattle.std.proofs.Common.{◌≡◌, ℕ, ◌+◌, ◌*◌, ◌^◌, ◌<◌, ◌≤◌, Bool, true, false, length, map, refl, sym, ap, ◌∙◌, arith}
use Rattle.std.specs.Prelude.{codes}
use Rattle.std.proofs.lemmas.List.{length-map}
use Rattle.mp_edits.specs.Entry.{entry_len}
use Rattle.mp_edits.specs.Segments.{most_segments}
use Rattle.mp_edits.specs.Written.{entry_fields, needs_wide}
use Rattle.mp_edits.proofs.Entries.{width_each}
use Rattle.mp_edits.proofs.put.elst_len.Goals as goal

pub returns-clause-len : goal.returns-clause-len
returns-clause-len c =
    let edits = c.args.edits.now in
    let wide = needs_wide edits in
    c.table_len.ensures.table (codes "elst") wide (map (entry_fields wide) edits) refl (sym (length-map edits (entry_fields wide))) (rw (c.entry_len.ensures, c.needs_wide.ensures) (width_each wide edits))

pub returns-clause-short : goal.returns-clause-short
returns-clause-short c = let some = c.requires.few in short (needs_wide c.args.edits.now) _ (length c.args.edits.now) _ (rw c.needs_wide.ensures at c.entry_len.ensures) some c.table_len.ensures.len
  where
    short : (wide : Bool) (width count len : ℕ) → width ≡ entry_len wide → count ≤ most_segments → len ≡ 16 + width * count → len < 2 ^ 32
    short true width count len w few e = omega (arith, e ∙ ap (λ (n : ℕ). 16 + n * count) w)
    short false width count len w few e = omega (arith, e ∙ ap (λ (n : ℕ). 16 + n * count) w)
