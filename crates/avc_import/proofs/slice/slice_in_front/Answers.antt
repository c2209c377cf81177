use Rattle.std.proofs.Common.{◌∙◌, Ok, Err, ap, sym, refl}
use Rattle.avc_import.proofs.Slicing.{clean_some, slice_there, bits_short, have_sets}
use Rattle.avc_import.proofs.slice.slice_in_front.Goals as goal

pub slice_by-requires : goal.slice_by-requires
slice_by-requires c = clean_some _ _ (c.deref.ensures.value ∙ c.in_ok-clean.ensures) c.requires

pub returns-in-Ok-clause-slice : goal.returns-in-Ok-clause-slice
returns-in-Ok-clause-slice c =
    let is = c.deref.ensures.value ∙ c.in_ok-clean.ensures in
    λ n short. slice_there n c.args.place c.args.sets.now _ _ _ (Ok c.in-Ok.slice) is c.requires refl c.tables_are_read.ensures (c.in-Ok.ensures n (bits_short n _ _ is short))

pub returns-in-Ok-clause-sets : goal.returns-in-Ok-clause-sets
returns-in-Ok-clause-sets c = have_sets c.args.sets.now _ _ _ c.in-Ok.slice refl c.tables_are_read.ensures c.elements_in_turn.ensures.numbers c.in-Ok.ensures

pub returns-clause-slice : goal.returns-clause-slice
returns-clause-slice c =
    let is = c.deref.ensures.value ∙ c.in_ok-clean.ensures in
    λ n short. slice_there n c.args.place c.args.sets.now _ _ _ (Err c.in-Err.code) is c.requires refl c.tables_are_read.ensures (c.in-Err.ensures n (bits_short n _ _ is short)) ∙ ap Err (sym c.at.ensures)
