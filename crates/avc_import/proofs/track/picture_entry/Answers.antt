use Rattle.std.proofs.Common.{arith}
use Rattle.avc_sets.specs.Configuration.{items_of}
use Rattle.avc_import.proofs.Fitting.{configuration_len, items_len, vectors_back}
use Rattle.avc_import.proofs.track.picture_entry.Goals as goal

pub avc1_entry-requires : goal.avc1_entry-requires
avc1_entry-requires c =
    let units = c.args.units.now in
    rw (c.deref.ensures.value, c.in_ok-body.ensures)
    (configuration_len c.args.sequence.now c.args.fields.now (items_of units) c.requires.sequence (omega (arith, items_len units, c.requires.few)) (vectors_back units c.requires.short))
