use Rattle.std.proofs.Common.{◌≡◌, ◌∙◌, rules}
use Rattle.track_ops.proofs.SetAt.{set_told}
use Rattle.track_ops.proofs.set_scale.set_scale.Goals as goal

pub returns : goal.returns
returns c =
    let same : c.track.inside.scale ≡ c.args.track.now.scale = search rules in
    c.retime.ensures ∙ set_told c.args.scale c.track.inside.scale c.args.track.now c.rescale_edits.new.track same c.rescale_edits.ensures
