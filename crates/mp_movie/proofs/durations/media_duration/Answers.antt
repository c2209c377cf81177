use Rattle.std.proofs.Common.{rules, ◌≡◌, ◌∙◌, ap, ℤ, List}
use Rattle.std.specs.Prelude.{sum}
use Rattle.mp_boxes.specs.Table.{capped}
use Rattle.mp_movie.specs.Placed.{naturals}
use Rattle.mp_movie.proofs.DurationsByColumns.{media_is}
use Rattle.mp_movie.proofs.durations.media_duration.Goals as goal

pub returns : goal.returns
returns c =
    let same : c.track.inside.deltas ≡ c.args.track.now.deltas = search rules in
    λ files. c.sum_of.ensures ∙ (ap (λ (column : List ℤ). capped (sum (naturals column))) same ∙ media_is files c.args.track.now c.requires)
