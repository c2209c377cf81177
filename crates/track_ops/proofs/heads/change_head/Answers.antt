use Rattle.std.proofs.Common.{rules, refl, ap, ◌∙◌}
use Rattle.track_ops.specs.Kept.{kept_headed}
use Rattle.track_ops.specs.Tracks.{change_head}
use Rattle.track_ops.proofs.Removed.{refused}
use Rattle.track_ops.proofs.HeadsChanged.{fits_headed, headed, parts_headed}
use Rattle.track_ops.proofs.heads.change_head.Goals as goal

pub returns-then-not-has_track : goal.returns-then-not-has_track
returns-then-not-has_track c = refused c.args.number c.args.movie.now (change_head c.args.number c.args.change) _ c.no_track.result (λ movie. refl) (search rules) c.no_track.ensures

pub from_parts-requires-clause-whole : goal.from_parts-requires-clause-whole
from_parts-requires-clause-whole c = rw c.change_parts.ensures (parts_headed c.args.number c.args.change _ c.requires c.take-parts.ensures.whole)

pub from_parts-requires-clause-fits : goal.from_parts-requires-clause-fits
from_parts-requires-clause-fits c = rw c.change_parts.ensures (fits_headed c.args.number c.args.change c.take-parts.result c.take-parts.ensures.fits)

pub returns : goal.returns
returns c =
    headed c.args.number c.args.change c.args.movie.now c.from_parts.result (search rules)
    (c.from_parts.ensures ∙ (c.change_parts.ensures ∙ ap (kept_headed c.args.number c.args.change) c.take-parts.ensures.parts))
