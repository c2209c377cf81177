use Rattle.std.proofs.Common.{rules, refl, ap, ◌∙◌}
use Rattle.track_ops.specs.Kept.{kept_less}
use Rattle.track_ops.specs.Tracks.{remove}
use Rattle.track_ops.proofs.Removed.{fits_less, parts_less, refused, removed}
use Rattle.track_ops.proofs.removal.remove.Goals as goal

pub returns-then-not-has_track : goal.returns-then-not-has_track
returns-then-not-has_track c = refused c.args.number c.args.movie.now (remove c.args.number) _ c.no_track.result (λ movie. refl) (search rules) c.no_track.ensures

pub from_parts-requires-clause-whole : goal.from_parts-requires-clause-whole
from_parts-requires-clause-whole c = rw c.take_out.ensures (parts_less c.args.number _ c.take-parts.ensures.whole)

pub from_parts-requires-clause-fits : goal.from_parts-requires-clause-fits
from_parts-requires-clause-fits c = rw c.take_out.ensures (fits_less c.args.number c.take-parts.result c.take-parts.ensures.fits)

pub returns : goal.returns
returns c =
    removed c.args.number c.args.movie.now c.from_parts.result (search rules)
    (c.from_parts.ensures ∙ (c.take_out.ensures ∙ ap (kept_less c.args.number) c.take-parts.ensures.parts))
