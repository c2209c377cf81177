use Rattle.std.proofs.Common.{sym, subst, arith}
use Rattle.mp_movie.specs.Placed.{plain_scale}
use Rattle.mp_movie.specs.WholeParts.{AreTrackParts}
use Rattle.mp_layout.proofs.tests.with_sample.Goals as goal

pub returns-in-Ok-clause-parts : goal.returns-in-Ok-clause-parts
returns-in-Ok-clause-parts g c =
    let entries = c.requires.entries in
    subst (AreTrackParts plain_scale) (sym c.in-Ok.ensures)
    (record { bare = c.requires.parts.bare; columns = c.a_sample_follows.ensures.columns c.args.track c.args.delta 1 _ c.args.sync c.args.pieces.now c.requires.parts.columns (omega arith) (omega (arith, entries)) })
