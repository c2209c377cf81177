use Rattle.std.proofs.Common.{rules, ◌≤◌, [], sym, subst, arith}
use Rattle.mp_movie.specs.WholeParts.{AreTrackParts}
use Rattle.cut_op.proofs.tests.with_sample.Goals as goal

pub returns-in-Ok-clause-parts : goal.returns-in-Ok-clause-parts
returns-in-Ok-clause-parts g c =
    let entries = c.requires.entries in
    subst (AreTrackParts c.args.movie) (sym c.in-Ok.ensures)
    (record { bare = c.requires.parts.bare; columns = c.a_sample_follows.ensures.columns c.args.track c.args.sample.0 1 _ c.args.sample.2 [] c.requires.parts.columns (omega arith) (omega (arith, entries)) })
