use Rattle.std.proofs.Common.{sym, subst, arith}
use Rattle.mp_movie.specs.WholeParts.{AreColumns}
use Rattle.mp_movie.proofs.track_tests.with_one_more.Goals as goal

pub returns-in-Ok-clause-columns : goal.returns-in-Ok-clause-columns
returns-in-Ok-clause-columns g c =
    let entries = c.requires.entries in
    subst AreColumns (sym c.in-Ok.ensures)
    (c.a_sample_follows.ensures.columns c.args.track c.args.delta 1 _ c.args.sync c.args.pieces.now c.requires.columns (omega arith) (omega (arith, entries)))
