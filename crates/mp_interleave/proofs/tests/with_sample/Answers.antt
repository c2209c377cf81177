use Rattle.std.proofs.Common.{rules, ◌≤◌, [], true, sym, subst, arith}
use Rattle.mp_movie.specs.Placed.{plain_scale}
use Rattle.mp_movie.specs.WholeParts.{AreTrackParts}
use Rattle.mp_interleave.proofs.tests.with_sample.Goals as goal

pub returns-in-Ok-clause-parts : goal.returns-in-Ok-clause-parts
returns-in-Ok-clause-parts g c =
    let entries = c.requires.entries in
    let some : 1 ≤ c.args.entry = search rules in
    let known : c.args.entry ≤ 2 = search rules in
    subst (AreTrackParts plain_scale) (sym c.in-Ok.ensures)
    (record { bare = c.requires.parts.bare; columns = c.a_sample_follows.ensures.columns c.args.track c.args.delta c.args.entry _ true [] c.requires.parts.columns some (omega (arith, entries, known)) })
