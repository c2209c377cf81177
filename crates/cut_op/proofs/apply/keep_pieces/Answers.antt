use Rattle.std.proofs.Common.{◌≡◌, arith, length, take, sym, ap, ◌∙◌}
use Rattle.std.specs.Prelude.{sum, unsigned_abs}
use Rattle.std.proofs.lemmas.List.{length-map}
use Rattle.mp_movie.specs.Placed.{naturals}
use Rattle.cut_op.proofs.KeptSamples.{sum-rises}
use Rattle.cut_op.proofs.apply.keep_pieces.Goals as goal

pub keep-requires-clause-order : goal.keep-requires-clause-order
keep-requires-clause-order c =
    let counts = naturals c.args.counts.now in
    let rises = sum-rises counts c.args.kept.from c.args.kept.to c.requires.order (omega (arith, c.requires.inside, length-map c.args.counts.now unsigned_abs)) in
    omega (arith, rises, c.pieces_before-from.ensures.count, c.pieces_before-to.ensures.count)
