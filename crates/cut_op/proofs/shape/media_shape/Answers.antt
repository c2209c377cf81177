use Rattle.std.proofs.Common.{refl, sym, ◌∙◌, arith}
use Rattle.cut_op.proofs.PieceShapes.{nothing_shown, one_shown}
use Rattle.cut_op.proofs.shape.media_shape.Goals as goal

pub returns-then-not-is_before : goal.returns-then-not-is_before
returns-then-not-is_before c =
    nothing_shown c.args.scale c.args.movie_scale c.args.extent c.args.from c.args.to c.shown_end-end.result c.requires.media c.requires.movie c.requires.range c.shown_end-end.ensures (sym c.is_before.ensures ∙ c.if-not-is_before.true)
    (omega arith) (omega arith) _ refl

pub returns : goal.returns
returns c =
    one_shown c.args.scale c.args.movie_scale c.args.extent c.args.from c.args.to c.shown_end-end.result c.requires.media c.requires.movie c.requires.range c.shown_end-end.ensures (sym c.is_before.ensures ∙ c.if-not-is_before.false)
    c.piece_shape.result c.piece_shape.ensures
