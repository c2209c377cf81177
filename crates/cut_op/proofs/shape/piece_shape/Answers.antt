use Rattle.std.proofs.Common.{Some, None, refl}
use Rattle.mp_clip.specs.declared.shape.ClipShape.{ClipShape}
use Rattle.cut_op.proofs.PieceShapes.{before_order, no_begin, no_length, no_parts, piece_shape}
use Rattle.cut_op.proofs.shape.piece_shape.Goals as goal

pub difference-requires-clause-order : goal.difference-requires-clause-order
difference-requires-clause-order c = before_order c.args.from c.args.end c.requires.order

pub returns-in_default : goal.returns-in_default
returns-in_default c = λ parts start dur begin lasts.
    no_begin c.wholeness_is_division.ensures c.args.scale c.args.movie_scale c.args.from c.args.end parts start dur begin lasts None refl c.in_default.ensures

pub returns-in_default-difference : goal.returns-in_default-difference
returns-in_default-difference c = λ parts start dur begin lasts.
    no_parts c.wholeness_is_division.ensures c.args.scale c.args.movie_scale c.args.from c.args.end parts start dur begin lasts c.in_default-difference.ensures.none

pub returns-in_default-least_multiple : goal.returns-in_default-least_multiple
returns-in_default-least_multiple c = λ parts start dur begin lasts.
    no_length c.wholeness_is_division.ensures c.args.scale c.args.movie_scale c.args.from c.args.end parts start dur begin lasts c.in-Some-difference.length c.in-Some-difference.ensures.after c.in-Some-difference.ensures.some None
    refl c.in_default-least_multiple.ensures

pub returns : goal.returns
returns c = λ parts start dur begin lasts.
    let shape : ClipShape = record { media_scale = c.in-Some.media_scale; movie_scale = c.in-Some-least_multiple.new_scale; total = c.ticks_in.result; least = c.ticks_in-start.result; greatest = c.ticks_in-start.result } in
    piece_shape c.wholeness_is_division.ensures c.args.scale c.args.movie_scale c.args.from c.args.end parts start dur begin lasts c.in-Some-difference.length c.in-Some-difference.ensures.after c.in-Some-difference.ensures.some shape
    (Some c.in-Some.media_scale) (Some c.in-Some-least_multiple.new_scale) refl refl c.in-Some.ensures c.in-Some-least_multiple.ensures c.ticks_in.ensures c.ticks_in-start.ensures refl
