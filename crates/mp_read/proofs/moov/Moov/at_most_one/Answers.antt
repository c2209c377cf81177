use Rattle.std.proofs.Common.{◌∙◌, Ok, Some, ap, sym}
use Rattle.mp_boxes.specs.Boxes.{Box}
use Rattle.mp_movie.specs.Children.{at_most_one, children}
use Rattle.mp_read.proofs.PartsInParts.{some_given, some_kind}
use Rattle.mp_read.proofs.moov.Moov.at_most_one.Goals as goal

pub returns-in-Some-clause-child : goal.returns-in-Some-clause-child
unfolding at_most_one children
returns-in-Some-clause-child c =
    let found = some_given _ _ _ _ c.args.kind _ c.in-Some.span c.body_place.ensures.place c.body.ensures c.in-Some.is c.in_ok-span.ensures.child in
    found.1 ∙ ap (λ (box : Box). Ok (Some box)) (sym (c.child.ensures.child found.0 found.2 (some_kind _ c.args.kind found.0 found.1)))
