use Rattle.std.proofs.Common.{◌∙◌, Ok, ap, sym}
use Rattle.mp_movie.specs.Children.{children, one}
use Rattle.mp_read.proofs.PartsInParts.{one_kind}
use Rattle.mp_read.proofs.moov.Moov.one.Goals as goal

pub returns-clause-child : goal.returns-clause-child
unfolding one children
returns-clause-child c =
    let found = rw (c.body.ensures, c.body_place.ensures.place) at c.in_ok-span.ensures.child in
    found.1 ∙ ap Ok (sym (c.child.ensures.child found.0 found.2 (one_kind _ _ c.args.kind found.0 found.1)))
