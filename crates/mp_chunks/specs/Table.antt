-- The body of a box in the bytes of its container.
use Rattle.std.specs.Prelude.{ℕ, List, slice_range}
use Rattle.mp_boxes.specs.declared.child.Span.{Span}

-- the body of a box by its span
abbrev pub body_of : List ℕ → Span → List ℕ
body_of bytes span = slice_range bytes span.from span.to
