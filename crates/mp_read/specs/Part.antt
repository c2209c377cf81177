-- The boxes of a movie in memory: where each stands in bytes that stand at a place of the file (ISO/IEC 14496-12, 4.2).
use Rattle.std.specs.Prelude.{ℕ, ◌+◌, ◌-◌, ◌≤◌, List, slice_range}
use Rattle.mp_boxes.specs.declared.child.ChildBox.{ChildBox}
use Rattle.mp_boxes.specs.Boxes.{Box}
use Rattle.mp_boxes.specs.Child.{IsWithin}
use Rattle.mp_read.specs.declared.moov.Moov.{Moov}

-- the box whose body stands there in bytes that stand at `base`, behind its header
abbrev pub box_in : ℕ → List ℕ → ChildBox → Box
box_in base bytes part = record {
  kind = part.kind;
  header = slice_range bytes (part.span.place - base) part.span.from;
  body = slice_range bytes part.span.from part.span.to;
  place = part.span.place;
}

-- the box that stands there in the movie
abbrev pub part_of : Moov → ChildBox → Box
part_of moov part = box_in moov.base moov.bytes.now part

-- header and body lie in bytes that stand at `base`
pub record IsInside (base : ℕ) (bytes : List ℕ) (part : ChildBox) : Type 0 where
  pub begins : base ≤ part.span.place
  pub header : part.span.place ≤ base + part.span.from
  pub within : IsWithin bytes part.span

-- they lie in the movie
abbrev pub IsPart : Moov → ChildBox → Type 0
IsPart moov part = IsInside moov.base moov.bytes.now part
