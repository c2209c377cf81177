-- The rows of entries are of one length.
use Rattle.std.proofs.Common.{ℕ, Bool, true, false, List, [], ◌∷◌, map, refl}
use Rattle.std.specs.List.{AllByRecursion}
use Rattle.mp_timeline.specs.declared.segment.Segment.{Segment}
use Rattle.mp_timeline.specs.declared.segment.Segment.TheVariants.{Empty, Media}
use Rattle.mp_boxes.specs.Field.{body_bytes}
use Rattle.mp_boxes.specs.Table.{HasWidth}
use Rattle.mp_edits.specs.Entry.{entry_len}
use Rattle.mp_edits.specs.Written.{entry_fields}

-- the bytes of one entry
abbrev pub entry_bytes : Bool → Segment → List ℕ
entry_bytes wide edit = body_bytes (entry_fields wide edit)

width_one : (wide : Bool) (edit : Segment) → HasWidth (entry_len wide) (entry_fields wide edit)
width_one true (Empty dur) = refl
width_one true (Media start dur) = refl
width_one false (Empty dur) = refl
width_one false (Media start dur) = refl

pub width_each : (wide : Bool) (edits : List Segment) → AllByRecursion (HasWidth (entry_len wide)) (map (entry_fields wide) edits)
width_each wide [] = tt
width_each wide (edit ∷ edits) = (width_one wide edit, width_each wide edits)
