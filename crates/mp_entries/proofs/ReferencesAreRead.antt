-- The data reference that is written is the one that is read.
use Rattle.std.proofs.Common.{◌≡◌, ℕ, true, [], ◌∷◌, Ok, refl}
use Rattle.mp_boxes.specs.Boxes.{walk}
use Rattle.mp_boxes.specs.Field.{box_bytes, boxes_bytes}
use Rattle.mp_boxes.specs.FullBox.{table_fault}
use Rattle.mp_boxes.specs.Number.{u32_at, kind_at}
use Rattle.mp_entries.specs.Reference.{dref, dref_of}

pub references_are_read : (place base : ℕ) → dref_of place base dref.body ≡ Ok (true ∷ [])
unfolding dref_of walk box_bytes boxes_bytes table_fault u32_at kind_at
references_are_read place base = refl
