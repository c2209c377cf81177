use Rattle.std.proofs.Common.{[], ◌∷◌, drop}
use Rattle.mp_boxes.specs.Field.{body_bytes}
use Rattle.mp_boxes.specs.Push.{IsLeft}
use Rattle.mp_boxes.proofs.push.push_fields.Given as goal

-- the fields that are left stand in the place of all
abbrev pub invariant-loop-field : goal.invariant-loop-field
invariant-loop-field l = IsLeft l.fn.out l.out (body_bytes l.fields ∷ []) (body_bytes (drop l.field-index l.fields) ∷ [])
