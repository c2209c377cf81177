-- The sample entry of pictures (ISO/IEC 14496-12, 12.1.3).
use Rattle.std.specs.Prelude.{ℕ, List, [], ◌∷◌}
use Rattle.mp_boxes.specs.declared.field.Field.{Field}
use Rattle.mp_boxes.specs.declared.field.Field.TheVariants.{U16, U32}
use Rattle.mp_boxes.specs.Field.{zeros}

-- VisualSampleEntry: reserved, data reference 1, reserved, width and height, 72 dots an inch each way,
-- reserved, one frame a sample, no name of a compressor, depth 24, −1
abbrev pub visual_fields : ℕ → ℕ → List Field
visual_fields width height =
    zeros 6
    ∷ U16 1
    ∷ zeros 16
    ∷ U16 width
    ∷ U16 height
    ∷ U32 0x00480000
    ∷ U32 0x00480000
    ∷ U32 0
    ∷ U16 1
    ∷ zeros 32
    ∷ U16 24
    ∷ U16 0xFFFF
    ∷ []
