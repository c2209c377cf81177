-- The sample entry of H.264 pictures (ISO/IEC 14496-15, 5.4.2).
use Rattle.std.specs.Prelude.{ℕ, List, [], ◌∷◌, codes}
use Rattle.mp_boxes.specs.Field.{Part, leaf, raw}
use Rattle.mp_boxes.specs.Table.{mixed}
use Rattle.mp_entries.specs.Visual.{visual_fields}

-- the box of the decoder's configuration (5.3.3.1), whose bytes these are
abbrev pub avcc : List ℕ → Part
avcc configuration = leaf (codes "avcC") (raw configuration ∷ [])

-- the most bytes of a configuration that is written
abbrev pub most_configuration : ℕ
most_configuration = 33554432

-- the entry of pictures of that width and height
abbrev pub avc1_entry : List ℕ → ℕ → ℕ → Part
avc1_entry configuration width height = mixed (codes "avc1") (visual_fields width height) (avcc configuration ∷ [])
