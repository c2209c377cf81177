-- The edit list box as it is written (ISO/IEC 14496-12, 8.6.6).
use Rattle.std.specs.Prelude.{◌^◌, ◌-◌, Bool, true, false, ◌||◌, nat_lt, List, [], ◌∷◌, map, codes}
use Rattle.std.specs.List.{list_any}
use Rattle.mp_timeline.specs.declared.segment.Segment.{Segment}
use Rattle.mp_timeline.specs.declared.segment.Segment.TheVariants.{Empty, Media}
use Rattle.mp_boxes.specs.declared.field.Field.{Field}
use Rattle.mp_boxes.specs.declared.field.Field.TheVariants.{U16, U32, U64}
use Rattle.mp_boxes.specs.Field.{Part, leaf, time}
use Rattle.mp_boxes.specs.Table.{table_fields}

-- a duration, or a media time as a signed number, does not fit 32 bits
abbrev pub is_long : Segment → Bool
is_long (Empty dur) = nat_lt (2 ^ 32 - 1) dur
is_long (Media start dur) = nat_lt (2 ^ 32 - 1) dur || nat_lt (2 ^ 31 - 1) start

-- version 1 is written exactly where a segment needs it
abbrev pub needs_wide : List Segment → Bool
needs_wide edits = list_any is_long edits

-- the media time −1: all bits are set
abbrev pub no_media : Bool → Field
no_media true = U64 (2 ^ 64 - 1)
no_media false = U32 (2 ^ 32 - 1)

-- segment duration, media time, media rate 1 and its fraction 0
abbrev pub entry_fields : Bool → Segment → List Field
entry_fields wide (Empty dur) = time wide dur ∷ no_media wide ∷ U16 1 ∷ U16 0 ∷ []
entry_fields wide (Media start dur) = time wide dur ∷ time wide start ∷ U16 1 ∷ U16 0 ∷ []

-- a table of the entries
abbrev pub elst : List Segment → Part
elst edits = let wide = needs_wide edits in leaf (codes "elst") (table_fields wide (map (entry_fields wide) edits))
