-- The file type box (ISO/IEC 14496-12, 4.3).
use Rattle.std.specs.Prelude.{[], ◌∷◌, codes}
use Rattle.mp_boxes.specs.declared.field.Field.TheVariants.{U32}
use Rattle.mp_boxes.specs.Field.{Part, leaf, raw}

-- major brand, minor version, compatible brands
abbrev pub ftyp : Part
ftyp =
    leaf (codes "ftyp")
    (raw (codes "isom")
    ∷ U32 1
    ∷ raw (codes "isom")
    ∷ raw (codes "iso4")
    ∷ raw (codes "mp42")
    ∷ [])
