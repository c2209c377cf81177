-- The size of the pictures of a sequence: macroblocks, map units and cropping (H.264, 7.3.2.1.1 and 7.4.2.1.1).
use Rattle.std.specs.Prelude.{ℕ, ◌+◌, ◌-◌, ◌*◌, ◌==◌, ◌&&◌, nat_le, Bool, if◌then◌else◌}
use Rattle.avc_units.specs.declared.elements.ElementFail.TheVariants.{Syntax}
use Rattle.avc_units.specs.Table.{Table, ◌>>=◌}
use Rattle.avc_units.specs.Table.Table.{Done, Fail}
use Rattle.avc_units.specs.Elements.{flag, ue}
use Rattle.avc_sets.specs.declared.size.Crop.{Crop}
use Rattle.avc_sets.specs.declared.size.Size.{Size}

-- frame cropping, in crop units
unfoldable pub crop : Table Crop
crop = do
  present ← flag
  if present then (do
    left ← ue
    right ← ue
    top ← ue
    bottom ← ue
    Done (record { left = left; right = right; top = top; bottom = bottom })) else Done (record { left = 0; right = 0; top = 0; bottom = 0 })

-- how many fields a frame is coded as: a map unit has as many rows of macroblocks
abbrev pub fields_of : Bool → ℕ
fields_of frames_only = if frames_only then 1 else 2

-- CropUnitX: two samples with chroma at half the width
abbrev pub crop_columns : ℕ → ℕ
crop_columns chroma = if chroma == 0 then 1 else 2

-- CropUnitY: two samples with chroma at half the height, of each field
abbrev pub crop_rows : ℕ → Bool → ℕ
crop_rows chroma frames_only = (if chroma == 1 then 2 else 1) * fields_of frames_only

-- in samples, of so many macroblocks; 0 where all is cropped
abbrev pub width : ℕ → ℕ → Crop → ℕ
width chroma macroblocks crop = 16 * macroblocks - crop_columns chroma * (crop.left + crop.right)

-- in samples, of so many map units; 0 where all is cropped
abbrev pub height : ℕ → Bool → ℕ → Crop → ℕ
height chroma frames_only map_units crop = 16 * fields_of frames_only * map_units - crop_rows chroma frames_only * (crop.top + crop.bottom)

-- a width or a height that a sample entry can state
abbrev pub is_extent : ℕ → Bool
is_extent samples = nat_le 1 samples && nat_le samples 65535

-- mb_adaptive_frame_field_flag, where pictures may be fields
unfoldable pub adaptive : Bool → Table (Unit {0})
adaptive frames_only = if frames_only then Done tt else (do
  _ ← flag
  Done tt)

-- the size, where an entry can state it
abbrev pub sized : Bool → ℕ → ℕ → Table Size
sized frames_only across down =
    if is_extent across && is_extent down then Done (record { frames_only = frames_only; width = across; height = down }) else Fail Syntax

-- from the width in macroblocks to the cropping
unfoldable pub size : ℕ → Table Size
size chroma = do
  columns ← ue
  units ← ue
  frames_only ← flag
  _ ← adaptive frames_only
  _ ← flag
  cut ← crop
  sized frames_only (width chroma (columns + 1) cut) (height chroma frames_only (units + 1) cut)
