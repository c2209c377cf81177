-- The slice header, element by element (H.264, 7.3.3). At most n operations stand in a repetition: n bits have no more.
use Rattle.std.specs.Prelude.{ℕ, ◌==◌, ◌&&◌, ◌%◌, Bool, List, [], ◌∷◌, if◌then◌else◌, Option, Some, None, ℤ, pos}
use Rattle.mp_ports.specs.declared.code.Code.TheVariants.{SetMissing, FieldPicture, Redundant}
use Rattle.avc_units.specs.declared.elements.ElementFail.TheVariants.{Syntax, Refused}
use Rattle.avc_units.specs.Table.{Table, ◌>>=◌}
use Rattle.avc_units.specs.Table.Table.{Done, Fail}
use Rattle.avc_units.specs.Elements.{u, flag, ue, ue_upto, se}
use Rattle.avc_sets.specs.Set.{SequenceSet, PictureSet}
use Rattle.avc_slices.specs.declared.header.Order.{Order}
use Rattle.avc_slices.specs.declared.slice.Slice.{Slice}
use Rattle.avc_slices.specs.declared.unit.Nal.{Nal}
use Rattle.avc_slices.specs.References.{direct, references, modifications}
use Rattle.avc_slices.specs.Weights.{weight_table}
use Rattle.avc_slices.specs.Marking.{marking}

-- the picture parameter set of that number
abbrev pub set_of : List PictureSet → ℕ → Option PictureSet
set_of [] number = None
set_of (p ∷ ps) number = if p.number == number then Some p else set_of ps number

-- field_pic_flag, where pictures may be fields
unfoldable pub frame : Bool → Table (Unit {0})
frame frames_only = if frames_only then Done tt else (do
  field ← flag
  if field then Fail (Refused FieldPicture) else Done tt)

-- idr_pic_id
unfoldable pub idr_number : Bool → Table ℕ
idr_number idr = if idr then ue_upto 65535 else Done 0

-- delta_pic_order_cnt_bottom
unfoldable pub bottom_difference : Bool → Table ℤ
bottom_difference present = if present then se else Done (pos 0)

-- pic_order_cnt_lsb and delta_pic_order_cnt_bottom, for counts of type 0
unfoldable pub order : SequenceSet → PictureSet → Table Order
order s p = if s.poc_type == 0 then (do
  lsb ← u s.poc_bits
  bottom ← bottom_difference p.bottom_order
  Done (record { lsb = lsb; bottom = bottom })) else Done (record { lsb = 0; bottom = pos 0 })

-- redundant_pic_cnt
unfoldable pub primary : Bool → Table (Unit {0})
primary present = if present then (do
  count ← ue
  if count == 0 then Done tt else Fail (Refused Redundant)) else Done tt

-- from the references to the marking
unfoldable pub prediction : ℕ → Nal → ℕ → SequenceSet → PictureSet → Table (Unit {0})
prediction n nal kind s p = do
  _ ← direct kind
  refs ← references kind p
  _ ← modifications n kind
  _ ← weight_table kind s p refs
  marking n nal

-- behind the numbers of the slice's sets
unfoldable pub picture_part : ℕ → Nal → ℕ → SequenceSet → PictureSet → Table Slice
picture_part n nal kind s p = do
  frame_num ← u s.frame_bits
  _ ← frame s.frames_only
  idr_id ← idr_number nal.idr
  count ← order s p
  _ ← primary p.redundant
  _ ← prediction n nal kind s p
  Done (record {
    idr = nal.idr;
    ref_idc = nal.ref_idc;
    pps = p.number;
    frame_num = frame_num;
    idr_id = idr_id;
    lsb = count.lsb;
    bottom = count.bottom;
  })

-- the same, where both sets are there
abbrev pub of_sets : ℕ → Nal → ℕ → Option SequenceSet → Option PictureSet → Table Slice
of_sets n nal kind (Some s) (Some p) = if s.number == p.sps then picture_part n nal kind s p else Fail (Refused SetMissing)
of_sets n nal kind None found = Fail (Refused SetMissing)
of_sets n nal kind sps None = Fail (Refused SetMissing)

-- the header of a unit with this first byte; an IDR picture is a reference (7.4.1)
unfoldable pub header : ℕ → Nal → Option SequenceSet → List PictureSet → Table Slice
header n nal sps pps = if nal.idr && (nal.ref_idc == 0) then Fail Syntax else (do
  _ ← ue
  kind ← ue_upto 9
  number ← ue_upto 255
  of_sets n nal (kind % 5) sps (set_of pps number))
