-- The sequence parameter set, element by element (H.264, 7.3.2.1.1).
use Rattle.std.specs.Prelude.{◌+◌, ◌==◌, if◌then◌else◌}
use Rattle.mp_ports.specs.declared.code.Code.TheVariants.{PocType}
use Rattle.avc_units.specs.declared.elements.ElementFail.TheVariants.{Refused}
use Rattle.avc_units.specs.Table.{Table, ◌>>=◌}
use Rattle.avc_units.specs.Table.Table.{Done, Fail}
use Rattle.avc_units.specs.Elements.{u, flag, ue, ue_upto}
use Rattle.avc_sets.specs.declared.sequence.Order.{Order}
use Rattle.avc_sets.specs.Set.{SequenceSet}
use Rattle.avc_sets.specs.Format.{profile, format}
use Rattle.avc_sets.specs.Size.{size}
use Rattle.avc_sets.specs.Usability.{usability}

-- pic_order_cnt_type, and log2_max_pic_order_cnt_lsb for type 0
unfoldable pub order : Table Order
order = do
  poc_type ← ue_upto 2
  if poc_type == 1 then Fail (Refused PocType) else
      (if poc_type == 0 then (do
        less ← ue_upto 12
        Done (record { poc_type = 0; poc_bits = less + 4 })) else Done (record { poc_type = 2; poc_bits = 0 }))

-- max_num_ref_frames and gaps_in_frame_num_value_allowed_flag
unfoldable pub references : Table (Unit {0})
references = do
  _ ← ue
  _ ← flag
  Done tt

-- the set
unfoldable pub sequence : Table SequenceSet
sequence = do
  idc ← profile
  compat ← u 8
  level ← u 8
  number ← ue_upto 31
  kind ← format idc
  frame ← ue_upto 12
  count ← order
  _ ← references
  extent ← size kind.chroma
  tick ← usability
  Done (record {
    profile = idc;
    compat = compat;
    level = level;
    number = number;
    chroma = kind.chroma;
    luma_depth = kind.luma_depth;
    chroma_depth = kind.chroma_depth;
    frame_bits = frame + 4;
    poc_type = count.poc_type;
    poc_bits = count.poc_bits;
    frames_only = extent.frames_only;
    width = extent.width;
    height = extent.height;
    tick = tick;
  })
