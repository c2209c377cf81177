-- How decoded pictures are marked as references (H.264, 7.3.3.3).
use Rattle.std.specs.Prelude.{ℕ, zero, suc, ◌==◌, if◌then◌else◌}
use Rattle.mp_ports.specs.declared.code.Code.TheVariants.{Marking5}
use Rattle.avc_units.specs.declared.elements.ElementFail.TheVariants.{Syntax, Refused}
use Rattle.avc_units.specs.Table.{Table, ◌>>=◌}
use Rattle.avc_units.specs.Table.Table.{Done, Fail}
use Rattle.avc_units.specs.Elements.{flag, ue, ue_upto}
use Rattle.avc_slices.specs.declared.unit.Nal.{Nal}

-- long_term_frame_idx behind a difference
unfoldable pub long_term_index : ℕ → Table (Unit {0})
long_term_index operation = if operation == 3 then (do
  _ ← ue
  Done tt) else Done tt

-- what follows memory_management_control_operation; 5, which begins the counts anew, isn't read
unfoldable pub operands : ℕ → Table (Unit {0})
operands operation = if operation == 5 then Fail (Refused Marking5) else (do
  _ ← ue
  long_term_index operation)

-- at most n operations, up to the operation 0
unfoldable pub operations : ℕ → Table (Unit {0})
operations zero = Fail Syntax
operations (suc n) = do
  operation ← ue_upto 6
  if operation == 0 then Done tt else (do
    _ ← operands operation
    operations n)

-- no_output_of_prior_pics_flag and long_term_reference_flag
unfoldable pub idr_marking : Table (Unit {0})
idr_marking = do
  _ ← flag
  _ ← flag
  Done tt

-- the operations, where adaptive_ref_pic_marking_mode_flag is set
unfoldable pub adaptive_marking : ℕ → Table (Unit {0})
adaptive_marking n = do
  adaptive ← flag
  if adaptive then operations n else Done tt

-- of pictures that are references
unfoldable pub marking : ℕ → Nal → Table (Unit {0})
marking n nal = if nal.ref_idc == 0 then Done tt else (if nal.idr then idr_marking else adaptive_marking n)
