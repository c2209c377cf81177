-- The picture parameter set, element by element (H.264, 7.3.2.2).
use Rattle.std.specs.Prelude.{◌+◌, ◌==◌, if◌then◌else◌}
use Rattle.mp_ports.specs.declared.code.Code.TheVariants.{SliceGroups}
use Rattle.avc_units.specs.declared.elements.ElementFail.TheVariants.{Refused}
use Rattle.avc_units.specs.Table.{Table, ◌>>=◌}
use Rattle.avc_units.specs.Table.Table.{Done, Fail}
use Rattle.avc_units.specs.Elements.{u, flag, ue, ue_upto, se}
use Rattle.avc_sets.specs.Set.{PictureSet}

-- num_slice_groups_minus1: one slice group
unfoldable pub one_slice_group : Table (Unit {0})
one_slice_group = do
  more ← ue
  if more == 0 then Done tt else Fail (Refused SliceGroups)

-- the initial quantisers and the offset of chroma, then whether the deblocking is controlled and the intra prediction constrained
unfoldable pub quantisers : Table (Unit {0})
quantisers = do
  _ ← se
  _ ← se
  _ ← se
  _ ← flag
  _ ← flag
  Done tt

-- the set; what stands behind these elements isn't read
unfoldable pub picture : Table PictureSet
picture = do
  number ← ue_upto 255
  sps ← ue_upto 31
  _ ← flag
  bottom_order ← flag
  _ ← one_slice_group
  refs0 ← ue_upto 31
  refs1 ← ue_upto 31
  weighted ← flag
  bipred ← u 2
  _ ← quantisers
  redundant ← flag
  Done (record {
    number = number;
    sps = sps;
    bottom_order = bottom_order;
    refs0 = refs0 + 1;
    refs1 = refs1 + 1;
    weighted = weighted;
    bipred = bipred;
    redundant = redundant;
  })
