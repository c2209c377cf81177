-- The weights of a slice's references (H.264, 7.3.3.2).
use Rattle.std.specs.Prelude.{ℕ, zero, suc, ◌==◌, ◌&&◌, ◌||◌, Bool, not, if◌then◌else◌}
use Rattle.avc_units.specs.Table.{Table, ◌>>=◌}
use Rattle.avc_units.specs.Table.Table.{Done}
use Rattle.avc_units.specs.Elements.{flag, ue_upto, se}
use Rattle.avc_sets.specs.Set.{SequenceSet, PictureSet}
use Rattle.avc_slices.specs.declared.references.References.{References}
use Rattle.avc_slices.specs.References.{is_b, is_p}

-- weighted_pred_flag for P and SP slices, weighted_bipred_idc 1 for B slices
abbrev pub is_weighted : ℕ → PictureSet → Bool
is_weighted kind p = (p.weighted && is_p kind) || ((p.bipred == 1) && is_b kind)

-- samples have chroma: ChromaArrayType isn't 0
abbrev pub has_chroma : SequenceSet → Bool
has_chroma s = not (s.chroma == 0)

-- luma_log2_weight_denom and chroma_log2_weight_denom
unfoldable pub denominators : Bool → Table (Unit {0})
denominators chroma = do
  _ ← ue_upto 7
  if chroma then (do
    _ ← ue_upto 7
    Done tt) else Done tt

-- a weight and an offset
unfoldable pub weight : Table (Unit {0})
weight = do
  _ ← se
  _ ← se
  Done tt

-- of luma, where the flag is set
unfoldable pub luma_weight : Table (Unit {0})
luma_weight = do
  set ← flag
  if set then weight else Done tt

-- of Cb and of Cr, where the flag is set
unfoldable pub chroma_weights : Bool → Table (Unit {0})
chroma_weights chroma = if chroma then (do
  set ← flag
  if set then (do
    _ ← weight
    weight) else Done tt) else Done tt

-- of so many references
unfoldable pub weights : Bool → ℕ → Table (Unit {0})
weights chroma zero = Done tt
weights chroma (suc n) = do
  _ ← luma_weight
  _ ← chroma_weights chroma
  weights chroma n

-- of the second list
unfoldable pub second_weights : ℕ → Bool → ℕ → Table (Unit {0})
second_weights kind chroma refs1 = if is_b kind then weights chroma refs1 else Done tt

-- of each list, where the slice is weighted
unfoldable pub weight_table : ℕ → SequenceSet → PictureSet → References → Table (Unit {0})
weight_table kind s p refs = if is_weighted kind p then (do
  _ ← denominators (has_chroma s)
  _ ← weights (has_chroma s) refs.first
  second_weights kind (has_chroma s) refs.second) else Done tt
