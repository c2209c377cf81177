-- The references of a slice: how many there are, and how their lists are modified (H.264, 7.3.3 and 7.3.3.1).
use Rattle.std.specs.Prelude.{ℕ, zero, suc, ◌+◌, ◌==◌, ◌||◌, Bool, if◌then◌else◌}
use Rattle.avc_units.specs.declared.elements.ElementFail.TheVariants.{Syntax}
use Rattle.avc_units.specs.Table.{Table, ◌>>=◌}
use Rattle.avc_units.specs.Table.Table.{Done, Fail}
use Rattle.avc_units.specs.Elements.{flag, ue, ue_upto}
use Rattle.avc_sets.specs.Set.{PictureSet}
use Rattle.avc_slices.specs.declared.references.References.{References}

-- slice_type modulo 5 (Table 7-6): 0 P, 1 B, 2 I, 3 SP, 4 SI
abbrev pub is_b : ℕ → Bool
is_b kind = kind == 1

-- P and SP
abbrev pub is_p : ℕ → Bool
is_p kind = (kind == 0) || (kind == 3)

-- the pictures that it is predicted from stand in a list, of a B slice in two
abbrev pub is_predicted : ℕ → Bool
is_predicted kind = is_p kind || is_b kind

-- direct_spatial_mv_pred_flag
unfoldable pub direct : ℕ → Table (Unit {0})
direct kind = if is_b kind then (do
  _ ← flag
  Done tt) else Done tt

-- num_ref_idx_l1_active_minus1, of a B slice; else so many
unfoldable pub second_list : ℕ → ℕ → Table ℕ
second_list kind refs1 = if is_b kind then (do
  less ← ue_upto 31
  Done (less + 1)) else Done refs1

-- the numbers of references: those of the picture parameter set, unless they are overridden
unfoldable pub references : ℕ → PictureSet → Table References
references kind p = if is_predicted kind then (do
  override ← flag
  if override then (do
    less ← ue_upto 31
    second ← second_list kind p.refs1
    Done (record { first = less + 1; second = second })) else Done (record { first = p.refs0; second = p.refs1 })) else
    Done (record { first = p.refs0; second = p.refs1 })

-- at most n changes of a list, up to the operation 3
unfoldable pub changes : ℕ → Table (Unit {0})
changes zero = Fail Syntax
changes (suc n) = do
  operation ← ue_upto 3
  if operation == 3 then Done tt else (do
    _ ← ue
    changes n)

-- the changes of a list, where the flag is set
unfoldable pub modification : ℕ → Table (Unit {0})
modification n = do
  modified ← flag
  if modified then changes n else Done tt

-- of the second list
unfoldable pub second_modification : ℕ → ℕ → Table (Unit {0})
second_modification n kind = if is_b kind then modification n else Done tt

-- of each list
unfoldable pub modifications : ℕ → ℕ → Table (Unit {0})
modifications n kind = if is_predicted kind then (do
  _ ← modification n
  second_modification n kind) else Done tt
