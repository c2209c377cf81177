-- Profiles, and the part of a sequence parameter set that high profiles alone have: chroma format, bit depths and scaling lists
-- (H.264, 7.3.2.1.1, 7.3.2.1.1.1 and A.2).
use Rattle.std.specs.Prelude.{ℕ, zero, suc, ◌+◌, ◌%◌, ◌==◌, ◌||◌, Bool, if◌then◌else◌, List, [], ◌∷◌, ℤ, pos, neg_ℤ, nat_abs, ◌+ℤ◌}
use Rattle.mp_ports.specs.declared.code.Code.TheVariants.{SetProfile, Chroma}
use Rattle.avc_units.specs.declared.elements.ElementFail.TheVariants.{Refused}
use Rattle.avc_units.specs.Table.{Table, ◌>>=◌}
use Rattle.avc_units.specs.Table.Table.{Done, Fail}
use Rattle.avc_units.specs.Elements.{u, flag, ue_upto, se_within}
use Rattle.avc_sets.specs.declared.format.Format.{Format}
use Rattle.avc_sets.specs.declared.format.Scales.{Scales}

-- High, High 10 and High 4:2:2
abbrev pub is_high : ℕ → Bool
is_high profile = (profile == 100) || (profile == 110) || (profile == 122)

-- these, and Baseline, Main and Extended
abbrev pub is_profile : ℕ → Bool
is_profile profile = (profile == 66) || (profile == 77) || (profile == 88) || is_high profile

-- profile_idc
unfoldable pub profile : Table ℕ
profile = do
  idc ← u 8
  if is_profile idc then Done idc else Fail (Refused SetProfile)

-- the scale that differs so much from the last
abbrev pub scale_behind : ℕ → ℤ → ℕ
scale_behind last delta = nat_abs (pos last +ℤ delta +ℤ pos 256) % 256

-- one entry of a scaling list: a delta, unless the rest of the list is the last scale
unfoldable pub scale : Scales → Table Scales
scale scales = if scales.next == 0 then Done scales else (do
  delta ← se_within (neg_ℤ (pos 128)) (pos 127)
  let next = scale_behind scales.last delta in Done (record { last = if next == 0 then scales.last else next; next = next }))

-- so many entries
unfoldable pub scales_of : ℕ → Scales → Table (Unit {0})
scales_of zero scales = Done tt
scales_of (suc entries) scales = scale scales >>= scales_of entries

-- a scaling list of so many entries, where it is present; it begins with 8
unfoldable pub scaling_list : ℕ → Table (Unit {0})
scaling_list entries = do
  present ← flag
  if present then scales_of entries (record { last = 8; next = 8 }) else Done tt

-- scaling lists of these lengths
unfoldable pub scaling_lists : List ℕ → Table (Unit {0})
scaling_lists [] = Done tt
scaling_lists (entries ∷ others) = scaling_list entries >>= λ _. scaling_lists others

-- of 4 x 4 samples and of 8 x 8 samples
abbrev pub list_lengths : List ℕ
list_lengths = 16 ∷ 16 ∷ 16 ∷ 16 ∷ 16 ∷ 16 ∷ 64 ∷ 64 ∷ []

-- where the flag is set
unfoldable pub scaling_matrix : Table (Unit {0})
scaling_matrix = do
  present ← flag
  if present then scaling_lists list_lengths else Done tt

-- chroma_format_idc and the bit depths; without this part 4:2:0 and 8 bits
unfoldable pub format : ℕ → Table Format
format profile = if is_high profile then (do
  chroma ← ue_upto 3
  if chroma == 3 then Fail (Refused Chroma) else (do
    luma ← ue_upto 6
    depth ← ue_upto 6
    _ ← flag
    _ ← scaling_matrix
    Done (record { chroma = chroma; luma_depth = 8 + luma; chroma_depth = 8 + depth }))) else
    Done (record { chroma = 1; luma_depth = 8; chroma_depth = 8 })
