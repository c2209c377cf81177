-- The decoder configuration record that an entry keeps (ISO/IEC 14496-15, 5.3.3.1).
use Rattle.std.specs.Prelude.{ℕ, ◌+◌, ◌-◌, if◌then◌else◌, List, [], ◌∷◌, ◌++◌, length, map}
use Rattle.std.specs.List.{flat_map}
use Rattle.std.specs.declared.alloc.Global.{Global}
use Rattle.std.specs.declared.vec.Vec.{Vec}
use Rattle.std.specs.Int.{w16, to_be_bytes}
use Rattle.avc_sets.specs.Set.{SequenceSet}
use Rattle.avc_sets.specs.Format.{is_high}

-- the bytes of vectors
abbrev pub items_of : List (Vec ℕ Global) → List (List ℕ)
items_of sets = map (λ set. set.items) sets

-- a parameter set behind its length
abbrev pub set_bytes : List ℕ → List ℕ
set_bytes set = to_be_bytes w16 (length set) ++ set

-- chroma format and bit depths, each behind bits that are set, and no extension of the sequence parameter set: for high profiles
abbrev pub format_bytes : SequenceSet → List ℕ
format_bytes s =
    if is_high s.profile then (252 + s.chroma) ∷ (248 + (s.luma_depth - 8)) ∷ (248 + (s.chroma_depth - 8)) ∷ 0 ∷ [] else []

-- version 1, profile, compatibility, level, lengths of 4 bytes; one sequence parameter set, and these picture parameter sets
unfoldable pub configuration : List ℕ → SequenceSet → List (List ℕ) → List ℕ
configuration sps s pps =
    (1 ∷ s.profile ∷ s.compat ∷ s.level ∷ 255 ∷ 225 ∷ [])
    ++ set_bytes sps
    ++ (length pps ∷ [])
    ++ flat_map set_bytes pps
    ++ format_bytes s
