-- The headers of a stream's slices, by the sets that stand before them (H.264, 7.3.3).
use Rattle.std.specs.Prelude.{ℕ, suc, List, length, slice_index, Option, Some, None, Result}
use Rattle.mp_ports.specs.declared.code.Code.{Code}
use Rattle.mp_ports.specs.declared.code.Code.TheVariants.{SliceSyntax}
use Rattle.avc_sets.specs.Set.{SequenceSet}
use Rattle.avc_slices.specs.declared.slice.Slice.{Slice}
use Rattle.avc_slices.specs.Header.{header}
use Rattle.avc_slices.specs.Unit.{nal_of}
use Rattle.avc_import.specs.Sets.{ParameterSets, bits_in, says, sequence_of}

-- the header of a slice, by the sets that stand before it; in its repetitions are fewer than n operations
unfoldable pub slice_within : ℕ → ParameterSets → List ℕ → Result Slice Code
slice_within n sets unit = says SliceSyntax (header n (nal_of (slice_index unit 0)) (sequence_of sets) sets.pictures) (bits_in unit)

-- each operation has a bit
abbrev pub slice_in : ParameterSets → List ℕ → Result Slice Code
slice_in sets unit = slice_within (suc (length (bits_in unit))) sets unit

-- the type of order counts
abbrev pub count_type : Option SequenceSet → ℕ
count_type None = 0
count_type (Some s) = s.poc_type
