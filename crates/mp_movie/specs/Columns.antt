-- The samples of a track, column by column, one item for each sample (ISO/IEC 14496-12, 8.6.1, 8.6.2 and 8.7.3).
use Rattle.std.specs.Prelude.{ℕ, ℤ, pos, ◌-ℤ◌, List, map, length, if◌then◌else◌}
use Rattle.mp_timeline.specs.Movie.{SampleRecord}

-- its duration
abbrev pub durations : List SampleRecord → List ℤ
durations samples = map (λ sample. pos sample.dur) samples

-- its composition offset: composition time less decode time
abbrev pub composition_offsets : List SampleRecord → List ℤ
composition_offsets samples = map (λ sample. sample.comp -ℤ pos sample.decode) samples

-- 1 where it is a sync sample, else 0
abbrev pub sync_marks : List SampleRecord → List ℤ
sync_marks samples = map (λ sample. if sample.sync then pos 1 else pos 0) samples

-- how many bytes it has
abbrev pub sizes : List SampleRecord → List ℕ
sizes samples = map (λ sample. length sample.bytes) samples

-- the number of its entry
abbrev pub entry_numbers : List SampleRecord → List ℤ
entry_numbers samples = map (λ sample. pos sample.entry) samples
