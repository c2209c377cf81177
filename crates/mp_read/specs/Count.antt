-- How many samples a track has, by the boxes that say so (ISO/IEC 14496-12, 8.6.1 and 8.7.3).
use Rattle.std.specs.Prelude.{◌≡◌, ℕ, [], ◌∷◌, IfSome, Option, Some, None, Result, Ok, true, false, not, ◌==◌}
use Rattle.mp_ports.specs.declared.code.Code.TheVariants.{CountMismatch}
use Rattle.mp_ports.specs.declared.fault.Bad.{Bad}
use Rattle.mp_ports.specs.Checks.{fault_at, first_code, ◌>>=◌}
use Rattle.mp_boxes.specs.Boxes.{Box}
use Rattle.mp_times.specs.Times.{unfolded}
use Rattle.mp_chunks.specs.Sizes.{sample_count, size_checks}
use Rattle.mp_movie.specs.TrackBoxes.{TrackBoxes}
use Rattle.mp_movie.specs.SampleTable.{bodies_in, unfolded_at}
use Rattle.mp_read.specs.declared.count.Counted.{Counted}

-- how many samples `ctts` has an offset for, where it is there
abbrev pub counted_offsets : Option Box → Result (Option Counted) Bad
counted_offsets None = Ok None
counted_offsets (Some ctts) = unfolded_at true ctts >>= λ samples. Ok (Some (record { samples = samples; place = ctts.place }))

-- they are as many as the samples
abbrev pub offsets_fault : Option Counted → ℕ → Option Bad
offsets_fault None samples = None
offsets_fault (Some counted) samples = fault_at counted.place (first_code ((not (counted.samples == samples), CountMismatch) ∷ []))

-- each of the tables that say how many samples there are says so many
pub record AreCounted (boxes : TrackBoxes) (samples : ℕ) : Type 0 where
  pub durations : unfolded false boxes.stts.body ≡ Ok samples
  pub offsets : IfSome boxes.ctts (λ ctts. unfolded true ctts.body ≡ Ok samples)
  pub whole : first_code (size_checks (bodies_in boxes).compact boxes.sizes.body) ≡ None
  pub count : sample_count boxes.sizes.body ≡ samples
