-- The movie header (ISO/IEC 14496-12, 8.2.2).
use Rattle.std.specs.Prelude.{◌≡◌, ℕ, ◌^◌, ◌<◌, Bool, ◌==◌, List, [], ◌∷◌, length, drop, codes, Result}
use Rattle.mp_ports.specs.declared.code.Code.{Code}
use Rattle.mp_ports.specs.declared.code.Code.TheVariants.{ScaleZero}
use Rattle.mp_ports.specs.declared.fault.Bad.{Bad}
use Rattle.mp_ports.specs.Checks.{first_code, unless, ◌>>=◌, placed}
use Rattle.mp_boxes.specs.declared.field.Field.TheVariants.{U16, U32}
use Rattle.mp_boxes.specs.Field.{Part, leaf, raw, time, version_and_flags, zeros}
use Rattle.mp_boxes.specs.Reading.{next_bytes, next_time, next_u16, next_u32, value_or}
use Rattle.mp_boxes.specs.FullBox.{first_field}
use Rattle.mp_headers.specs.Times.{wide_times}
use Rattle.mp_headers.specs.Matrix.{matrix_len}
use Rattle.mp_headers.specs.Version.{is_wide}
use Rattle.mp_headers.specs.declared.movie_header.Mvhd.{Mvhd}

-- version and flags, creation and modification time, timescale, duration, rate, volume, reserved,
-- matrix, predefined, next track number
abbrev pub mvhd : Mvhd → Part
mvhd m =
    let wide = is_wide m.created m.modified m.duration in
    leaf (codes "mvhd")
    (version_and_flags wide 0
    ∷ time wide m.created
    ∷ time wide m.modified
    ∷ U32 m.timescale
    ∷ time wide m.duration
    ∷ U32 m.rate
    ∷ U16 m.volume
    ∷ zeros 10
    ∷ raw m.matrix
    ∷ zeros 24
    ∷ U32 m.next_track
    ∷ [])

-- the fields behind version and flags, from left to right; the timescale isn't 0
unfoldable pub mvhd_from : Bool → List ℕ → Result Mvhd Code
mvhd_from wide text = do
  created ← next_time wide text
  modified ← next_time wide created.1
  timescale ← next_u32 modified.1
  duration ← next_time wide timescale.1
  rate ← next_u32 duration.1
  volume ← next_u16 rate.1
  reserved ← next_bytes 10 volume.1
  matrix ← next_bytes matrix_len reserved.1
  predefined ← next_bytes 24 matrix.1
  next_track ← next_u32 predefined.1
  unless (first_code ((timescale.0 == 0, ScaleZero) ∷ []))
      (record {
        created = created.0;
        modified = modified.0;
        timescale = timescale.0;
        duration = duration.0;
        rate = rate.0;
        volume = volume.0;
        matrix = matrix.0;
        next_track = next_track.0;
      })

-- the fields of the body of the box at `base`, or its first fault
abbrev pub mvhd_of : ℕ → List ℕ → Result Mvhd Bad
mvhd_of base body = placed base (wide_times body >>= λ wide. mvhd_from wide (drop first_field body))

-- no fields
abbrev pub no_mvhd : Mvhd
no_mvhd = record { created = 0; modified = 0; timescale = 0; duration = 0; rate = 0; volume = 0; matrix = []; next_track = 0 }

-- the fields of a body that has no fault
abbrev pub mvhd_fields : List ℕ → Mvhd
mvhd_fields body = value_or no_mvhd (mvhd_of 0 body)

-- each number fits its field, and the timescale isn't 0
pub record IsMvhd (m : Mvhd) : Type 0 where
  pub created : m.created < 2 ^ 64
  pub modified : m.modified < 2 ^ 64
  pub some_scale : 0 < m.timescale
  pub timescale : m.timescale < 2 ^ 32
  pub duration : m.duration < 2 ^ 64
  pub rate : m.rate < 2 ^ 32
  pub volume : m.volume < 2 ^ 16
  pub matrix : length m.matrix ≡ matrix_len
  pub next_track : m.next_track < 2 ^ 32
