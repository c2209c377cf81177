-- The media header (ISO/IEC 14496-12, 8.4.2).
use Rattle.std.specs.Prelude.{ℕ, ◌^◌, ◌<◌, Bool, ◌==◌, List, [], ◌∷◌, drop, codes, Result}
use Rattle.mp_ports.specs.declared.code.Code.{Code}
use Rattle.mp_ports.specs.declared.code.Code.TheVariants.{ScaleZero}
use Rattle.mp_ports.specs.declared.fault.Bad.{Bad}
use Rattle.mp_ports.specs.Checks.{first_code, unless, ◌>>=◌, placed}
use Rattle.mp_boxes.specs.declared.field.Field.TheVariants.{U16, U32}
use Rattle.mp_boxes.specs.Field.{Part, leaf, time, version_and_flags, zeros}
use Rattle.mp_boxes.specs.Reading.{next_bytes, next_time, next_u16, next_u32, value_or}
use Rattle.mp_boxes.specs.FullBox.{first_field}
use Rattle.mp_headers.specs.Times.{wide_times}
use Rattle.mp_headers.specs.Version.{is_wide}
use Rattle.mp_headers.specs.declared.media_header.Mdhd.{Mdhd}

-- version and flags, creation and modification time, timescale, duration, language, predefined
abbrev pub mdhd : Mdhd → Part
mdhd m =
    let wide = is_wide m.created m.modified m.duration in
    leaf (codes "mdhd")
    (version_and_flags wide 0
    ∷ time wide m.created
    ∷ time wide m.modified
    ∷ U32 m.timescale
    ∷ time wide m.duration
    ∷ U16 m.language
    ∷ zeros 2
    ∷ [])

-- the fields behind version and flags, from left to right; the timescale isn't 0
unfoldable pub mdhd_from : Bool → List ℕ → Result Mdhd Code
mdhd_from wide text = do
  created ← next_time wide text
  modified ← next_time wide created.1
  timescale ← next_u32 modified.1
  duration ← next_time wide timescale.1
  language ← next_u16 duration.1
  predefined ← next_bytes 2 language.1
  unless (first_code ((timescale.0 == 0, ScaleZero) ∷ []))
      (record { created = created.0; modified = modified.0; timescale = timescale.0; duration = duration.0; language = language.0 })

-- the fields of the body of the box at `base`, or its first fault
abbrev pub mdhd_of : ℕ → List ℕ → Result Mdhd Bad
mdhd_of base body = placed base (wide_times body >>= λ wide. mdhd_from wide (drop first_field body))

-- no fields
abbrev pub no_mdhd : Mdhd
no_mdhd = record { created = 0; modified = 0; timescale = 0; duration = 0; language = 0 }

-- the fields of a body that has no fault
abbrev pub mdhd_fields : List ℕ → Mdhd
mdhd_fields body = value_or no_mdhd (mdhd_of 0 body)

-- each number fits its field, and the timescale isn't 0
pub record IsMdhd (m : Mdhd) : Type 0 where
  pub created : m.created < 2 ^ 64
  pub modified : m.modified < 2 ^ 64
  pub some_scale : 0 < m.timescale
  pub timescale : m.timescale < 2 ^ 32
  pub duration : m.duration < 2 ^ 64
  pub language : m.language < 2 ^ 16
