-- The track header (ISO/IEC 14496-12, 8.3.2).
use Rattle.std.specs.Prelude.{◌≡◌, ℕ, ◌^◌, ◌<◌, Bool, List, [], ◌∷◌, length, drop, codes, Result, Ok}
use Rattle.mp_ports.specs.declared.code.Code.{Code}
use Rattle.mp_ports.specs.declared.fault.Bad.{Bad}
use Rattle.mp_ports.specs.Checks.{◌>>=◌, placed}
use Rattle.mp_boxes.specs.declared.field.Field.TheVariants.{U16, U32}
use Rattle.mp_boxes.specs.Field.{Part, leaf, raw, time, version_and_flags, zeros}
use Rattle.mp_boxes.specs.Reading.{next_bytes, next_time, next_u16, next_u32, value_or}
use Rattle.mp_boxes.specs.FullBox.{first_field, flags}
use Rattle.mp_headers.specs.Times.{wide_times}
use Rattle.mp_headers.specs.Matrix.{matrix_len}
use Rattle.mp_headers.specs.Version.{is_wide}
use Rattle.mp_headers.specs.declared.track_header.Tkhd.{Tkhd}

-- version and flags, creation and modification time, track number, reserved, duration, reserved,
-- layer, alternate group, volume, reserved, matrix, width, height
abbrev pub tkhd : Tkhd → Part
tkhd t =
    let wide = is_wide t.created t.modified t.duration in
    leaf (codes "tkhd")
    (version_and_flags wide t.flags
    ∷ time wide t.created
    ∷ time wide t.modified
    ∷ U32 t.number
    ∷ zeros 4
    ∷ time wide t.duration
    ∷ zeros 8
    ∷ U16 t.layer
    ∷ U16 t.group
    ∷ U16 t.volume
    ∷ zeros 2
    ∷ raw t.matrix
    ∷ U32 t.width
    ∷ U32 t.height
    ∷ [])

-- the fields behind version and these flags, from left to right
unfoldable pub tkhd_from : ℕ → Bool → List ℕ → Result Tkhd Code
tkhd_from flags wide text = do
  created ← next_time wide text
  modified ← next_time wide created.1
  number ← next_u32 modified.1
  reserved ← next_bytes 4 number.1
  duration ← next_time wide reserved.1
  reserved ← next_bytes 8 duration.1
  layer ← next_u16 reserved.1
  group ← next_u16 layer.1
  volume ← next_u16 group.1
  reserved ← next_bytes 2 volume.1
  matrix ← next_bytes matrix_len reserved.1
  width ← next_u32 matrix.1
  height ← next_u32 width.1
  Ok
      (record {
        flags = flags;
        created = created.0;
        modified = modified.0;
        number = number.0;
        duration = duration.0;
        layer = layer.0;
        group = group.0;
        volume = volume.0;
        matrix = matrix.0;
        width = width.0;
        height = height.0;
      })

-- the fields of the body of the box at `base`, or its first fault
abbrev pub tkhd_of : ℕ → List ℕ → Result Tkhd Bad
tkhd_of base body = placed base (wide_times body >>= λ wide. tkhd_from (flags body) wide (drop first_field body))

-- no fields
abbrev pub no_tkhd : Tkhd
no_tkhd = record { flags = 0; created = 0; modified = 0; number = 0; duration = 0; layer = 0; group = 0; volume = 0; matrix = []; width = 0; height = 0 }

-- the fields of a body that has no fault
abbrev pub tkhd_fields : List ℕ → Tkhd
tkhd_fields body = value_or no_tkhd (tkhd_of 0 body)

-- each number fits its field
pub record IsTkhd (t : Tkhd) : Type 0 where
  pub flags : t.flags < 2 ^ 24
  pub created : t.created < 2 ^ 64
  pub modified : t.modified < 2 ^ 64
  pub number : t.number < 2 ^ 32
  pub duration : t.duration < 2 ^ 64
  pub layer : t.layer < 2 ^ 16
  pub group : t.group < 2 ^ 16
  pub volume : t.volume < 2 ^ 16
  pub matrix : length t.matrix ≡ matrix_len
  pub width : t.width < 2 ^ 32
  pub height : t.height < 2 ^ 32
