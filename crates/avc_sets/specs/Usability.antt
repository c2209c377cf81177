-- Video usability information, as far as its timing (H.264, E.1.1).
use Rattle.std.specs.Prelude.{ℕ, ◌==◌, if◌then◌else◌, Option, Some, None}
use Rattle.avc_units.specs.Table.{Table, ◌>>=◌}
use Rattle.avc_units.specs.Table.Table.{Done}
use Rattle.avc_units.specs.Elements.{u, flag, ue}

-- sar_width and sar_height, where the aspect ratio has the number 255
unfoldable pub extended_ratio : ℕ → Table (Unit {0})
extended_ratio idc = if idc == 255 then (do
  _ ← u 16
  _ ← u 16
  Done tt) else Done tt

-- the aspect ratio of samples
unfoldable pub aspect_ratio : Table (Unit {0})
aspect_ratio = do
  present ← flag
  if present then (do
    idc ← u 8
    extended_ratio idc) else Done tt

-- overscan_appropriate_flag
unfoldable pub overscan : Table (Unit {0})
overscan = do
  present ← flag
  if present then (do
    _ ← flag
    Done tt) else Done tt

-- colour primaries, transfer characteristics and matrix coefficients
unfoldable pub colour : Table (Unit {0})
colour = do
  present ← flag
  if present then (do
    _ ← u 8
    _ ← u 8
    _ ← u 8
    Done tt) else Done tt

-- video format, full range and colour
unfoldable pub signal : Table (Unit {0})
signal = do
  present ← flag
  if present then (do
    _ ← u 3
    _ ← flag
    colour) else Done tt

-- the place of chroma samples, in both fields
unfoldable pub chroma_location : Table (Unit {0})
chroma_location = do
  present ← flag
  if present then (do
    _ ← ue
    _ ← ue
    Done tt) else Done tt

-- num_units_in_tick and time_scale
unfoldable pub timing : Table (Option (ℕ × ℕ))
timing = do
  present ← flag
  if present then (do
    units ← u 32
    scale ← u 32
    _ ← flag
    Done (Some (units, scale))) else Done None

-- the timing, where there is this information; what stands behind the timing isn't read
unfoldable pub usability : Table (Option (ℕ × ℕ))
usability = do
  present ← flag
  if present then (do
    _ ← aspect_ratio
    _ ← overscan
    _ ← signal
    _ ← chroma_location
    timing) else Done None
