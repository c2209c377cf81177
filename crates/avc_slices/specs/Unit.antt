-- The first byte of a unit (H.264, 7.3.1).
use Rattle.std.specs.Prelude.{ℕ, ◌/◌, ◌%◌, ◌==◌}
use Rattle.avc_slices.specs.declared.unit.Nal.{Nal}

-- nal_ref_idc, and whether nal_unit_type is that of an IDR picture
abbrev pub nal_of : ℕ → Nal
nal_of byte = record { idr = byte % 32 == 5; ref_idc = byte / 32 % 4 }
