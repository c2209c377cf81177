-- Times in header boxes, whose version says how wide they are (ISO/IEC 14496-12, 8.2.2, 8.3.2 and 8.4.2).
use Rattle.std.specs.Prelude.{ℕ, Bool, ◌==◌, List, Result}
use Rattle.mp_ports.specs.declared.code.Code.{Code}
use Rattle.mp_ports.specs.Checks.{first_code, unless}
use Rattle.mp_boxes.specs.FullBox.{first_field, full_box_checks, version}

-- the newest version of a header box
abbrev pub newest_version : ℕ
newest_version = 1

-- version 1 has times of 64 bits, version 0 of 32
abbrev pub has_wide_times : List ℕ → Bool
has_wide_times body = version body == 1

-- whether a body has wide times, or the fault of its version
abbrev pub wide_times : List ℕ → Result Bool Code
wide_times body = unless (first_code (full_box_checks newest_version first_field body)) (has_wide_times body)
