-- The media information header of a track, by its handler (ISO/IEC 14496-12, 8.4.5, 12.1.2, 12.2.2 and 12.6.2).
use Rattle.std.specs.Prelude.{ℕ, false, List, [], ◌∷◌, codes, if◌then◌else◌}
use Rattle.std.specs.Str.{bytes_eq}
use Rattle.mp_boxes.specs.Field.{Part, leaf, version_and_flags, zeros}

-- pictures: flags 1, graphics mode, operation colour
abbrev pub vmhd : Part
vmhd = leaf (codes "vmhd") (version_and_flags false 1 ∷ zeros 8 ∷ [])

-- sound: balance, reserved
abbrev pub smhd : Part
smhd = leaf (codes "smhd") (version_and_flags false 0 ∷ zeros 4 ∷ [])

-- subtitles
abbrev pub sthd : Part
sthd = leaf (codes "sthd") (version_and_flags false 0 ∷ [])

-- any other media
abbrev pub nmhd : Part
nmhd = leaf (codes "nmhd") (version_and_flags false 0 ∷ [])

-- the header that goes with a handler
abbrev pub media_header : List ℕ → Part
media_header handler =
    if bytes_eq handler (codes "vide") then vmhd else
    (if bytes_eq handler (codes "soun") then smhd else
    (if bytes_eq handler (codes "subt") then sthd else nmhd))
