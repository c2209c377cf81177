-- The media information header by the handler.
use Rattle.std.proofs.Common.{◌≡◌, ℕ, List, true, false, refl}
use Rattle.std.specs.Prelude.{codes}
use Rattle.std.specs.Str.{bytes_eq}
use Rattle.mp_headers.specs.MediaInformation.{media_header, nmhd, smhd, sthd, vmhd}

pub of_pictures : (handler : List ℕ) → bytes_eq handler (codes "vide") ≡ true → vmhd ≡ media_header handler
of_pictures handler e = rw e refl

pub of_sound : (handler : List ℕ) → bytes_eq handler (codes "vide") ≡ false → bytes_eq handler (codes "soun") ≡ true → smhd ≡ media_header handler
of_sound handler e f = rw (e, f) refl

pub of_subtitles : (handler : List ℕ) → bytes_eq handler (codes "vide") ≡ false → bytes_eq handler (codes "soun") ≡ false → bytes_eq handler (codes "subt") ≡ true → sthd ≡ media_header handler
of_subtitles handler e f g = rw (e, f, g) refl

pub of_others : (handler : List ℕ) → bytes_eq handler (codes "vide") ≡ false → bytes_eq handler (codes "soun") ≡ false → bytes_eq handler (codes "subt") ≡ false → nmhd ≡ media_header handler
of_others handler e f g = rw (e, f, g) refl
