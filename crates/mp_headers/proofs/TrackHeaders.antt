-- A track header that is written is read.
use Rattle.std.proofs.Common.{◌≡◌, ℕ, Bool, replicate, drop, Ok, refl, ap}
use Rattle.mp_ports.specs.Checks.{placed}
use Rattle.mp_boxes.specs.FullBox.{first_field, flags}
use Rattle.mp_boxes.specs.Reading.{FieldsAreRead}
use Rattle.mp_headers.specs.Matrix.{matrix_len}
use Rattle.mp_headers.specs.Version.{is_wide}
use Rattle.mp_headers.specs.TrackHeader.{tkhd, tkhd_from, tkhd_of, IsTkhd}
use Rattle.mp_headers.specs.declared.track_header.Tkhd.{Tkhd}
use Rattle.mp_headers.proofs.Starts.{handed_on, width-read, flags-are, FitTimes, fit_times}

-- the width of its times
abbrev width : Tkhd → Bool
width t = is_wide t.created t.modified t.duration

fields-read : FieldsAreRead → (t : Tkhd) → IsTkhd t → FitTimes (width t) t.created t.modified t.duration → tkhd_from t.flags (width t) (drop first_field (tkhd t).body) ≡ Ok t
unfolding tkhd_from
fields-read law t h fit =
    handed_on _ _ _ _ (law.time (width t) t.created _ fit.first)
    (handed_on _ _ _ _ (law.time (width t) t.modified _ fit.second)
    (handed_on _ _ _ _ (law.four t.number _ h.number)
    (handed_on _ _ _ _ (law.bytes 4 (replicate 4 0) _ refl)
    (handed_on _ _ _ _ (law.time (width t) t.duration _ fit.third)
    (handed_on _ _ _ _ (law.bytes 8 (replicate 8 0) _ refl)
    (handed_on _ _ _ _ (law.two t.layer _ h.layer)
    (handed_on _ _ _ _ (law.two t.group _ h.group)
    (handed_on _ _ _ _ (law.two t.volume _ h.volume)
    (handed_on _ _ _ _ (law.bytes 2 (replicate 2 0) _ refl)
    (handed_on _ _ _ _ (law.bytes matrix_len t.matrix _ h.matrix)
    (handed_on _ _ _ _ (law.four t.width _ h.width)
    (handed_on _ _ _ _ (law.four t.height _ h.height) refl))))))))))))

pub tkhd-read : FieldsAreRead → (t : Tkhd) (base : ℕ) → IsTkhd t → tkhd_of base (tkhd t).body ≡ Ok t
tkhd-read law t base h =
    let bits : flags (tkhd t).body ≡ t.flags = flags-are (width t) t.flags _ h.flags in
    let fields : tkhd_from (flags (tkhd t).body) (width t) (drop first_field (tkhd t).body) ≡ Ok t = rw bits (fields-read law t h (fit_times _ _ _ h.created h.modified h.duration)) in
    ap (placed base) (handed_on _ _ _ _ (width-read (width t) t.flags _ h.flags) fields)
