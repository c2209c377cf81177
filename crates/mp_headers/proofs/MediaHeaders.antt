-- A media header that is written is read.
use Rattle.std.proofs.Common.{◌≡◌, ℕ, Bool, replicate, drop, Ok, refl, ap, arith, lit<}
use Rattle.std.proofs.lemmas.Bool.{ne_eqb}
use Rattle.mp_ports.specs.Checks.{placed}
use Rattle.mp_boxes.specs.FullBox.{first_field}
use Rattle.mp_boxes.specs.Reading.{FieldsAreRead}
use Rattle.mp_headers.specs.Version.{is_wide}
use Rattle.mp_headers.specs.MediaHeader.{mdhd, mdhd_from, mdhd_of, IsMdhd}
use Rattle.mp_headers.specs.declared.media_header.Mdhd.{Mdhd}
use Rattle.mp_headers.proofs.Starts.{handed_on, width-read, FitTimes, fit_times}

-- the width of its times
abbrev width : Mdhd → Bool
width m = is_wide m.created m.modified m.duration

fields-read : FieldsAreRead → (m : Mdhd) → IsMdhd m → FitTimes (width m) m.created m.modified m.duration → mdhd_from (width m) (drop first_field (mdhd m).body) ≡ Ok m
unfolding mdhd_from
fields-read law m h fit =
    handed_on _ _ _ _ (law.time (width m) m.created _ fit.first)
    (handed_on _ _ _ _ (law.time (width m) m.modified _ fit.second)
    (handed_on _ _ _ _ (law.four m.timescale _ h.timescale)
    (handed_on _ _ _ _ (law.time (width m) m.duration _ fit.third)
    (handed_on _ _ _ _ (law.two m.language _ h.language)
    (handed_on _ _ _ _ (law.bytes 2 (replicate 2 0) _ refl)
    (let some = h.some_scale in rw (ne_eqb m.timescale 0 (λ e. omega arith)) refl))))))

pub mdhd-read : FieldsAreRead → (m : Mdhd) (base : ℕ) → IsMdhd m → mdhd_of base (mdhd m).body ≡ Ok m
mdhd-read law m base h =
    ap (placed base) (handed_on _ _ _ _ (width-read (width m) 0 _ (lit< tt)) (fields-read law m h (fit_times _ _ _ h.created h.modified h.duration)))
