-- A movie header that is written is read.
use Rattle.std.proofs.Common.{◌≡◌, ℕ, Bool, replicate, drop, Ok, refl, ap, arith, lit<}
use Rattle.std.proofs.lemmas.Bool.{ne_eqb}
use Rattle.mp_ports.specs.Checks.{placed}
use Rattle.mp_boxes.specs.FullBox.{first_field}
use Rattle.mp_boxes.specs.Reading.{FieldsAreRead}
use Rattle.mp_headers.specs.Matrix.{matrix_len}
use Rattle.mp_headers.specs.Version.{is_wide}
use Rattle.mp_headers.specs.MovieHeader.{mvhd, mvhd_from, mvhd_of, IsMvhd}
use Rattle.mp_headers.specs.declared.movie_header.Mvhd.{Mvhd}
use Rattle.mp_headers.proofs.Starts.{handed_on, width-read, FitTimes, fit_times}

-- the width of its times
abbrev width : Mvhd → Bool
width m = is_wide m.created m.modified m.duration

fields-read : FieldsAreRead → (m : Mvhd) → IsMvhd m → FitTimes (width m) m.created m.modified m.duration → mvhd_from (width m) (drop first_field (mvhd m).body) ≡ Ok m
unfolding mvhd_from
fields-read law m h fit =
    handed_on _ _ _ _ (law.time (width m) m.created _ fit.first)
    (handed_on _ _ _ _ (law.time (width m) m.modified _ fit.second)
    (handed_on _ _ _ _ (law.four m.timescale _ h.timescale)
    (handed_on _ _ _ _ (law.time (width m) m.duration _ fit.third)
    (handed_on _ _ _ _ (law.four m.rate _ h.rate)
    (handed_on _ _ _ _ (law.two m.volume _ h.volume)
    (handed_on _ _ _ _ (law.bytes 10 (replicate 10 0) _ refl)
    (handed_on _ _ _ _ (law.bytes matrix_len m.matrix _ h.matrix)
    (handed_on _ _ _ _ (law.bytes 24 (replicate 24 0) _ refl)
    (handed_on _ _ _ _ (law.four m.next_track _ h.next_track)
    (let some = h.some_scale in rw (ne_eqb m.timescale 0 (λ e. omega arith)) refl))))))))))

pub mvhd-read : FieldsAreRead → (m : Mvhd) (base : ℕ) → IsMvhd m → mvhd_of base (mvhd m).body ≡ Ok m
mvhd-read law m base h =
    ap (placed base) (handed_on _ _ _ _ (width-read (width m) 0 _ (lit< tt)) (fields-read law m h (fit_times _ _ _ h.created h.modified h.duration)))
