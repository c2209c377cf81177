-- The number of samples that the steps of a track give is that of its track box.
use Rattle.std.proofs.Common.{◌≡◌, ℕ, Bool, List, Option, Some, None, Ok, refl, ap, ◌∙◌}
use Rattle.std.specs.Prelude.{codes}
use Rattle.mp_ports.specs.declared.fault.Bad.{Bad}
use Rattle.mp_ports.specs.Checks.{unless}
use Rattle.mp_boxes.specs.Boxes.{Box}
use Rattle.mp_headers.specs.declared.track_header.Tkhd.{Tkhd}
use Rattle.mp_headers.specs.declared.media_header.Mdhd.{Mdhd}
use Rattle.mp_movie.specs.Children.{the}
use Rattle.mp_movie.specs.TrackBoxes.{boxes_of}
use Rattle.mp_movie.specs.SampleTable.{count_in}
use Rattle.mp_read.specs.Header.{header_fault, header_in, information_fault, information_in, media_fault, media_in}
use Rattle.mp_read.specs.Table.{table_boxes}

given : {A : Type 0} (fault : Option Bad) (value got : A) → unless fault value ≡ Ok got → value ≡ got
given None value got e = cc
given (Some bad) value got e = absurd cc

pub counted : (earlier : List Box) (trak mdia minf stbl : Box) (header : Tkhd) (edts : Option Box) (media : Mdhd) (handler : List ℕ) (hdlr : Box) (local : List Bool) (count : ℕ)
    → unless (header_fault earlier trak) (header_in trak) ≡ Ok (header, mdia, edts) → unless (media_fault mdia) (media_in mdia) ≡ Ok (media, handler, hdlr, minf)
    → unless (information_fault minf) (information_in minf) ≡ Ok (local, stbl) → count ≡ count_in (table_boxes stbl) → count ≡ count_in (boxes_of trak)
unfolding boxes_of
counted earlier trak mdia minf stbl header edts media handler hdlr local count h m i n =
    let mdia_is : the (codes "mdia") trak ≡ mdia = ap (λ (v : Tkhd × Box × Option Box). v.1) (given _ _ _ h) in
    let minf_is : the (codes "minf") mdia ≡ minf = ap (λ (v : Mdhd × List ℕ × Box × Box). v.3) (given _ _ _ m) in
    let stbl_is : the (codes "stbl") minf ≡ stbl = ap (λ (v : List Bool × Box). v.1) (given _ _ _ i) in
    n ∙ rw (← stbl_is, ← minf_is, ← mdia_is) refl
