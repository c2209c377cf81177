-- A movie box that is too long is refused.
use Rattle.std.proofs.Common.{◌≡◌, ℕ, ◌<◌, List, length, take, drop, Option, Some, None, IfSome, Ok, Err, refl, arith, length-append, length-drop, length-take}
use Rattle.std.proofs.lemmas.Bool.{lt-ltb}
use Rattle.mp_ports.specs.declared.code.Code.TheVariants.{MoovLimit}
use Rattle.mp_ports.specs.declared.fault.Bad.{Bad}
use Rattle.mp_ports.specs.Checks.{bad_at, unless}
use Rattle.mp_ports.specs.Gives.{read_refusal}
use Rattle.mp_boxes.specs.Boxes.{whole_box}
use Rattle.mp_movie.specs.Present.{first_fault, moov_in, most_moov, movie_fault}
use Rattle.mp_read.specs.Movie.{movie_tables}
use Rattle.mp_read.specs.declared.top.FileBox.{FileBox}
use Rattle.mp_read.specs.Top.{FindsMoov, IsInFile, box_at}

pub too_long : (told : Option (List ℕ)) (size : ℕ) (found : FileBox) (bad : Bad) → IfSome told (λ file. FindsMoov read_refusal file (Ok found)) → IfSome told (λ file. size ≡ length file) → IsInFile size found
    → most_moov < found.head.len → bad ≡ bad_at MoovLimit found.place → IfSome told (λ file. unless (first_fault file) (movie_tables (moov_in file)) ≡ Err bad)
unfolding movie_fault
too_long None size found bad moov e inside long is = tt
too_long (Some file) size found bad moov e inside long is =
    let header = inside.header in
    let ends = inside.ends in
    let text = drop found.place file in
    let len : length (whole_box (box_at file found)) ≡ found.head.len =
    omega (arith, e, length-drop found.place file, length-append (box_at file found).header (box_at file found).body, length-take found.head.head text, length-take found.head.len text, length-drop found.head.head (take found.head.len text)) in
    rw (moov.fault, len, lt-ltb most_moov found.head.len long, is) refl
