-- The numbers of tracks that were read are those of their track boxes.
use Rattle.std.proofs.Common.{◌≡◌, ℕ, Bool, List, [], ◌∷◌, map, refl, sym, ap, ◌∙◌}
use Rattle.std.specs.Prelude.{◌==◌}
use Rattle.std.specs.List.{list_any}
use Rattle.mp_boxes.specs.Boxes.{Box}
use Rattle.mp_movie.specs.TrackBoxes.{boxes_of}
use Rattle.mp_movie.specs.Tracks.{number_in}
use Rattle.mp_read.specs.Track.{TrackTablesRecord, tables_of}

pub numbers_are : (before : List Box) (number : ℕ) → list_any (λ (track : TrackTablesRecord). track.number == number) (map tables_of before) ≡ list_any (λ (other : Box). number_in (boxes_of other) == number) before
unfolding tables_of
numbers_are [] number = refl
numbers_are (trak ∷ traks) number = rw (numbers_are traks number) refl

-- whether one of the tracks has it
pub has_own : (tracks : List TrackTablesRecord) (before : List Box) (number : ℕ) (has answer : Bool) → tracks ≡ map tables_of before → has ≡ list_any (λ (track : TrackTablesRecord). track.number == number) tracks → has ≡ answer
    → list_any (λ (other : Box). number_in (boxes_of other) == number) before ≡ answer
has_own tracks before number has answer e is answered =
    sym (numbers_are before number) ∙ ap (list_any (λ (track : TrackTablesRecord). track.number == number)) (sym e) ∙ sym is ∙ answered
