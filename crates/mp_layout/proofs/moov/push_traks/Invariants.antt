use Rattle.std.proofs.Common.{ℕ, List, map, drop}
use Rattle.mp_boxes.specs.Field.{box_bytes}
use Rattle.mp_boxes.specs.Push.{IsLeft}
use Rattle.mp_movie.specs.StandsFor.{track_for}
use Rattle.mp_layout.specs.Chunked.{ArePlaced}
use Rattle.mp_layout.specs.Moov.{traks}
use Rattle.mp_layout.specs.Tables.{Placing}
use Rattle.mp_layout.proofs.moov.push_traks.Given as goal

-- all boxes were left, and those of what is left are left
abbrev pub invariant-loop-position : goal.invariant-loop-position
invariant-loop-position l =
    (files : List (List ℕ)) (placing : ℕ → Placing) → ArePlaced files l.tracks l.chunks l.places l.wide placing
    → IsLeft l.initial.out l.out (map box_bytes (traks l.scale placing 0 (map (track_for files) l.tracks))) (map box_bytes (traks l.scale placing l.position (map (track_for files) (drop l.position l.tracks))))
