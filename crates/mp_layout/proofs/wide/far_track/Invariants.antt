use Rattle.std.proofs.Common.{◌≡◌, ◌-◌, ◌||◌, true, length}
use Rattle.std.specs.Prelude.{get_or}
use Rattle.std.specs.List.{list_all, range_with_len}
use Rattle.mp_layout.specs.Wide.{fits, is_near, reach_at}
use Rattle.mp_layout.proofs.wide.far_track.Given as goal

abbrev pub invariant-loop-at : goal.invariant-loop-at
invariant-loop-at l =
    fits l.place l.reaches l.wide
    ≡ list_all (λ position. get_or l.wide position true || is_near l.place (reach_at l.reaches position)) (range_with_len l.at (length l.reaches - l.at))
