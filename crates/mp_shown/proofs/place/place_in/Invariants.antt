use Rattle.std.proofs.Common.{◌≡◌, drop}
use Rattle.mp_shown.specs.Place.{place_in}
use Rattle.mp_shown.proofs.place.place_in.Given as goal

-- the place in the segments that are left is the place in all of them
abbrev pub invariant-loop-segment : goal.invariant-loop-segment
invariant-loop-segment l = place_in l.parts (drop l.segment-index l.edits) l.left ≡ place_in l.parts l.edits l.moment
