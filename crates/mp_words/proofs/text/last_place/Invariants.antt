use Rattle.std.proofs.Common.{◌≡◌, ◌≤◌, length, drop, None}
use Rattle.mp_words.specs.Marks.{last_place}
use Rattle.mp_words.proofs.text.last_place.Given as goal

abbrev pub invariant-loop-at : goal.invariant-loop-at
invariant-loop-at l = record { inside : l.at ≤ length l.text; behind : last_place l.mark (drop l.at l.text) ≡ None }

abbrev pub decreases-loop-at : goal.decreases-loop-at
decreases-loop-at l = l.at
