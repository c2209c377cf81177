use Rattle.std.proofs.Common.{◌≡◌, drop}
use Rattle.track_ops.specs.Kept.{kept_chosen, kept_numbers, numbered}
use Rattle.track_ops.specs.Numbers.{numbers_for}
use Rattle.track_ops.proofs.numbers.push_numbers.Given as goal

-- the numbers so far, and those that are left, come to the same
abbrev pub invariant-loop-track : goal.invariant-loop-track
invariant-loop-track l =
    numbered l.numbers.items (numbers_for l.numbers.items (kept_numbers (kept_chosen l.choice (drop l.track-index l.tracks))))
    ≡ numbered l.fn.numbers.items (numbers_for l.fn.numbers.items (kept_numbers (kept_chosen l.choice l.tracks)))
