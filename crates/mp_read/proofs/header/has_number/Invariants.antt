use Rattle.std.proofs.Common.{◌≡◌, false, take}
use Rattle.std.specs.Prelude.{◌==◌}
use Rattle.std.specs.List.{list_any}
use Rattle.mp_read.proofs.header.has_number.Given as goal

-- none of the tracks so far has it
abbrev pub invariant-loop-track : goal.invariant-loop-track
invariant-loop-track l = list_any (λ track. track.number == l.number) (take l.track-index l.tracks) ≡ false
