use Rattle.std.proofs.Common.{◌≡◌, ◌+◌, ◌-◌, ◌*◌, length, map, drop, string_bytes}
use Rattle.mp_words.specs.Line.{nothing, options_from}
use Rattle.mp_words.proofs.line.read_options.Given as goal

abbrev pub invariant-loop-at : goal.invariant-loop-at
invariant-loop-at l = record {
  word : l.at + 2 ≡ 2 * l.place;
  rest : options_from (map string_bytes l.words) 1 nothing ≡ options_from (drop l.at (map string_bytes l.words)) l.place l.line;
}

abbrev pub decreases-loop-at : goal.decreases-loop-at
decreases-loop-at l = length l.words - l.at
