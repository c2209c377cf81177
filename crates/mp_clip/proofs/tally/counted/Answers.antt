use Rattle.std.proofs.Common.{Option, subst}
use Rattle.mp_clip.specs.declared.cut.Cut.{Cut}
use Rattle.mp_clip.specs.Counted.{IsCounted}
use Rattle.mp_clip.specs.Cut.{in_front}
use Rattle.mp_clip.proofs.tally.counted.Goals as goal

pub returns-in-Some : goal.returns-in-Some
returns-in-Some c = λ start_parts length_parts all left h.
    c.with_cut.ensures start_parts length_parts all left (subst (λ (cut : Option Cut). IsCounted start_parts length_parts all c.args.tally (in_front cut left)) c.in-Some.is h)
