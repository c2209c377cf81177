use Rattle.mp_clip.proofs.Counting.{counts_length, counts_both}
use Rattle.mp_clip.proofs.tally.with_cut.Goals as goal

pub returns-in-Some : goal.returns-in-Some
returns-in-Some c = λ start_parts length_parts all left h.
    counts_both start_parts length_parts all c.args.tally c.args.cut left h c.with_start.result c.with_length.result c.in-Some.start c.in-Some.is c.with_start.ensures.starts c.with_start.ensures.counted
    c.with_length.ensures.lengths c.with_length.ensures.counted

pub returns-in-None : goal.returns-in-None
returns-in-None c = λ start_parts length_parts all left h.
    counts_length start_parts length_parts all c.args.tally c.args.cut left h c.with_length-in-None.result c.in-None.is c.with_length-in-None.ensures.lengths c.with_length-in-None.ensures.counted
