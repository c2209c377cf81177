use Rattle.mp_clip.proofs.Touches.{empty_touched, media_touched}
use Rattle.mp_clip.proofs.touching.span_between.Goals as goal

pub returns-in-Media : goal.returns-in-Media
returns-in-Media c =
    media_touched c.args.scales c.requires.movie c.requires.begin c.requires.end c.args.segment c.in-Media.start c.in-Media.dur c.args.low c.args.high c.media_span.result c.in-Media.is c.requires.order c.media_span.ensures.from c.media_span.ensures.to

pub returns-in-Empty : goal.returns-in-Empty
returns-in-Empty c = empty_touched c.args.scales c.requires.movie c.requires.begin c.requires.end c.args.segment c.in-Empty.dur c.args.low c.args.high c.in-Empty.is
