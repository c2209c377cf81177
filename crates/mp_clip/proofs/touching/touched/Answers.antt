use Rattle.mp_clip.proofs.Pieces.{clipped_is}
use Rattle.mp_clip.proofs.touching.touched.Goals as goal

pub returns : goal.returns
returns c =
    let made = rw (c.ticks.ensures, c.ticks-2.ensures) at c.spans_of.ensures in
    rw (clipped_is c.args.media_scale c.args.movie_scale c.args.from c.args.to c.args.edits.now c.requires.media) made
