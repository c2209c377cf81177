use Rattle.generator.specs.Files.{frame_head}
use Rattle.generator.proofs.Growing.{frame_more}
use Rattle.generator.proofs.files.push_frame.Goals as goal

pub loop-place-preserved : goal.loop-place-preserved
loop-place-preserved c =
    frame_more c.args.number c.loop-place.place c.frame_byte.result c.args.made.now.items (frame_head c.args.number) c.loop-place.made.items c.push.new.self.items c.loop-place.invariant
    c.frame_byte.ensures c.in_ok-push.ensures.items
