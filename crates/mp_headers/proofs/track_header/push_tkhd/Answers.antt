use Rattle.std.specs.Prelude.{codes}
use Rattle.mp_headers.specs.TrackHeader.{tkhd}
use Rattle.mp_headers.proofs.Pushed.{same_body}
use Rattle.mp_headers.proofs.track_header.push_tkhd.Goals as goal

pub returns : goal.returns
returns c = same_body _ _ (codes "tkhd") _ (tkhd c.args.head.now).body c.written.ensures c.push_box.ensures
