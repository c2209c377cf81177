use Rattle.std.specs.Prelude.{codes}
use Rattle.mp_headers.specs.MediaHeader.{mdhd}
use Rattle.mp_headers.proofs.Pushed.{same_body}
use Rattle.mp_headers.proofs.media_header.push_mdhd.Goals as goal

pub returns : goal.returns
returns c = same_body _ _ (codes "mdhd") _ (mdhd c.args.head.now).body c.written.ensures c.push_box.ensures
