use Rattle.std.specs.Prelude.{codes}
use Rattle.mp_headers.specs.MovieHeader.{mvhd}
use Rattle.mp_headers.proofs.Pushed.{same_body}
use Rattle.mp_headers.proofs.movie_header.push_mvhd.Goals as goal

pub returns : goal.returns
returns c = same_body _ _ (codes "mvhd") _ (mvhd c.args.head.now).body c.written.ensures c.push_box.ensures
