use Rattle.std.specs.Prelude.{codes}
use Rattle.mp_headers.specs.Handler.{hdlr}
use Rattle.mp_headers.proofs.Pushed.{same_body}
use Rattle.mp_headers.proofs.handler.push_hdlr.Goals as goal

pub returns : goal.returns
returns c = same_body _ _ (codes "hdlr") _ (hdlr c.args.handler.now c.args.name.now).body c.written.ensures c.push_box.ensures
