use Rattle.std.proofs.Common.{◌∙◌, Ok, Err, ap, drop, sym}
use Rattle.avc_import.proofs.Saying.{says_there}
use Rattle.avc_import.proofs.sets.picture_in.Goals as goal

pub returns-in-Ok : goal.returns-in-Ok
returns-in-Ok c =
    says_there c.args.place _ _ _ _ (Ok c.in-Ok.fields) (ap (drop 1) (c.deref.ensures.value ∙ c.in_ok-clean.ensures)) c.tables_are_read.ensures c.in-Ok.ensures

pub returns : goal.returns
returns c = says_there c.args.place _ _ _ _ (Err c.in-Err.code) (ap (drop 1) (c.deref.ensures.value ∙ c.in_ok-clean.ensures)) c.tables_are_read.ensures c.in-Err.ensures ∙ ap Err (sym c.at.ensures)
