use Rattle.std.proofs.Common.{◌∙◌, sym, ap}
use Rattle.std.proofs.lemmas.List.{length-map}
use Rattle.avc_sets.specs.Configuration.{items_of}
use Rattle.avc_sets.specs.Set.{PictureSet}
use Rattle.avc_import.proofs.Finding.{passed_on}
use Rattle.avc_import.proofs.sets.find_unit.Goals as goal

pub loop-at-preserved : goal.loop-at-preserved
loop-at-preserved c =
    c.loop-at.invariant ∙ passed_on c.args.number c.loop-at.at c.args.pictures.now (items_of c.args.units.now) c.index-pictures-at.result
    (c.requires ∙ sym (length-map c.args.units.now _)) c.loop-at-test.true
    (λ e. c.if-set-number.false (ap (λ (p : PictureSet). p.number) (c.set.view_is ∙ c.index-pictures-at.is) ∙ e))
