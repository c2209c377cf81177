use Rattle.std.proofs.Common.{refl}
use Rattle.mp_pieces.proofs.Parts.{keeps}
use Rattle.mp_pieces.proofs.stand.keep.Goals as goal

pub returns-clause-kept : goal.returns-clause-kept
returns-clause-kept c = λ s stands.
    keeps s _ _ c.args.stand _ c.args.at c.args.count refl refl refl refl refl c.requires.behind c.requires.inside c.forward.ensures.room c.forward.ensures.behind c.forward.ensures.moved stands
