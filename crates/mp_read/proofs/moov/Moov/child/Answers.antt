use Rattle.mp_read.proofs.PartsInParts.{moved-is}
use Rattle.mp_read.proofs.moov.Moov.child.Goals as goal

pub returns-clause-child : goal.returns-clause-child
returns-clause-child c = λ child span kind.
    moved-is c.args.self.now.base c.args.self.now.bytes.now c.args.part c.args.kind c.args.span child c.requires.part c.requires.within span kind
