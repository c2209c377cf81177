use Rattle.mp_read.proofs.Counts.{counted}
use Rattle.mp_read.proofs.track.read_trak.Goals as goal

pub returns-clause-count : goal.returns-clause-count
returns-clause-count c = λ others e.
    counted others _ _ _ _ _ _ _ _ _ _ _ (c.in_ok-parts.ensures.header others e) c.in_ok-media.ensures.media c.in_ok-information.ensures.information c.in_ok-table.ensures.count
