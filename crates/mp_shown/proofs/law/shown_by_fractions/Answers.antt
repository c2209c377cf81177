use Rattle.mp_shown.proofs.ByFractions.{shown_by_fractions}
use Rattle.mp_shown.proofs.law.shown_by_fractions.Goals as goal

pub returns : goal.returns
returns c = shown_by_fractions
