use Rattle.avc_units.proofs.Cleaning.{front_cleaned}
use Rattle.avc_units.proofs.law.fronts_are_cleaned.Goals as goal

pub returns : goal.returns
returns c = λ front rest. front_cleaned front rest
