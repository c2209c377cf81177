use Rattle.std.proofs.Common.{w64, FitsSigned, get_or, pos, refl, rules}
use Rattle.std.proofs.lemmas.Int.{to_z-of_z}
use Rattle.avc_order.proofs.rank.is_lower.Goals as goal

pub returns : goal.returns
returns c =
    let item : FitsSigned w64 (get_or c.args.sorted.now c.args.at (pos 0)) = search rules in
    let limit : FitsSigned w64 c.args.count.now = search rules in
    rw (to_z-of_z w64 (get_or c.args.sorted.now c.args.at (pos 0)) item, to_z-of_z w64 c.args.count.now limit) refl
