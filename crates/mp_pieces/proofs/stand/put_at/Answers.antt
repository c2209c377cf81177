use Rattle.std.proofs.Common.{arith, rules}
use Rattle.std.proofs.lemmas.Slice.{drop-put_mid}
use Rattle.mp_pieces.proofs.stand.put_at.Goals as goal

pub returns-clause-behind : goal.returns-clause-behind
returns-clause-behind c = drop-put_mid c.args.at _ c.args.window.now _ _ (omega arith) (omega (arith, c.requires)) (search rules)
