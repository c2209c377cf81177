use Rattle.std.proofs.Common.{◌<◌, refl, arith}
use Rattle.std.proofs.lemmas.Nat.{and_mask, one_shl}
use Rattle.adts_import.specs.Header.{bits}
use Rattle.adts_import.proofs.header.bits.Goals as goal

pub returns-clause-value : goal.returns-clause-value
unfolding bits
returns-clause-value c =
    let small : c.args.count < 64 = omega (arith, c.requires) in
    rw (one_shl c.args.count 64 small, and_mask _ c.args.count) refl
