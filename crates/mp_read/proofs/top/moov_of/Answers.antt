use Rattle.std.specs.Prelude.{codes}
use Rattle.std.proofs.lemmas.Result.{err_from_is_err_and}
use Rattle.mp_read.proofs.TopWalk.{compressed_first, fragment_first, moov_found}
use Rattle.mp_read.proofs.top.moov_of.Goals as goal

pub returns-in_err-check_none-clause-found : goal.returns-in_err-check_none-clause-found
returns-in_err-check_none-clause-found c = λ file boxes size read fragment compressed moov.
    let p = err_from_is_err_and c.from_residual.result c.from_residual.ensures.1 in
    rw (p.1, p.2) (fragment_first file boxes _ read (c.in_err-check_none.ensures.none file (codes "moof") boxes fragment))

pub returns-in_err-check_none-2-clause-found : goal.returns-in_err-check_none-2-clause-found
returns-in_err-check_none-2-clause-found c = λ file boxes size read fragment compressed moov.
    let p = err_from_is_err_and c.from_residual-in_err-check_none-2.result c.from_residual-in_err-check_none-2.ensures.1 in
    rw (p.1, p.2)
    (compressed_first file boxes _ read (c.in_ok-check_none.ensures.none file (codes "moof") boxes fragment) (c.in_err-check_none-2.ensures.none file (codes "!mov") boxes compressed))

pub returns-clause-found : goal.returns-clause-found
returns-clause-found c = λ file boxes size read fragment compressed moov.
    moov_found file boxes c.args.size c.one.result size read (c.in_ok-check_none.ensures.none file (codes "moof") boxes fragment) (c.in_ok-check_none-2.ensures.none file (codes "!mov") boxes compressed)
    (c.one.ensures.one file (codes "moov") boxes moov)
