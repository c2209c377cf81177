use Rattle.std.proofs.Common.{◌∙◌, sym, subst}
use Rattle.std.proofs.lemmas.Result.{err_from_is_err_and}
use Rattle.nhnt_import.specs.Kept.{AreOf}
use Rattle.nhnt_import.proofs.Joining.{by_count, by_head, by_info, by_limits, by_records, ends_err, ends_ok, imported}
use Rattle.nhnt_import.proofs.import.read_pair.Goals as goal

pub returns-in_err-head-clause-places : goal.returns-in_err-head-clause-places
returns-in_err-head-clause-places g c =
    let p = err_from_is_err_and c.from_residual-in_err-head.result c.from_residual-in_err-head.ensures.1 in
    rw (p.1, p.2) (by_head _ _ _ _ _ c.in_err-head.ensures.fault)

pub returns-in_err-info-clause-places : goal.returns-in_err-info-clause-places
returns-in_err-info-clause-places g c =
    let head = c.in_ok-head.ensures in
    let p = err_from_is_err_and c.from_residual-in_err-info.result c.from_residual-in_err-info.ensures.1 in
    rw (p.1, p.2) (by_info _ _ _ _ _ _ head.head (rw head.folder at c.in_err-info.ensures.fault))

pub returns-in_err-count-clause-places : goal.returns-in_err-count-clause-places
returns-in_err-count-clause-places g c =
    let head = c.in_ok-head.ensures in
    let info = c.in_ok-info.ensures in
    let count = c.in_err-count.ensures in
    let p = err_from_is_err_and c.from_residual-in_err-count.result c.from_residual-in_err-count.ensures.1 in
    rw (p.1, p.2) (by_count _ _ _ _ _ _ _ _ head.head (rw head.folder at info.bytes) info.len c.size-len.ensures.told count.many count.fault)

pub returns-in_err-columns-clause-places : goal.returns-in_err-columns-clause-places
returns-in_err-columns-clause-places g c =
    let head = c.in_ok-head.ensures in
    let info = c.in_ok-info.ensures in
    let count = c.in_ok-count.ensures in
    let fault = rw (info.folder ∙ head.folder) at c.in_err-columns.ensures.fault in
    let p = err_from_is_err_and c.from_residual-in_err-columns.result c.from_residual-in_err-columns.ensures.1 in
    rw (p.1, p.2) (by_records _ _ _ _ _ _ _ _ _ head.head (rw head.folder at info.bytes) info.len c.size-len.ensures.told count.count count.few fault)

pub returns-in_err-movie-clause-places : goal.returns-in_err-movie-clause-places
returns-in_err-movie-clause-places g c =
    let head = c.in_ok-head.ensures in
    let info = c.in_ok-info.ensures in
    let count = c.in_ok-count.ensures in
    let read = rw (info.folder ∙ head.folder) at c.in_ok-columns.ensures.read in
    let are = subst (λ n. AreOf c.args.media n c.in_ok-columns.columns read.units) (sym c.size-size.ensures.size) read.are in
    let wanted = by_limits _ _ _ _ _ _ _ _ _ head.head (rw head.folder at info.bytes) info.len c.size-len.ensures.told count.count count.few read in
    let p = err_from_is_err_and c.from_residual-in_err-movie.result c.from_residual-in_err-movie.ensures.1 in
    rw (p.1, p.2) (ends_err _ _ _ _ _ _ wanted (c.in_err-movie.ensures.movie read.units are))

pub returns-clause-places : goal.returns-clause-places
returns-clause-places g c =
    let head = c.in_ok-head.ensures in
    let info = c.in_ok-info.ensures in
    let count = c.in_ok-count.ensures in
    let read = rw (info.folder ∙ head.folder) at c.in_ok-columns.ensures.read in
    let are = subst (λ n. AreOf c.args.media n c.in_ok-columns.columns read.units) (sym c.size-size.ensures.size) read.are in
    let wanted = by_limits _ _ _ _ _ _ _ _ _ head.head (rw head.folder at info.bytes) info.len c.size-len.ensures.told count.count count.few read in
    ends_ok _ _ _ _ _ _ wanted (c.in_ok-movie.ensures.movie read.units are)

pub returns-clause-units : goal.returns-clause-units
returns-clause-units g c =
    let head = c.in_ok-head.ensures in
    let info = c.in_ok-info.ensures in
    let read = rw (info.folder ∙ head.folder) at c.in_ok-columns.ensures.read in
    let are = subst (λ n. AreOf c.args.media n c.in_ok-columns.columns read.units) (sym c.size-size.ensures.size) read.are in
    imported _ _ _ _ _ _ _ head.bounds read (c.in_ok-movie.ensures.movie read.units are)

pub returns-in_err-movie-clause-size : goal.returns-in_err-movie-clause-size
returns-in_err-movie-clause-size g c = rw (sym c.size-size.ensures.size) c.size-size.ensures.told

pub returns-clause-size : goal.returns-clause-size
returns-clause-size g c = rw (sym c.size-size.ensures.size) c.size-size.ensures.told
