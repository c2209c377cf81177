use Rattle.std.proofs.Common.{rules, ◌∙◌, ℤ, ap, sym, subst}
use Rattle.std.specs.Int.{w128}
use Rattle.std.specs.Prelude.{unsigned_abs, sum}
use Rattle.std.proofs.lemmas.Int.{to_z-of_z}
use Rattle.mp_boxes.specs.Table.{capped}
use Rattle.mp_movie.specs.Placed.{naturals}
use Rattle.mp_movie.specs.WholeParts.{IsNatural}
use Rattle.mp_movie.proofs.ColumnsInNumbers.{is_natural, total_is}
use Rattle.mp_movie.proofs.sums.sum_of.Goals as goal

pub capped-requires : goal.capped-requires
capped-requires c =
    let total = to_z-of_z w128 c.total.result (search rules) in
    subst IsNatural (sym (total ∙ (c.total.ensures ∙ total_is c.args.column.now c.requires))) (is_natural (sum (naturals c.args.column.now)))

pub returns : goal.returns
returns c =
    let total = to_z-of_z w128 c.total.result (search rules) in
    c.capped.ensures ∙ ap (λ (number : ℤ). capped (unsigned_abs number)) (total ∙ (c.total.ensures ∙ total_is c.args.column.now c.requires))
