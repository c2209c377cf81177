use Rattle.std.proofs.Common.{◌∙◌, ap, subst, sym, rules, ℤ, of_z}
use Rattle.std.specs.Int.{w128}
use Rattle.mp_frac.specs.Time.{IsSameTime, in_ticks}
use Rattle.mp_frac.proofs.Products.{same_rest, rest_of, same_quotient}
use Rattle.mp_frac.proofs.WholeTimes.{rest_is_refused, quotient_is_same}
use Rattle.mp_frac.proofs.time.whole_in.Goals as goal

pub returns-then-ticks-d-ne0 : goal.returns-then-ticks-d-ne0
returns-then-ticks-d-ne0 c =
    rest_is_refused c.args.scale c.args.part (λ e. c.if-ticks-d-ne0.true (same_rest _ _ _ _ c.ticks_times-ticks.ensures c.from-d.ensures (search rules) (search rules) ∙ ap (of_z w128) e))

pub returns : goal.returns
returns c =
    let none = rest_of _ _ _ _ c.ticks_times-ticks.ensures c.from-d.ensures (search rules) (search rules) c.if-ticks-d-ne0.false in
    subst (λ (ticks : ℤ). IsSameTime (in_ticks ticks c.args.scale) c.args.part) (sym (same_quotient _ _ _ _ c.ticks_times-ticks.ensures c.from-d.ensures (search rules) (search rules) c.requires.time.some)) (quotient_is_same c.args.scale c.args.part c.requires.scale c.requires.time.some none)
