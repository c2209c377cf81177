use Rattle.std.proofs.Common.{rules, arith, ◌≡◌, ◌+◌, ◌-◌, drop, None, true, false, nat_eq, sym, ap, ◌∙◌}
use Rattle.std.specs.List.{starts_with}
use Rattle.mp_words.specs.Marks.{last_place}
use Rattle.mp_words.proofs.LastPlaces.{found_here, found_nowhere}
use Rattle.mp_words.proofs.text.last_place.Goals as goal

pub returns-then-goes_on-clause-place : goal.returns-then-goes_on-clause-place
returns-then-goes_on-clause-place c =
    let behind : last_place c.args.mark.now (drop (c.loop-at.at - 1 + 1) c.args.text.now) ≡ None =
    ap (λ n. last_place c.args.mark.now (drop n c.args.text.now)) (omega (arith, c.loop-at-test.true)) ∙ c.loop-at.invariant.behind in
    let here : starts_with nat_eq (drop (c.loop-at.at - 1) c.args.text.now) c.args.mark.now ≡ true = search rules in
    sym (found_here c.args.mark.now c.args.text.now (c.loop-at.at - 1) (omega (arith, c.loop-at-test.true, c.loop-at.invariant.inside)) behind here)

pub loop-at-preserved : goal.loop-at-preserved
loop-at-preserved c =
    let behind : last_place c.args.mark.now (drop (c.loop-at.at - 1 + 1) c.args.text.now) ≡ None =
    ap (λ n. last_place c.args.mark.now (drop n c.args.text.now)) (omega (arith, c.loop-at-test.true)) ∙ c.loop-at.invariant.behind in
    let here : starts_with nat_eq (drop (c.loop-at.at - 1) c.args.text.now) c.args.mark.now ≡ false = search rules in
    record {
      inside = omega (arith, c.loop-at.invariant.inside);
      behind = found_nowhere c.args.mark.now c.args.text.now (c.loop-at.at - 1) (omega (arith, c.loop-at-test.true, c.loop-at.invariant.inside)) behind here;
    }
