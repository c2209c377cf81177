use Rattle.std.proofs.Common.{◌≡◌, ◌≤◌, length, take, ◌∙◌, arith, rules}
use Rattle.std.proofs.lemmas.List.{length-take-le}
use Rattle.avc_units.proofs.Passing.{passed_on, passed_end, passed_all}
use Rattle.avc_units.proofs.window.end_behind.Goals as goal

pub returns-then-stand-clause-end : goal.returns-then-stand-clause-end
returns-then-stand-clause-end g c =
    let e = c.scan-stand.ensures.ended c.if-stand.true in
    passed_end _ c.args.from c.loop-at.at c.in-Ok.n c.loop-at.seen c.scan-stand.result.used _ c.loop-at.invariant.low c.loop-at.invariant.seen e.0 (rw c.loop-at.invariant.same at c.in-Ok.ensures.holds) e.2 c.loop-at.invariant.passed

pub loop-at-preserved : goal.loop-at-preserved
loop-at-preserved g c =
    let e = c.scan-stand.ensures.more c.if-stand.false in
    let s = c.in-Ok.ensures.some in
    let room : c.in-Ok.n ≤ length c.fill.new.window = omega arith in
    let long : length (take c.in-Ok.n c.fill.new.window) ≡ c.in-Ok.n = length-take-le c.in-Ok.n c.fill.new.window room in
    record {
      same = search rules;
      low = omega arith;
      high = omega arith;
      some = omega arith;
      few = c.scan-stand.ensures.few;
      seen = omega (arith, c.scan-stand.ensures.inside, e.0, long);
      passed = passed_on _ c.args.from c.loop-at.at c.in-Ok.n c.loop-at.seen c.scan-stand.result.zeros c.scan-stand.result.used _ c.loop-at.invariant.low (e.0 ∙ long) (rw c.loop-at.invariant.same at c.in-Ok.ensures.holds) e.1 c.loop-at.invariant.passed;
    }

pub returns-clause-end : goal.returns-clause-end
returns-clause-end g c = passed_all _ c.args.from c.loop-at.at c.args.source.size c.loop-at.seen c.loop-at.invariant.low c.loop-at.invariant.few c.loop-at.invariant.seen c.loop-at-test.false c.requires.told c.loop-at.invariant.passed
