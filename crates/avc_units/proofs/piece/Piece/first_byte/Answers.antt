use Rattle.std.proofs.Common.{◌≡◌, ◌+◌, ◌-◌, length, take, drop, sym, ◌∙◌, arith, rules}
use Rattle.std.proofs.lemmas.List.{length-take-le, length-drop, get_or-take, get_or-drop}
use Rattle.avc_units.proofs.Passing.{kept_at, zeros_on, first_found, told_inside, zeros_few}
use Rattle.avc_units.proofs.piece.Piece.first_byte.Goals as goal

pub returns-then-zeros-self-clause-first : goal.returns-then-zeros-self-clause-first
returns-then-zeros-self-clause-first g c =
    let kept = c.reach.new.self in
    let i = c.in-Ok.ensures.index in
    let read = rw c.loop-at.invariant.same at c.reach.ensures.kept in
    let n = kept.len - c.in-Ok.start in
    let piece = take n (drop c.in-Ok.start kept.bytes) in
    let long : length piece ≡ n = length-take-le n (drop c.in-Ok.start kept.bytes) (omega (arith, length-drop c.in-Ok.start kept.bytes)) in
    first_found _ c.args.from c.loop-at.at n c.zeros_in-zeros.result _ piece c.loop-at.invariant.low long (kept_at _ kept.place kept.len c.in-Ok.start c.loop-at.at kept.bytes i.0 i.1 read.holds)
    (told_inside _ c.args.source.size (c.loop-at.at + n) (omega (arith, read.within, c.requires.size)) c.requires.told) c.zeros_in-zeros.ensures c.if-zeros-self.true (sym (get_or-take n (drop c.in-Ok.start kept.bytes) c.zeros_in-zeros.result 0 c.if-zeros-self.true ∙ get_or-drop c.in-Ok.start kept.bytes c.zeros_in-zeros.result 0)) c.loop-at.invariant.zeros

pub loop-at-preserved : goal.loop-at-preserved
loop-at-preserved g c =
    let kept = c.reach.new.self in
    let i = c.in-Ok.ensures.index in
    let read = rw c.loop-at.invariant.same at c.reach.ensures.kept in
    let n = kept.len - c.in-Ok.start in
    let piece = take n (drop c.in-Ok.start kept.bytes) in
    let long : length piece ≡ n = length-take-le n (drop c.in-Ok.start kept.bytes) (omega (arith, length-drop c.in-Ok.start kept.bytes)) in
    record {
      same = search rules;
      low = omega arith;
      high = omega (arith, read.within, c.requires.size);
      kept = search rules;
      zeros = zeros_on _ c.args.from c.loop-at.at n piece c.loop-at.invariant.low long (kept_at _ kept.place kept.len c.in-Ok.start c.loop-at.at kept.bytes i.0 i.1 read.holds) (zeros_few _ _ _ long c.zeros_in-zeros.ensures c.if-zeros-self.false) c.loop-at.invariant.zeros;
    }
