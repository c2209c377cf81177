use Rattle.std.proofs.Common.{rules, arith, ◌+◌, pos, List, drop, get_or, subst}
use Rattle.std.proofs.lemmas.List.{drop_more, drop_all}
use Rattle.mp_frac.specs.declared.time.Frac.{Frac}
use Rattle.mp_movie.proofs.ScalesGrow.{AreLeft, all_left, none_left, none_serves, one_less}
use Rattle.mp_movie.proofs.scales.settle.Goals as goal

pub loop-time-init : goal.loop-time-init
loop-time-init c = record { left = all_left _ _ _ c.requires.scale (search rules); most = search rules }

pub loop-time-preserved : goal.loop-time-preserved
loop-time-preserved c =
    let time : Frac = get_or c.args.times.now c.loop-time.time-index (record { n = pos 0; d = 0 }) in
    let rest = drop_more c.args.times.now c.loop-time.time-index (record { n = pos 0; d = 0 }) c.loop-time-test.true in
    record {
      left =
          one_less c.wholeness_is_division.ensures c.args.track.now.scale c.loop-time.settled c.in-Some.next c.args.times.now (drop (c.loop-time.time-index + 1) c.args.times.now) time
          (subst (λ (l : List Frac). AreLeft c.args.track.now.scale c.args.times.now c.loop-time.settled l) rest c.loop-time.invariant.left) c.in-Some.ensures.0;
      most = c.in-Some.ensures.1;
    }

pub returns-in-None : goal.returns-in-None
returns-in-None c =
    let time : Frac = get_or c.args.times.now c.loop-time.time-index (record { n = pos 0; d = 0 }) in
    let rest = drop_more c.args.times.now c.loop-time.time-index (record { n = pos 0; d = 0 }) c.loop-time-test.true in
    none_serves c.args.track.now.scale c.loop-time.settled c.args.times.now (drop (c.loop-time.time-index + 1) c.args.times.now) time
    (subst (λ (l : List Frac). AreLeft c.args.track.now.scale c.args.times.now c.loop-time.settled l) rest c.loop-time.invariant.left) c.in-None.ensures

pub returns : goal.returns
returns c = (
  none_left c.args.track.now.scale c.loop-time.settled c.args.times.now
      (subst (λ (l : List Frac). AreLeft c.args.track.now.scale c.args.times.now c.loop-time.settled l) (drop_all c.loop-time.time-index c.args.times.now (omega (arith, c.loop-time-test.false))) c.loop-time.invariant.left),
  c.loop-time.invariant.most,
)
