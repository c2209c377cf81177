use Rattle.std.proofs.Common.{◌≡◌, ◌∙◌, ap, length, length-append, refl, arith, rules}
use Rattle.std.proofs.lemmas.Result.{err_from_is_err_and}
use Rattle.std.proofs.lemmas.List.Elements.{All-push}
use Rattle.adts_import.specs.Places.{IsPayload}
use Rattle.adts_import.proofs.Walking.{goes_on, refused, nothing_yet, all_read}
use Rattle.adts_import.proofs.walk.read_places.Goals as goal

pub loop-at-init : goal.loop-at-init
loop-at-init g c =
    let none = c.new-places.ensures.items in
    record {
      inside = omega arith;
      same = refl;
      window = c.requires.window;
      payloads = rw none (λ k d lt. absurd (omega arith));
      few = rw none (omega arith);
      short = omega arith;
      places = rw none (nothing_yet _ _ _ c.size-size.ensures.told (omega (arith, c.size-size.ensures.size, c.requires.some)));
    }

pub returns-in_err-head-clause-places : goal.returns-in_err-head-clause-places
returns-in_err-head-clause-places g c =
    let i = c.loop-at.invariant in
    let number : c.len.result ≡ length c.loop-at.places.items = search rules in
    let filled = c.in_ok-fill.ensures.filled in
    let part = rw (c.in_ok-fill.ensures.same ∙ i.same, ap (λ w. w.file) filled.same ∙ i.window.names) at (c.held-front.ensures.bytes _ filled.part) in
    let p = err_from_is_err_and c.from_residual-in_err-head.result c.from_residual-in_err-head.ensures.1 in
    rw (p.1, p.2)
    (refused _ _ _ _ c.loop-at.at _ _ _ c.requires.first c.size-size.ensures.told part (c.held-front.ensures.count ∙ c.front_len-count.ensures) c.loop-at-test.true (rw number at c.in_err-head.ensures.fault) i.places)

pub loop-at-preserved : goal.loop-at-preserved
loop-at-preserved g c =
    let i = c.loop-at.invariant in
    let number : c.len.result ≡ length c.loop-at.places.items = search rules in
    let filled = c.in_ok-fill.ensures.filled in
    let same = c.in_ok-fill.ensures.same ∙ i.same in
    let names = ap (λ w. w.file) filled.same ∙ i.window.names in
    let part = rw (same, names) at (c.held-front.ensures.bytes _ filled.part) in
    let next = c.in_ok-head.ensures in
    let pushed = c.in_ok-push.ensures.items in
    record {
      inside = omega (arith, next.bounds.whole);
      same = same;
      window = record { part = filled.part; names = names; room = omega (arith, ap (λ w. w.room) filled.same, i.window.room) };
      payloads = rw pushed (All-push (IsPayload c.args.file c.size-size.result) c.loop-at.places.items _ i.payloads (record {
        names = refl;
        inside = omega (arith, next.bounds.whole, next.bounds.payload);
        bare = refl;
        short = omega (arith, next.bounds.short);
      }));
      few = rw (pushed, length-append c.loop-at.places.items _) (omega (arith, next.few, number));
      short = rw (pushed, length-append c.loop-at.places.items _) (omega (arith, next.bounds.short, i.short));
      places = rw (pushed, c.from.ensures, c.from-at.ensures) (goes_on _ _ _ _ c.loop-at.at _ c.in_ok-head.head _ c.requires.first c.size-size.ensures.told part (c.held-front.ensures.count ∙ c.front_len-count.ensures) c.loop-at-test.true (rw number at next.fault) next.header i.places);
    }

pub returns-clause-places : goal.returns-clause-places
returns-clause-places g c = all_read _ _ _ _ _ c.size-size.ensures.told c.loop-at-test.false c.loop-at.invariant.places
