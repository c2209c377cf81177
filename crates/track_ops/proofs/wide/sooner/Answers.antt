use Rattle.std.proofs.Common.{◌≡◌, ◌<◌, ◌≤◌, ◌^◌, ℕ, [], ap, ◌∙◌, rules, subst}
use Rattle.track_ops.specs.Wide.{as_segments}
use Rattle.track_ops.proofs.DelayAsked.{past_end, wide_room, wide_total}
use Rattle.track_ops.proofs.wide.sooner.Goals as goal

pub total-requires : goal.total-requires
total-requires c =
    let same : c.track.inside.scale ≡ c.args.track.now.scale = search rules in
    let small : c.track.inside.scale < 2 ^ 32 = search rules in
    wide_total c.args.movie_scale c.args.time c.args.track.now c.in-Ok.segments.items c.deref.result.now (search rules) (subst (λ (n : ℕ). n < 2 ^ 32) same small) c.requires.short c.requires.track c.deref.ensures.value (c.in-Ok.ensures [])

pub returns-then-total-time : goal.returns-then-total-time
returns-then-total-time c = λ files.
    past_end c.args.time (as_segments c.deref.result.now) _ c.at.result (ap as_segments c.deref.ensures.value ∙ c.in-Ok.ensures files) (subst (λ (n : ℕ). n ≤ c.args.time) c.total.ensures c.if-total-time.true) c.at.ensures

pub behind-requires : goal.behind-requires
behind-requires c =
    let same : c.track.inside.scale ≡ c.args.track.now.scale = search rules in
    let small : c.track.inside.scale < 2 ^ 32 = search rules in
    wide_room c.args.movie_scale c.args.time c.args.track.now c.in-Ok.segments.items c.deref-2.result.now (search rules) (subst (λ (n : ℕ). n < 2 ^ 32) same small) c.requires.short c.requires.track c.deref-2.ensures.value (c.in-Ok.ensures [])
