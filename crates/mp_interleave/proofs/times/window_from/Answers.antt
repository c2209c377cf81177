use Rattle.std.proofs.Common.{rules, ◌≡◌, ◌∙◌, ◌-◌, ◌<◌, ℕ, ap, length, Some}
use Rattle.mp_interleave.specs.Order.{window_at}
use Rattle.mp_interleave.proofs.DecodeTimes.{window-none, window-there}
use Rattle.mp_interleave.proofs.times.window_from.Goals as goal

pub returns-then-before-len : goal.returns-then-before-len
returns-then-before-len c = window-none c.args.millis c.args.track.now (c.args.first - 1) (search rules)

pub returns : goal.returns
returns c =
    let lt : c.args.first - 1 < length c.args.track.now.deltas = search rules in
    let scale : c.track.inside.scale ≡ c.args.track.now.scale = search rules in
    ap Some (c.window_at.ensures ∙ (ap (λ (n : ℕ). window_at c.args.millis n c.decode_at.result) scale ∙ ap (window_at c.args.millis c.args.track.now.scale) c.decode_at.ensures.time))
    ∙ window-there c.args.millis c.args.track.now (c.args.first - 1) lt
