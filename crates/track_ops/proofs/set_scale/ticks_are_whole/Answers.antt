use Rattle.std.proofs.Common.{◌≡◌, ℕ, rules, ap, ◌∙◌}
use Rattle.track_ops.specs.KeptTimes.{are_whole, kept_ticks}
use Rattle.track_ops.proofs.set_scale.ticks_are_whole.Goals as goal

pub returns : goal.returns
returns c =
    let same : c.track.inside.scale ≡ c.args.track.now.scale = search rules in
    c.is_whole.ensures (kept_ticks c.args.track.now) c.divisor_of-divisor.ensures ∙ ap (λ (s : ℕ). are_whole s c.args.scale (kept_ticks c.args.track.now)) same
