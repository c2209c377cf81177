use Rattle.std.proofs.Common.{◌<◌, ℕ, subst, sym}
use Rattle.track_ops.proofs.adding.scale_of.Goals as goal

pub returns-clause-some : goal.returns-clause-some
returns-clause-some c = subst (λ (x : ℕ). 0 < x) (sym c.scale.ensures) c.tracks-tracks.ensures.whole.bare.header.some_scale
