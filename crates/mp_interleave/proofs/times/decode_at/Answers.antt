use Rattle.std.proofs.Common.{rules, ◌≡◌, ◌∙◌, ℕ, ℤ, List, ap, sym, subst, ◌≤◌, take}
use Rattle.std.specs.Prelude.{sum, unsigned_abs}
use Rattle.std.specs.Int.{w128}
use Rattle.std.proofs.lemmas.Int.{to_z-of_z}
use Rattle.mp_columns.specs.Numbers.{total}
use Rattle.mp_times.specs.Times.{decode_time}
use Rattle.mp_movie.specs.Placed.{naturals}
use Rattle.mp_interleave.proofs.DecodeTimes.{sum-short, time-is, time-within}
use Rattle.mp_interleave.proofs.times.decode_at.Goals as goal
use Rattle.mp_interleave.proofs.times.decode_at.Goals.{After-unsigned_abs}

time : (c : After-unsigned_abs) → c.unsigned_abs.result ≡ decode_time (naturals c.args.track.now.deltas) c.args.before
time c =
    let deltas : c.track.inside.deltas ≡ c.args.track.now.deltas = search rules in
    c.unsigned_abs.ensures.value
    ∙ ap unsigned_abs
    (to_z-of_z w128 c.prefix.result (search rules)
    ∙ (c.prefix.ensures ∙ (ap (λ (column : List ℤ). total (take c.args.before column)) deltas ∙ time-is c.args.track.now.deltas c.args.before c.requires.track.columns.deltas)))

pub returns-clause-time : goal.returns-clause-time
returns-clause-time c = time (goal.at.returns-clause-time c).After-unsigned_abs

pub returns-clause-short : goal.returns-clause-short
returns-clause-short c = sum-short c.args.track.now c.requires.track (search rules)

pub returns-clause-within : goal.returns-clause-within
returns-clause-within c =
    subst (λ (n : ℕ). n ≤ sum (naturals c.args.track.now.deltas)) (sym (time (goal.at.returns-clause-within c).After-unsigned_abs)) (time-within (naturals c.args.track.now.deltas) c.args.before)
