use Rattle.std.proofs.Common.{ℕ, ◌+◌, List, ◌∷◌, drop, subst, sym, arith}
use Rattle.mp_timeline.specs.declared.segment.Segment.TheVariants.{Empty}
use Rattle.mp_clip.specs.Clipped.{starts}
use Rattle.mp_frac.specs.Divisors.{IsGreatestCommon}
use Rattle.track_ops.proofs.Starts.{starts_end, starts_next}
use Rattle.track_ops.proofs.Summaries.{divisor_alone}
use Rattle.track_ops.proofs.ticks.divisor_of_starts.Goals as goal

pub loop-segment-preserved : goal.loop-segment-preserved
loop-segment-preserved c = λ divisor is.
    c.loop-segment.invariant divisor
    (subst (λ (numbers : List ℕ). IsGreatestCommon (c.loop-segment.divisor ∷ numbers) divisor) (sym (starts_next c.args.edits.now c.loop-segment.segment-index (Empty 0) c.loop-segment-test.true))
    (c.with_start-divisor.ensures (starts (drop (c.loop-segment.segment-index + 1) c.args.edits.now)) divisor is))

pub returns : goal.returns
returns c =
    c.loop-segment.invariant c.loop-segment.divisor
    (subst (λ (numbers : List ℕ). IsGreatestCommon (c.loop-segment.divisor ∷ numbers) c.loop-segment.divisor) (sym (starts_end c.args.edits.now c.loop-segment.segment-index (omega (arith, c.loop-segment-test.false)))) (divisor_alone c.loop-segment.divisor))
