use Rattle.std.proofs.Common.{rules, ◌≡◌, ◌∙◌, ℕ, ◌+◌, ◌++◌, ◌∷◌, [], subst}
use Rattle.mp_interleave.specs.Order.{keys_in}
use Rattle.mp_interleave.specs.Place.{IsNext}
use Rattle.mp_interleave.proofs.SampleKeys.{kept-tracks}
use Rattle.mp_interleave.proofs.Places.{plan-on}
use Rattle.mp_interleave.proofs.plan.chunk_plan.Goals as goal

pub loop-chunk-preserved : goal.loop-chunk-preserved
loop-chunk-preserved c =
    let done : c.advance.new.self.done ≡ c.loop-chunk.cursors.done + 1 = search rules in
    let window : c.advance.new.self.window ≡ c.loop-chunk.cursors.window = search rules in
    let items : c.push.new.self.items ≡ c.loop-chunk.chunks.items ++ c.in-Some.chunk ∷ [] = search rules in
    let keys = keys_in c.args.window c.args.movie.now.tracks in
    let next : IsNext keys c.loop-chunk.cursors.done c.in-Some.chunk
    = subst (λ (n : ℕ). IsNext (keys_in n c.args.movie.now.tracks) c.loop-chunk.cursors.done c.in-Some.chunk) c.loop-chunk.invariant.1 c.in-Some.ensures.chunk in (
      c.advance.ensures.place,
      window ∙ c.loop-chunk.invariant.1,
      rw (items, done) (plan-on keys c.loop-chunk.cursors.done c.loop-chunk.chunks.items c.in-Some.chunk (kept-tracks c.args.window c.args.movie.now.tracks) next c.loop-chunk.invariant.2),
    )
