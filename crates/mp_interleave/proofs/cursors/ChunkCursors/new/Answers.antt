use Rattle.std.proofs.Common.{rules, ◌≡◌, ℕ, List, replicate, length, sym, subst}
use Rattle.mp_interleave.specs.Order.{keys_in}
use Rattle.mp_interleave.specs.Place.{IsPlace}
use Rattle.mp_interleave.proofs.Places.{place-start}
use Rattle.mp_interleave.proofs.cursors.ChunkCursors.new.Goals as goal

pub returns-clause-place : goal.returns-clause-place
returns-clause-place c =
    let ones : c.in_ok-next.next.items ≡ replicate (length c.args.movie.now.tracks) 1 = search rules in
    subst (λ (next : List ℕ). IsPlace (keys_in c.args.window c.args.movie.now.tracks) 0 next) (sym ones) (place-start c.args.window c.args.movie.now.tracks)
