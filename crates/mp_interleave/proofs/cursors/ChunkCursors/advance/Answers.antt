use Rattle.std.proofs.Common.{rules, arith, ◌<◌, length}
use Rattle.mp_interleave.specs.Order.{keys_in}
use Rattle.mp_interleave.specs.Place.{IsNext}
use Rattle.mp_interleave.proofs.SampleKeys.{kept-tracks}
use Rattle.mp_interleave.proofs.Places.{next-short, place-on}
use Rattle.mp_interleave.proofs.cursors.ChunkCursors.advance.Goals as goal

pub overflow_add-chunk : goal.overflow_add-chunk
overflow_add-chunk c =
    let next : IsNext (keys_in c.args.self.now.window c.args.movie.now.tracks) c.args.self.now.done c.in_ok-chunk.chunk = search rules in
    let short = next-short c.args.movie.now c.args.self.now.window c.args.self.now.done c.args.self.now.next.items c.in_ok-chunk.chunk (search rules) c.requires next in
    omega (arith, short.end_short)

pub index_mut-requires : goal.index_mut-requires
index_mut-requires c =
    let next : IsNext (keys_in c.args.self.now.window c.args.movie.now.tracks) c.args.self.now.done c.in_ok-chunk.chunk = search rules in
    let short = next-short c.args.movie.now c.args.self.now.window c.args.self.now.done c.args.self.now.next.items c.in_ok-chunk.chunk (search rules) c.requires next in
    let named : c.in_ok-chunk.chunk.track < length c.args.self.now.next.items = short.named in
    search rules

pub overflow_add-self : goal.overflow_add-self
overflow_add-self c =
    let next : IsNext (keys_in c.args.self.now.window c.args.movie.now.tracks) c.args.self.now.done c.in_ok-chunk.chunk = search rules in
    let short = next-short c.args.movie.now c.args.self.now.window c.args.self.now.done c.args.self.now.next.items c.in_ok-chunk.chunk (search rules) c.requires next in
    omega (arith, short.done_short)

pub returns-clause-place : goal.returns-clause-place
returns-clause-place c =
    let next : IsNext (keys_in c.args.self.now.window c.args.movie.now.tracks) c.args.self.now.done c.in_ok-chunk.chunk = search rules in
    place-on (keys_in c.args.self.now.window c.args.movie.now.tracks) c.args.self.now.done c.args.self.now.next.items c.in_ok-chunk.chunk (kept-tracks c.args.self.now.window c.args.movie.now.tracks) c.requires next
