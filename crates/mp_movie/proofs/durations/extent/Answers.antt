use Rattle.std.proofs.Common.{rules, ◌≡◌, ◌∙◌, ℕ, ℤ, List, ap, sym, subst, arith, length, take, pos, w64, ◌+ℤ◌}
use Rattle.std.specs.Prelude.{sum}
use Rattle.std.proofs.lemmas.Int.{to_z-of_z}
use Rattle.mp_columns.specs.Runs.{IsLongestRun}
use Rattle.mp_movie.specs.Durations.{not_before_start}
use Rattle.mp_movie.specs.Placed.{naturals}
use Rattle.mp_movie.proofs.LatestEnds.{extent_is, latest_of, run_is_seen}
use Rattle.mp_movie.proofs.durations.extent.Goals as goal

pub loop-run-preserved : goal.loop-run-preserved
loop-run-preserved c =
    let track = c.args.track.now in
    let to = c.next_run.new.cursor in
    let time = c.time_after-time.result in
    let deltas : c.track.inside.deltas ≡ track.deltas = search rules in
    let offsets : c.track.inside.offsets ≡ track.offsets = search rules in
    let run = subst (λ (items : List ℤ). IsLongestRun items c.loop-run.cursor to c.in-Some.run') offsets c.in-Some.ensures.next in
    let at =
    c.time_after-time.ensures.time ∙ (ap (λ (n : ℕ). sum (take n (naturals c.track.inside.deltas))) c.place.ensures ∙ ap (λ (column : List ℤ). sum (take to (naturals column))) deltas) in
    let end = c.end_of.ensures.end ∙ ap (λ (offset : ℤ). not_before_start (pos time +ℤ offset)) (to_z-of_z w64 c.in-Some.run'.value (search rules)) in
    rw c.max-latest.ensures
    (run_is_seen track c.loop-run.cursor to c.loop-run.latest time c.end_of.result c.in-Some.run' c.requires c.loop-run.invariant run at end (omega (arith, c.end_of.ensures.short, c.time_after-time.ensures.short)))

pub returns-clause-latest : goal.returns-clause-latest
returns-clause-latest c = λ files.
    let track = c.args.track.now in
    let offsets : length c.track.inside.offsets ≡ length track.offsets = search rules in
    let all : c.loop-run.cursor ≡ length track.deltas = omega (arith, c.in_default.ensures.next.0, offsets, c.requires.offsets_len) in
    c.loop-run.invariant.ends ∙ (ap (latest_of track) all ∙ sym (extent_is files track))
