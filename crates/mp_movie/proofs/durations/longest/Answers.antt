use Rattle.std.proofs.Common.{rules, ◌≡◌, ◌∙◌, ap, sym, arith, get_or}
use Rattle.mp_movie.specs.Durations.{greatest}
use Rattle.mp_movie.proofs.DurationsByColumns.{all_passed, duration_for, durations_for, one_passed}
use Rattle.mp_movie.proofs.durations.longest.Goals as goal

pub loop-track-preserved : goal.loop-track-preserved
loop-track-preserved c = λ files.
    let tracks = c.args.tracks.now in
    let here : c.track-item.result ≡ get_or tracks c.loop-track.track-index c.track-item.result = search rules in
    rw c.max-longest.ensures (one_passed (duration_for c.args.movie_scale files) tracks c.loop-track.track-index c.loop-track.longest c.track_duration.result c.track-item.result c.loop-track-test.true here (c.track_duration.ensures files) (c.loop-track.invariant files))

pub returns : goal.returns
returns c = λ files.
    let tracks = c.args.tracks.now in
    all_passed (duration_for c.args.movie_scale files) tracks c.loop-track.track-index c.loop-track.longest (omega (arith, c.loop-track-test.false)) (c.loop-track.invariant files)
    ∙ ap greatest (sym (durations_for c.args.movie_scale files tracks))
