use Rattle.std.proofs.Common.{◌∙◌, ◌+◌, ◌-◌, ◌^◌, ℕ, List, min, ap, sym, arith}
use Rattle.mp_movie.specs.Durations.{greatest}
use Rattle.mp_movie.specs.Placed.{PlacedTrack}
use Rattle.mp_movie.proofs.DurationsByColumns.{all_passed, numbers_for, numbers_of}
use Rattle.mp_movie.proofs.durations.next_track.Goals as goal

pub returns : goal.returns
returns c = λ files.
    let items = c.tracks-track-items.result.now in
    let last = all_passed (λ (t : PlacedTrack). t.number) items c.loop-track.track-index c.loop-track.greatest (omega (arith, c.loop-track-test.false)) c.loop-track.invariant in
    let same = ap (λ (tracks : List PlacedTrack). greatest (numbers_of tracks)) c.tracks-track-items.ensures.tracks ∙ ap greatest (sym (numbers_for files c.args.movie.now.tracks)) in
    c.saturating_add.ensures ∙ ap (λ (number : ℕ). min (number + 1) (2 ^ 32 - 1)) (last ∙ same)
