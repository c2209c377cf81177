use Rattle.std.proofs.Common.{rules, ◌≡◌, ◌<◌, length, get_or, refl}
use Rattle.mp_dump.specs.Info.{track_line}
use Rattle.mp_dump.proofs.TracksAreWritten.{track_told}
use Rattle.mp_dump.proofs.info.info_text.Invariants.{left}
use Rattle.mp_dump.proofs.info.info_text.Goals as goal

pub loop-track-preserved : goal.loop-track-preserved
loop-track-preserved c =
    let lt : c.loop-track.track-index < length c.tracks_of-track-items.result.now = search rules in
    let is : get_or c.tracks_of-track-items.result.now c.loop-track.track-index c.track-item.result ≡ c.track-item.result = search rules in
    track_told left (λ n track. track_line track) (λ n track rest. refl) c.args.movie.now c.tracks_of-track-items.result.now c.loop-track.track-index c.track-item.result
    c.loop-track.out.items c.put_track.new.out.items c.put_movie.new.out.items lt is c.in_ok-put_track.ensures c.loop-track.invariant
