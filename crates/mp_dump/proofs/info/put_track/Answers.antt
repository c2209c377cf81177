use Rattle.mp_dump.proofs.LinesOfTracks.{line_of}
use Rattle.mp_dump.proofs.info.put_track.Goals as goal

pub returns : goal.returns
returns c = λ files held. line_of files c.args.track.now _ _ _ _ c.in_ok-put_description.ensures (c.in_ok-put_totals.ensures files held) c.in_ok-put_settings.ensures
