use Rattle.std.proofs.Common.{sym, subst}
use Rattle.mp_movie.specs.Placed.{plain_scale}
use Rattle.mp_movie.specs.WholeParts.{AreTrackParts}
use Rattle.mp_movie.specs.contracts.track.Track.{the_view}
use Rattle.mp_layout.proofs.TestTracks.{with-user-data}
use Rattle.mp_layout.proofs.tests.bytes.with_user_data.Goals as goal

pub returns : goal.returns
returns c =
    let parts = subst (AreTrackParts plain_scale) (sym c.track.view_is) c.requires.parts in
    with-user-data _ _ c.in_ok-udta.ensures (subst (λ t. AreTrackParts plain_scale (the_view t)) (sym c.track-inside.view_is) parts)
