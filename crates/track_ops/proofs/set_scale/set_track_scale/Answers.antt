use Rattle.std.proofs.Common.{◌≡◌, ◌∙◌, None, rules, subst, sym}
use Rattle.mp_movie.specs.Placed.{PlacedMovie}
use Rattle.mp_movie.specs.PartsFit.{first_limit}
use Rattle.mp_movie.specs.WholeParts.{AreParts}
use Rattle.track_ops.proofs.SetAt.{can_set_at, set_made}
use Rattle.track_ops.proofs.TrackIsSet.{is_there, refused_number, set_done, set_fits, set_refused, set_whole, track_can, track_some}
use Rattle.track_ops.proofs.set_scale.set_track_scale.Goals as goal

pub returns-in_default : goal.returns-in_default
returns-in_default c = refused_number c.args.number c.args.scale c.args.movie.now c.no_track.result (search rules) c.no_track.ensures

pub fault_of-requires : goal.fault_of-requires
fault_of-requires c =
    let there =
    is_there c.args.number c.in-Some.at c.index-tracks-at.result c.args.movie.now c.tracks-tracks.result.now c.tracks-tracks.ensures.whole c.tracks-tracks.ensures.fits c.tracks-tracks.ensures.tracks c.in-Some.ensures.0 c.in-Some.ensures.1
    (sym c.index-tracks-at.is) in
    track_some c.args.number c.in-Some.at c.index-tracks-at.result c.args.movie.now there

pub returns-in-Some-fault_of : goal.returns-in-Some-fault_of
returns-in-Some-fault_of c =
    let there =
    is_there c.args.number c.in-Some.at c.index-tracks-at.result c.args.movie.now c.tracks-tracks.result.now c.tracks-tracks.ensures.whole c.tracks-tracks.ensures.fits c.tracks-tracks.ensures.tracks c.in-Some.ensures.0 c.in-Some.ensures.1
    (sym c.index-tracks-at.is) in
    set_refused c.columns_are_kept.ensures c.parts_stand_for_movies.ensures c.args.number c.in-Some.at c.args.scale c.index-tracks-at.result c.args.movie.now c.in-Some-fault_of.code c.at.result there c.in-Some-fault_of.ensures c.at.ensures

pub set_scale_at-requires-clause-track : goal.set_scale_at-requires-clause-track
set_scale_at-requires-clause-track c = λ d.
    let there =
    is_there c.args.number c.in-Some.at c.index-tracks-at.result c.args.movie.now c.tracks-tracks.result.now c.tracks-tracks.ensures.whole c.tracks-tracks.ensures.fits c.tracks-tracks.ensures.tracks c.in-Some.ensures.0 c.in-Some.ensures.1
    (sym c.index-tracks-at.is) in
    can_set_at c.args.number c.in-Some.at c.args.scale c.index-tracks-at.result d c.args.movie.now c.take-parts.result there c.take-parts.ensures.parts
    (track_can c.args.scale c.index-tracks-at.result (track_some c.args.number c.in-Some.at c.index-tracks-at.result c.args.movie.now there) c.in_default-fault_of.ensures)

pub from_parts-requires-clause-whole : goal.from_parts-requires-clause-whole
from_parts-requires-clause-whole c =
    let there =
    is_there c.args.number c.in-Some.at c.index-tracks-at.result c.args.movie.now c.tracks-tracks.result.now c.tracks-tracks.ensures.whole c.tracks-tracks.ensures.fits c.tracks-tracks.ensures.tracks c.in-Some.ensures.0 c.in-Some.ensures.1
    (sym c.index-tracks-at.is) in
    let made =
    set_made c.args.number c.in-Some.at c.args.scale c.index-tracks-at.result c.index-tracks-at.result c.args.movie.now c.take-parts.result c.set_scale_at.new.parts there c.take-parts.ensures.parts
    (c.set_scale_at.ensures.parts c.index-tracks-at.result) in
    subst AreParts (sym made) (set_whole c.args.number c.in-Some.at c.args.scale c.index-tracks-at.result c.args.movie.now there c.requires c.set_scale_at.ensures.below)

pub from_parts-requires-clause-fits : goal.from_parts-requires-clause-fits
from_parts-requires-clause-fits c =
    let there =
    is_there c.args.number c.in-Some.at c.index-tracks-at.result c.args.movie.now c.tracks-tracks.result.now c.tracks-tracks.ensures.whole c.tracks-tracks.ensures.fits c.tracks-tracks.ensures.tracks c.in-Some.ensures.0 c.in-Some.ensures.1
    (sym c.index-tracks-at.is) in
    let made =
    set_made c.args.number c.in-Some.at c.args.scale c.index-tracks-at.result c.index-tracks-at.result c.args.movie.now c.take-parts.result c.set_scale_at.new.parts there c.take-parts.ensures.parts
    (c.set_scale_at.ensures.parts c.index-tracks-at.result) in
    subst (λ (m : PlacedMovie). first_limit m ≡ None) (sym made) (set_fits c.args.number c.in-Some.at c.args.scale c.index-tracks-at.result c.args.movie.now there c.in_default-fault_of.ensures)

pub returns : goal.returns
returns c =
    let there =
    is_there c.args.number c.in-Some.at c.index-tracks-at.result c.args.movie.now c.tracks-tracks.result.now c.tracks-tracks.ensures.whole c.tracks-tracks.ensures.fits c.tracks-tracks.ensures.tracks c.in-Some.ensures.0 c.in-Some.ensures.1
    (sym c.index-tracks-at.is) in
    let made =
    set_made c.args.number c.in-Some.at c.args.scale c.index-tracks-at.result c.index-tracks-at.result c.args.movie.now c.take-parts.result c.set_scale_at.new.parts there c.take-parts.ensures.parts
    (c.set_scale_at.ensures.parts c.index-tracks-at.result) in
    set_done c.columns_are_kept.ensures c.parts_stand_for_movies.ensures c.args.number c.in-Some.at c.args.scale c.index-tracks-at.result c.args.movie.now c.from_parts.result there c.in_default-fault_of.ensures (c.from_parts.ensures ∙ made)
