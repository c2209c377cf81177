use Rattle.std.proofs.Common.{rules, ◌≡◌, ℕ, List, sym, ap, subst, ◌∙◌}
use Rattle.mp_timeline.specs.declared.segment.Segment.{Segment}
use Rattle.mp_movie.specs.Placed.{PlacedTrack}
use Rattle.mp_movie.specs.StandsFor.{track_for}
use Rattle.mp_clip.specs.Clipped.{clipped, unit}
use Rattle.mp_clip.specs.Shape.{GivesShape}
use Rattle.cut_op.specs.Between.{media_pieces}
use Rattle.cut_op.proofs.Explicits.{pieces_of_list, pieces_of_media}
use Rattle.cut_op.proofs.shape.track_shape.Goals as goal

pub returns-in-Some : goal.returns-in-Some
returns-in-Some c = λ files.
    subst (λ (ps : List Segment). GivesShape c.args.track.now.scale c.args.movie_scale (unit c.args.track.now.scale c.args.movie_scale c.args.from c.args.to) ps c.clip_shape.result)
    (sym (pieces_of_list c.args.movie_scale c.args.from c.args.to (track_for files c.args.track.now) c.deref.result.now (search rules)))
    (subst (λ (t : PlacedTrack). GivesShape t.scale c.args.movie_scale (unit t.scale c.args.movie_scale c.args.from c.args.to) (clipped t.scale c.args.movie_scale c.args.from c.args.to c.deref.result.now) c.clip_shape.result) c.track.view_is c.clip_shape.ensures)

pub returns-in-None : goal.returns-in-None
returns-in-None c = λ files.
    subst (λ (ps : List Segment). GivesShape c.args.track.now.scale c.args.movie_scale (unit c.args.track.now.scale c.args.movie_scale c.args.from c.args.to) ps c.media_shape.result)
    (sym (pieces_of_media c.args.movie_scale c.args.from c.args.to (track_for files c.args.track.now) (search rules)
    ∙ ap (media_pieces c.args.track.now.scale c.args.movie_scale c.args.from c.args.to) (sym (c.media_end.ensures.end files))))
    (subst (λ (t : PlacedTrack). GivesShape t.scale c.args.movie_scale (unit t.scale c.args.movie_scale c.args.from c.args.to) (media_pieces t.scale c.args.movie_scale c.args.from c.args.to c.media_end.result) c.media_shape.result) c.track.view_is c.media_shape.ensures)
