use Rattle.std.proofs.Common.{ℕ, ◌<◌, [], List, sym, ap, subst, ◌∙◌}
use Rattle.std.specs.List.{list_any}
use Rattle.std.proofs.lemmas.Result.{IfOk-weaker}
use Rattle.mp_edits.specs.Segments.{starts_late}
use Rattle.mp_movie.specs.Durations.{extent}
use Rattle.mp_movie.specs.Placed.{PlacedTrack}
use Rattle.mp_movie.specs.StandsFor.{samples_of}
use Rattle.cut_op.proofs.SortedSpans.{shown_early}
use Rattle.cut_op.proofs.ToldParts.{can_clip_as, has_edits_as}
use Rattle.cut_op.proofs.plan.edits_of.Goals as goal

pub clip_back-requires-clause-early : goal.clip_back-requires-clause-early
clip_back-requires-clause-early c =
    ap (list_any starts_late) c.explicit-shows.ensures.edits
    ∙ shown_early c.args.track.now.edits c.whole_media-whole.result (extent (samples_of [] c.args.track.now)) c.requires.track.edits (c.whole_media-whole.ensures.media [])

pub clip_back-requires-clause-new_media : goal.clip_back-requires-clause-new_media
clip_back-requires-clause-new_media c = let told = c.requires.told [] in subst (λ (x : ℕ). 0 < x) (sym told.is.scale) told.is.is_shape.media_scale.0.some

pub clip_back-requires-clause-room : goal.clip_back-requires-clause-room
clip_back-requires-clause-room c = (c.requires.told []).room

pub clip_back-requires-clause-told : goal.clip_back-requires-clause-told
clip_back-requires-clause-told c =
    can_clip_as c.wholeness_is_division.ensures [] c.args.old c.args.new c.args.from c.args.to c.args.track.now c.args.plan.now c.requires.new_movie (c.requires.told []) c.requires.movie c.requires.track.scale
    c.requires.range.some_begin.some c.requires.range.some_end.some c.track.inside.scale c.explicit-shows.result.scale c.explicit-shows.result.edits.now c.whole_media-whole.result (ap (λ (t : PlacedTrack). t.scale) c.track.view_is)
    c.explicit-shows.ensures.scale c.explicit-shows.ensures.edits (c.whole_media-whole.ensures.media [])

pub returns : goal.returns
returns c = IfOk-weaker c.or_empty.result _ _ (λ edits are files.
    has_edits_as c.wholeness_is_division.ensures files c.args.old c.args.new c.args.from c.args.to c.args.track.now c.args.plan.now c.requires.new_movie (c.requires.told files) c.requires.movie c.requires.track.scale
    c.requires.range.some_begin.some c.requires.range.some_end.some c.track.inside.scale c.explicit-shows.result.scale c.explicit-shows.result.edits.now c.whole_media-whole.result (ap (λ (t : PlacedTrack). t.scale) c.track.view_is)
    c.explicit-shows.ensures.scale c.explicit-shows.ensures.edits (c.whole_media-whole.ensures.media files) c.in_ok-edits.edits.items edits.items c.in_ok-edits.ensures are) c.or_empty.ensures
