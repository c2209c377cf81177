use Rattle.std.proofs.Common.{ℕ, [], List, ap, subst, ◌∙◌}
use Rattle.std.specs.List.{list_any}
use Rattle.mp_edits.specs.Segments.{starts_late}
use Rattle.mp_movie.specs.Durations.{extent}
use Rattle.mp_movie.specs.Placed.{PlacedTrack}
use Rattle.mp_movie.specs.StandsFor.{samples_of}
use Rattle.mp_clip.specs.declared.touching.Span.{Span}
use Rattle.cut_op.specs.Found.{AreKept}
use Rattle.cut_op.proofs.SortedSpans.{range_needed, shown_early}
use Rattle.cut_op.proofs.plan.needed_range.Goals as goal

pub touched-requires-clause-early : goal.touched-requires-clause-early
touched-requires-clause-early c =
    ap (list_any starts_late) c.explicit-shows.ensures.edits
    ∙ shown_early c.args.track.now.edits c.whole_media-whole.result (extent (samples_of [] c.args.track.now)) c.requires.track.edits (c.whole_media-whole.ensures.media [])

pub returns : goal.returns
returns c = λ files.
    range_needed files c.args.old c.args.from c.args.to c.args.track.now c.kept_by.result.from c.kept_by.result.to c.in_ok-spans.spans.items c.track.inside.scale c.explicit-shows.result.scale c.explicit-shows.result.edits.now
    c.whole_media-whole.result c.requires.movie c.requires.range.some_begin.some c.requires.range.some_end.some c.requires.track.scale (ap (λ (t : PlacedTrack). t.scale) c.track.view_is) c.explicit-shows.ensures.scale
    c.explicit-shows.ensures.edits (c.whole_media-whole.ensures.media files) c.in_ok-spans.ensures
    (subst (λ (spans : List Span). AreKept spans c.args.track.now c.kept_by.result.from c.kept_by.result.to) c.deref_mut.ensures.value c.kept_by.ensures)
