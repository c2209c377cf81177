use Rattle.std.proofs.Common.{◌∙◌, true, false, refl, rules, sym, w32}
use Rattle.std.proofs.lemmas.Int.{to_z-of_z}
use Rattle.track_ops.proofs.DelayFound.{can_told, done_told, fits_told, made_told, parts_told, refused_told, short_told, showing_told, shown_told, there_any, zero_told}
use Rattle.track_ops.proofs.DelayShows.{no_delay_shows}
use Rattle.track_ops.proofs.ShortExtents.{can_widen}
use Rattle.track_ops.proofs.ShownStands.{no_track_delayed, not_delayed}
use Rattle.track_ops.proofs.TrackIsSet.{is_there}
use Rattle.track_ops.proofs.delaying.delay.Goals as goal

pub returns-in_default-clause-delayed : goal.returns-in_default-clause-delayed
returns-in_default-clause-delayed c =
    no_track_delayed c.args.number c.args.ms c.args.movie.now c.no_track.result (search rules) c.no_track.ensures

pub returns-then-is_none-clause-delayed : goal.returns-then-is_none-clause-delayed
returns-then-is_none-clause-delayed c =
    let value = to_z-of_z w32 c.args.ms (search rules) in
    let none = zero_told c.is_none.result true _ c.args.ms value c.is_none.ensures c.if-is_none.true in
    not_delayed c.args.number c.in-Some.at c.args.ms _ c.args.movie.now c.args.movie.now
    (there_any c.args.number c.in-Some.at c.args.movie.now c.tracks-tracks.result.now c.tracks-tracks.ensures.whole c.tracks-tracks.ensures.fits c.tracks-tracks.ensures.tracks c.in-Some.ensures.0 c.in-Some.ensures.1) none refl

pub returns-then-is_none-clause-shown : goal.returns-then-is_none-clause-shown
returns-then-is_none-clause-shown c =
    let value = to_z-of_z w32 c.args.ms (search rules) in
    let none = zero_told c.is_none.result true _ c.args.ms value c.is_none.ensures c.if-is_none.true in
    no_delay_shows c.times_decide_what_is_shown.ensures c.args.number c.args.ms c.args.movie.now c.args.movie.now c.tracks-tracks.ensures.whole none refl

pub delayed-requires : goal.delayed-requires
delayed-requires c =
    let there =
    is_there c.args.number c.in-Some.at c.index-tracks-at.result c.args.movie.now c.tracks-tracks.result.now c.tracks-tracks.ensures.whole c.tracks-tracks.ensures.fits c.tracks-tracks.ensures.tracks c.in-Some.ensures.0 c.in-Some.ensures.1
    (sym c.index-tracks-at.is) in
    can_widen c.columns_are_kept.ensures c.parts_stand_for_movies.ensures c.args.number c.in-Some.at c.index-tracks-at.result c.args.movie.now there

pub returns-in-Err-clause-delayed : goal.returns-in-Err-clause-delayed
returns-in-Err-clause-delayed c =
    let there =
    is_there c.args.number c.in-Some.at c.index-tracks-at.result c.args.movie.now c.tracks-tracks.result.now c.tracks-tracks.ensures.whole c.tracks-tracks.ensures.fits c.tracks-tracks.ensures.tracks c.in-Some.ensures.0 c.in-Some.ensures.1
    (sym c.index-tracks-at.is) in
    let value = to_z-of_z w32 c.args.ms (search rules) in
    let some = zero_told c.is_none.result false _ c.args.ms value c.is_none.ensures c.if-is_none.false in
    refused_told c.columns_are_kept.ensures c.args.number c.in-Some.at c.args.ms _ c.scale.result c.index-tracks-at.result c.args.movie.now there value c.scale.ensures some c.in-Err.fail c.in-Err.ensures

pub returns-in-Err-make_showing-clause-delayed : goal.returns-in-Err-make_showing-clause-delayed
returns-in-Err-make_showing-clause-delayed c =
    let there =
    is_there c.args.number c.in-Some.at c.index-tracks-at.result c.args.movie.now c.tracks-tracks.result.now c.tracks-tracks.ensures.whole c.tracks-tracks.ensures.fits c.tracks-tracks.ensures.tracks c.in-Some.ensures.0 c.in-Some.ensures.1
    (sym c.index-tracks-at.is) in
    let value = to_z-of_z w32 c.args.ms (search rules) in
    let some = zero_told c.is_none.result false _ c.args.ms value c.is_none.ensures c.if-is_none.false in
    showing_told c.columns_are_kept.ensures c.args.number c.in-Some.at c.args.ms _ c.scale.result c.index-tracks-at.result c.args.movie.now there value c.scale.ensures some c.in-Ok.segments.items c.deref.result.now c.deref.ensures.value c.in-Ok.ensures c.in-Err-make_showing.fail c.index-tracks-at.result (c.in-Err-make_showing.ensures.shown c.index-tracks-at.result)

pub show-requires-clause-short : goal.show-requires-clause-short
show-requires-clause-short c = λ e.
    let there =
    is_there c.args.number c.in-Some.at c.index-tracks-at.result c.args.movie.now c.tracks-tracks.result.now c.tracks-tracks.ensures.whole c.tracks-tracks.ensures.fits c.tracks-tracks.ensures.tracks c.in-Some.ensures.0 c.in-Some.ensures.1
    (sym c.index-tracks-at.is) in
    let value = to_z-of_z w32 c.args.ms (search rules) in
    let some = zero_told c.is_none.result false _ c.args.ms value c.is_none.ensures c.if-is_none.false in
    short_told c.columns_are_kept.ensures c.args.number c.in-Some.at c.args.ms _ c.scale.result c.index-tracks-at.result c.args.movie.now there value c.scale.ensures some c.in-Ok.segments.items c.deref.result.now c.deref.ensures.value c.in-Ok.ensures c.in-Ok-make_showing.showing.media c.in-Ok-make_showing.showing.movie c.in-Ok-make_showing.showing.edits.items c.index-tracks-at.result (c.in-Ok-make_showing.ensures.showing c.index-tracks-at.result) e c.take-parts.result c.take-parts.ensures.parts

pub show-requires-clause-track : goal.show-requires-clause-track
show-requires-clause-track c = λ e.
    let there =
    is_there c.args.number c.in-Some.at c.index-tracks-at.result c.args.movie.now c.tracks-tracks.result.now c.tracks-tracks.ensures.whole c.tracks-tracks.ensures.fits c.tracks-tracks.ensures.tracks c.in-Some.ensures.0 c.in-Some.ensures.1
    (sym c.index-tracks-at.is) in
    let value = to_z-of_z w32 c.args.ms (search rules) in
    let some = zero_told c.is_none.result false _ c.args.ms value c.is_none.ensures c.if-is_none.false in
    can_told c.columns_are_kept.ensures c.args.number c.in-Some.at c.args.ms _ c.scale.result c.index-tracks-at.result c.args.movie.now there value c.scale.ensures some c.in-Ok.segments.items c.deref.result.now c.deref.ensures.value c.in-Ok.ensures c.in-Ok-make_showing.showing.media c.in-Ok-make_showing.showing.movie c.in-Ok-make_showing.showing.edits.items c.index-tracks-at.result (c.in-Ok-make_showing.ensures.showing c.index-tracks-at.result) e c.take-parts.result c.take-parts.ensures.parts

pub from_parts-requires-clause-whole : goal.from_parts-requires-clause-whole
from_parts-requires-clause-whole c =
    let there =
    is_there c.args.number c.in-Some.at c.index-tracks-at.result c.args.movie.now c.tracks-tracks.result.now c.tracks-tracks.ensures.whole c.tracks-tracks.ensures.fits c.tracks-tracks.ensures.tracks c.in-Some.ensures.0 c.in-Some.ensures.1
    (sym c.index-tracks-at.is) in
    let value = to_z-of_z w32 c.args.ms (search rules) in
    let some = zero_told c.is_none.result false _ c.args.ms value c.is_none.ensures c.if-is_none.false in
    let made = made_told c.columns_are_kept.ensures c.args.number c.in-Some.at c.args.ms _ c.scale.result c.index-tracks-at.result c.args.movie.now there value c.scale.ensures some c.in-Ok.segments.items c.deref.result.now c.deref.ensures.value c.in-Ok.ensures c.in-Ok-make_showing.showing.media c.in-Ok-make_showing.showing.movie c.in-Ok-make_showing.showing.edits.items c.index-tracks-at.result (c.in-Ok-make_showing.ensures.showing c.index-tracks-at.result) c.take-parts.result c.show.new.parts c.take-parts.ensures.parts (c.show.ensures.shown c.index-tracks-at.result) in
    parts_told c.columns_are_kept.ensures c.args.number c.in-Some.at c.args.ms _ c.scale.result c.index-tracks-at.result c.args.movie.now there value c.scale.ensures some c.in-Ok.segments.items c.deref.result.now c.deref.ensures.value c.in-Ok.ensures c.in-Ok-make_showing.showing.media c.in-Ok-make_showing.showing.movie c.in-Ok-make_showing.showing.edits.items c.index-tracks-at.result (c.in-Ok-make_showing.ensures.showing c.index-tracks-at.result) c.pieces_show.ensures c.show.new.parts c.show.ensures.media_below c.show.ensures.scale_below made

pub from_parts-requires-clause-fits : goal.from_parts-requires-clause-fits
from_parts-requires-clause-fits c =
    let there =
    is_there c.args.number c.in-Some.at c.index-tracks-at.result c.args.movie.now c.tracks-tracks.result.now c.tracks-tracks.ensures.whole c.tracks-tracks.ensures.fits c.tracks-tracks.ensures.tracks c.in-Some.ensures.0 c.in-Some.ensures.1
    (sym c.index-tracks-at.is) in
    let value = to_z-of_z w32 c.args.ms (search rules) in
    let some = zero_told c.is_none.result false _ c.args.ms value c.is_none.ensures c.if-is_none.false in
    let made = made_told c.columns_are_kept.ensures c.args.number c.in-Some.at c.args.ms _ c.scale.result c.index-tracks-at.result c.args.movie.now there value c.scale.ensures some c.in-Ok.segments.items c.deref.result.now c.deref.ensures.value c.in-Ok.ensures c.in-Ok-make_showing.showing.media c.in-Ok-make_showing.showing.movie c.in-Ok-make_showing.showing.edits.items c.index-tracks-at.result (c.in-Ok-make_showing.ensures.showing c.index-tracks-at.result) c.take-parts.result c.show.new.parts c.take-parts.ensures.parts (c.show.ensures.shown c.index-tracks-at.result) in
    fits_told c.columns_are_kept.ensures c.args.number c.in-Some.at c.args.ms _ c.scale.result c.index-tracks-at.result c.args.movie.now there value c.scale.ensures some c.in-Ok.segments.items c.deref.result.now c.deref.ensures.value c.in-Ok.ensures c.in-Ok-make_showing.showing.media c.in-Ok-make_showing.showing.movie c.in-Ok-make_showing.showing.edits.items c.index-tracks-at.result (c.in-Ok-make_showing.ensures.showing c.index-tracks-at.result) c.show.new.parts made

pub returns-clause-delayed : goal.returns-clause-delayed
returns-clause-delayed c =
    let there =
    is_there c.args.number c.in-Some.at c.index-tracks-at.result c.args.movie.now c.tracks-tracks.result.now c.tracks-tracks.ensures.whole c.tracks-tracks.ensures.fits c.tracks-tracks.ensures.tracks c.in-Some.ensures.0 c.in-Some.ensures.1
    (sym c.index-tracks-at.is) in
    let value = to_z-of_z w32 c.args.ms (search rules) in
    let some = zero_told c.is_none.result false _ c.args.ms value c.is_none.ensures c.if-is_none.false in
    let made = made_told c.columns_are_kept.ensures c.args.number c.in-Some.at c.args.ms _ c.scale.result c.index-tracks-at.result c.args.movie.now there value c.scale.ensures some c.in-Ok.segments.items c.deref.result.now c.deref.ensures.value c.in-Ok.ensures c.in-Ok-make_showing.showing.media c.in-Ok-make_showing.showing.movie c.in-Ok-make_showing.showing.edits.items c.index-tracks-at.result (c.in-Ok-make_showing.ensures.showing c.index-tracks-at.result) c.take-parts.result c.show.new.parts c.take-parts.ensures.parts (c.show.ensures.shown c.index-tracks-at.result) in
    done_told c.columns_are_kept.ensures c.args.number c.in-Some.at c.args.ms _ c.scale.result c.index-tracks-at.result c.args.movie.now there value c.scale.ensures some c.in-Ok.segments.items c.deref.result.now c.deref.ensures.value c.in-Ok.ensures c.in-Ok-make_showing.showing.media c.in-Ok-make_showing.showing.movie c.in-Ok-make_showing.showing.edits.items c.index-tracks-at.result (c.in-Ok-make_showing.ensures.showing c.index-tracks-at.result) c.from_parts.result (c.in-Ok-make_showing.ensures.shown c.index-tracks-at.result) (c.from_parts.ensures ∙ made)

pub returns-clause-shown : goal.returns-clause-shown
returns-clause-shown c =
    let there =
    is_there c.args.number c.in-Some.at c.index-tracks-at.result c.args.movie.now c.tracks-tracks.result.now c.tracks-tracks.ensures.whole c.tracks-tracks.ensures.fits c.tracks-tracks.ensures.tracks c.in-Some.ensures.0 c.in-Some.ensures.1
    (sym c.index-tracks-at.is) in
    let value = to_z-of_z w32 c.args.ms (search rules) in
    let some = zero_told c.is_none.result false _ c.args.ms value c.is_none.ensures c.if-is_none.false in
    let made = made_told c.columns_are_kept.ensures c.args.number c.in-Some.at c.args.ms _ c.scale.result c.index-tracks-at.result c.args.movie.now there value c.scale.ensures some c.in-Ok.segments.items c.deref.result.now c.deref.ensures.value c.in-Ok.ensures c.in-Ok-make_showing.showing.media c.in-Ok-make_showing.showing.movie c.in-Ok-make_showing.showing.edits.items c.index-tracks-at.result (c.in-Ok-make_showing.ensures.showing c.index-tracks-at.result) c.take-parts.result c.show.new.parts c.take-parts.ensures.parts (c.show.ensures.shown c.index-tracks-at.result) in
    shown_told c.columns_are_kept.ensures c.args.number c.in-Some.at c.args.ms _ c.scale.result c.index-tracks-at.result c.args.movie.now there value c.scale.ensures some c.in-Ok.segments.items c.deref.result.now c.deref.ensures.value c.in-Ok.ensures c.in-Ok-make_showing.showing.media c.in-Ok-make_showing.showing.movie c.in-Ok-make_showing.showing.edits.items c.index-tracks-at.result (c.in-Ok-make_showing.ensures.showing c.index-tracks-at.result) c.times_decide_what_is_shown.ensures c.pieces_show.ensures c.from_parts.result (c.from_parts.ensures ∙ made)
