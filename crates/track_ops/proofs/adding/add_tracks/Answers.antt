use Rattle.std.proofs.Common.{rules, ◌≡◌, ◌∙◌, subst, sym}
use Rattle.mp_movie.specs.WholeParts.{AreParts}
use Rattle.track_ops.specs.Kept.{kept_chosen, kept_joined}
use Rattle.track_ops.proofs.AddedTracks.{added_ok, added_refused, behind, fits_told, joined_told, many_told, others_told, own_told, whole_told}
use Rattle.track_ops.proofs.adding.add_tracks.Goals as goal

pub returns-in-Err-clause-added : goal.returns-in-Err-clause-added
returns-in-Err-clause-added c =
    added_refused c.columns_are_kept.ensures c.args.choice c.args.movie.now c.args.other c.args.other c.in-Err.fail c.tracks-own.ensures.whole c.tracks-theirs.ensures.whole c.in-Err.ensures.scale

pub join-requires-clause-numbers : goal.join-requires-clause-numbers
join-requires-clause-numbers c =
    many_told c.args.movie.now (kept_chosen c.args.choice c.args.other.tracks) c.in-Ok.plan.scale c.in-Ok.plan.numbers.items c.deref.result.now c.tracks-own.result.now c.deref.ensures.value c.tracks-own.ensures.tracks c.in-Ok.ensures.plan

pub join-requires-clause-own_short : goal.join-requires-clause-own_short
join-requires-clause-own_short c =
    own_told c.args.movie.now c.args.other c.take-parts.result (kept_chosen c.args.choice c.args.other.tracks) c.in-Ok.plan.scale c.take-parts.ensures.parts c.in-Ok.ensures.scale

pub join-requires-clause-other_short : goal.join-requires-clause-other_short
join-requires-clause-other_short c =
    others_told c.args.movie.now c.args.other (kept_chosen c.args.choice c.args.other.tracks) c.in-Ok.plan.scale c.in-Ok.plan.numbers.items c.deref.result.now c.tracks-own.result.now c.deref.ensures.value c.tracks-own.ensures.tracks
    c.in-Ok.ensures.plan c.in-Ok.ensures.scale

pub from_parts-requires-clause-whole : goal.from_parts-requires-clause-whole
from_parts-requires-clause-whole c =
    let same : c.join.new.own ≡ c.take-parts.result = search rules in
    subst AreParts (sym same) c.take-parts.ensures.whole

pub from_parts-requires-2-clause-whole : goal.from_parts-requires-2-clause-whole
from_parts-requires-2-clause-whole c =
    let same : c.join.new.own ≡ kept_joined c.take-parts.result c.args.other (kept_chosen c.args.choice c.args.other.tracks) (behind c.deref.result.now c.tracks-own.result.now) c.in-Ok.plan.scale = search rules in
    whole_told c.args.movie.now c.args.other c.join.new.own c.args.choice c.in-Ok.plan.scale c.in-Ok.plan.numbers.items c.tracks-own.ensures.whole c.tracks-theirs.ensures.whole c.join.ensures.short c.in-Ok.ensures.plan
    (joined_told c.args.movie.now c.args.other c.take-parts.result c.join.new.own (kept_chosen c.args.choice c.args.other.tracks) c.in-Ok.plan.scale c.in-Ok.plan.numbers.items c.deref.result.now c.tracks-own.result.now
    c.take-parts.ensures.parts c.deref.ensures.value c.tracks-own.ensures.tracks c.in-Ok.ensures.plan same)

pub from_parts-requires-2-clause-fits : goal.from_parts-requires-2-clause-fits
from_parts-requires-2-clause-fits c =
    let same : c.join.new.own ≡ kept_joined c.take-parts.result c.args.other (kept_chosen c.args.choice c.args.other.tracks) (behind c.deref.result.now c.tracks-own.result.now) c.in-Ok.plan.scale = search rules in
    fits_told c.args.movie.now c.args.other c.join.new.own (kept_chosen c.args.choice c.args.other.tracks) c.in-Ok.plan.scale c.in-Ok.ensures.scale
    (joined_told c.args.movie.now c.args.other c.take-parts.result c.join.new.own (kept_chosen c.args.choice c.args.other.tracks) c.in-Ok.plan.scale c.in-Ok.plan.numbers.items c.deref.result.now c.tracks-own.result.now
    c.take-parts.ensures.parts c.deref.ensures.value c.tracks-own.ensures.tracks c.in-Ok.ensures.plan same)

pub returns-clause-added : goal.returns-clause-added
returns-clause-added c =
    let same : c.join.new.own ≡ kept_joined c.take-parts.result c.args.other (kept_chosen c.args.choice c.args.other.tracks) (behind c.deref.result.now c.tracks-own.result.now) c.in-Ok.plan.scale = search rules in
    added_ok c.columns_are_kept.ensures c.args.choice c.args.movie.now c.args.other c.from_parts-2.result c.in-Ok.plan.scale c.tracks-own.ensures.whole c.tracks-theirs.ensures.whole c.in-Ok.ensures.scale
    (c.from_parts-2.ensures
    ∙ joined_told c.args.movie.now c.args.other c.take-parts.result c.join.new.own (kept_chosen c.args.choice c.args.other.tracks) c.in-Ok.plan.scale c.in-Ok.plan.numbers.items c.deref.result.now c.tracks-own.result.now
    c.take-parts.ensures.parts c.deref.ensures.value c.tracks-own.ensures.tracks c.in-Ok.ensures.plan same)
