use Rattle.std.proofs.Common.{ℕ, ◌∙◌, Some, None, subst, sym}
use Rattle.std.specs.Int.{◌∣◌}
use Rattle.track_ops.specs.Kept.{kept_chosen, kept_joined}
use Rattle.track_ops.proofs.AddedParts.{given}
use Rattle.track_ops.proofs.PlannedScales.{limit_behind, scale_found}
use Rattle.track_ops.proofs.adding.joined_scale.Goals as goal

pub returns-in_default-clause-scale : goal.returns-in_default-clause-scale
returns-in_default-clause-scale c =
    sym (scale_found c.wholeness_is_division.ensures c.args.movie.now c.args.other.now (kept_chosen c.args.choice c.args.other.now.tracks) c.args.added c.lead_scale.result c.scale_of.result None c.tracks-own_tracks.ensures.whole
    c.tracks-other_tracks.ensures.whole c.lead_scale.ensures.scale c.lead_scale.ensures.some c.scale_of.ensures.scale c.requires.added c.in_default.ensures.least)

pub limit_at-requires-clause-multiple : goal.limit_at-requires-clause-multiple
limit_at-requires-clause-multiple c = subst (λ (x : ℕ). x ∣ c.in-Some.scale) c.lead_scale.ensures.scale c.in-Some.ensures.least.0.multiple

pub returns-in-None-clause-scale : goal.returns-in-None-clause-scale
returns-in-None-clause-scale c =
    sym (scale_found c.wholeness_is_division.ensures c.args.movie.now c.args.other.now (kept_chosen c.args.choice c.args.other.now.tracks) c.args.added c.lead_scale.result c.scale_of.result (Some c.in-Some.scale)
    c.tracks-own_tracks.ensures.whole c.tracks-other_tracks.ensures.whole c.lead_scale.ensures.scale c.lead_scale.ensures.some c.scale_of.ensures.scale c.requires.added c.in-Some.ensures.least
    ∙ limit_behind (kept_joined c.args.movie.now c.args.other.now (kept_chosen c.args.choice c.args.other.now.tracks) (given c.args.movie.now (kept_chosen c.args.choice c.args.other.now.tracks))) c.in-Some.scale None c.in-None.ensures)

pub returns-in-Some-limit_at-clause-scale : goal.returns-in-Some-limit_at-clause-scale
returns-in-Some-limit_at-clause-scale c =
    sym (scale_found c.wholeness_is_division.ensures c.args.movie.now c.args.other.now (kept_chosen c.args.choice c.args.other.now.tracks) c.args.added c.lead_scale.result c.scale_of.result (Some c.in-Some.scale)
    c.tracks-own_tracks.ensures.whole c.tracks-other_tracks.ensures.whole c.lead_scale.ensures.scale c.lead_scale.ensures.some c.scale_of.ensures.scale c.requires.added c.in-Some.ensures.least
    ∙ limit_behind (kept_joined c.args.movie.now c.args.other.now (kept_chosen c.args.choice c.args.other.now.tracks) (given c.args.movie.now (kept_chosen c.args.choice c.args.other.now.tracks))) c.in-Some.scale
    (Some c.in-Some-limit_at.code) c.in-Some-limit_at.ensures)
