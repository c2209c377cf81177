use Rattle.std.proofs.Common.{◌∙◌, ap, sym, arith}
use Rattle.std.specs.Prelude.{Err}
use Rattle.mp_ports.specs.Gives.{refusal}
use Rattle.track_ops.proofs.PlannedScales.{refused_told, scale_told}
use Rattle.track_ops.proofs.adding.make_plan.Goals as goal

pub returns-in-Err-clause-scale : goal.returns-in-Err-clause-scale
returns-in-Err-clause-scale c =
    refused_told c.args.movie.now c.args.other.now c.args.choice c.tracks-2.result.now c.tracks-3.result.now c.tracks-4.result.now c.summary_of-added.result (refusal c.in-Err.fail) c.tracks-2.ensures.tracks c.tracks-3.ensures.tracks
    c.tracks-4.ensures.tracks c.summary_of-added.ensures (grind (arith, c.if-added-eq0.false)) c.in-Err.ensures

pub returns-in-Err-joined_scale-clause-scale : goal.returns-in-Err-joined_scale-clause-scale
returns-in-Err-joined_scale-clause-scale c =
    scale_told c.args.movie.now c.args.other.now c.args.choice c.tracks-2.result.now c.tracks-3.result.now c.tracks-4.result.now c.summary_of-added.result c.in-Ok.numbers.items (Err c.in-Err-joined_scale.code) c.tracks-2.ensures.tracks
    c.tracks-3.ensures.tracks c.tracks-4.ensures.tracks c.summary_of-added.ensures (grind (arith, c.if-added-eq0.false)) c.in-Ok.ensures c.in-Err-joined_scale.ensures.scale
    ∙ ap Err (sym c.at-in-Err-joined_scale.ensures)
