use Rattle.std.proofs.Common.{◌≡◌, rules, subst, sym, w32}
use Rattle.std.specs.Prelude.{Result}
use Rattle.std.proofs.lemmas.Int.{to_z-of_z}
use Rattle.mp_movie.specs.StandsFor.{track_for}
use Rattle.mp_ports.specs.declared.code.Code.{Code}
use Rattle.mp_ports.specs.Checks.{placed}
use Rattle.mp_ports.specs.Gives.{Gives, refusal}
use Rattle.mp_timeline.specs.declared.segment.Segment.{Segment}
use Rattle.std.proofs.Common.{List}
use Rattle.track_ops.specs.Wide.{as_segments}
use Rattle.track_ops.proofs.DelayAsked.{asks_later, asks_sooner, sign_told, time_told}
use Rattle.track_ops.proofs.wide.delayed.Goals as goal

pub returns-then-is_negative : goal.returns-then-is_negative
returns-then-is_negative c = λ files.
    let value = to_z-of_z w32 c.args.ms (search rules) in
    let same : c.track.inside.scale ≡ c.args.track.now.scale = search rules in
    subst (λ (r : Result (List Segment) Code). Gives refusal (λ segments. as_segments segments.items) c.sooner.result (placed 0 r))
    (sym (asks_sooner c.args.ms c.args.movie_scale c.unit_time-time.result (track_for files c.args.track.now) (sign_told c.is_negative.result _ _ c.args.ms value c.is_negative.ensures c.if-is_negative.true)
    (time_told c.unit_time-time.result c.args.movie_scale c.track.inside.scale c.args.track.now.scale _ c.args.ms value same c.unit_time-time.ensures.time)))
    (c.sooner.ensures files)

pub returns-in-Ok : goal.returns-in-Ok
returns-in-Ok c = λ files.
    let value = to_z-of_z w32 c.args.ms (search rules) in
    let same : c.track.inside.scale ≡ c.args.track.now.scale = search rules in
    asks_later c.args.ms c.args.movie_scale c.unit_time-time.result (track_for files c.args.track.now) (as_segments c.in-Ok.segments.items) (sign_told c.is_negative.result _ _ c.args.ms value c.is_negative.ensures c.if-is_negative.false)
    (time_told c.unit_time-time.result c.args.movie_scale c.track.inside.scale c.args.track.now.scale _ c.args.ms value same c.unit_time-time.ensures.time) (c.in-Ok.ensures files)
