use Rattle.std.proofs.Common.{◌∙◌, arith}
use Rattle.std.proofs.lemmas.Result.{err_from_is_err_and}
use Rattle.mp_read.proofs.Walk.{all_walked, none_walked, one_failed, one_walked}
use Rattle.mp_read.specs.Part.{part_of}
use Rattle.mp_read.proofs.tracks.read_tracks.Goals as goal

pub loop-child-init : goal.loop-child-init
loop-child-init c = record {
  inside = omega arith;
  few = omega arith;
  walked = none_walked c.args.file_size _ _ (part_of c.args.moov.now c.args.whole) _ c.body_place-base.ensures.place c.body-body.ensures c.requires.boxes c.new-tracks.ensures.items;
}

pub returns-in_err-track : goal.returns-in_err-track
returns-in_err-track c =
    let w = c.loop-child.invariant.walked in
    let f = c.in-Some.ensures.next w.left w.cut in
    let part = c.headed-trak.ensures.child f.first (rw (c.body_place-base.ensures.place, c.body-body.ensures) at f.head) in
    let p = err_from_is_err_and c.from_residual.result c.from_residual.ensures.1 in
    rw (p.1, p.2)
    (one_failed c.args.file_size _ _ _ c.loop-child.at _ c.loop-child.samples _ c.in-Some.child _ w f part (c.in_err-track.ensures.track w.done (c.deref.ensures.value ∙ w.tracks_are) w.samples_are))

pub loop-child-preserved : goal.loop-child-preserved
loop-child-preserved c =
    let w = c.loop-child.invariant.walked in
    let f = c.in-Some.ensures.next w.left w.cut in
    let part = c.headed-trak.ensures.child f.first (rw (c.body_place-base.ensures.place, c.body-body.ensures) at f.head) in
    let tracks = c.deref.ensures.value ∙ w.tracks_are in
    let counted = c.from-samples.ensures ∙ c.sample_count.ensures in
    record {
      inside = c.in-Some.ensures.inside.ends;
      few = omega (arith, c.in_ok-track.ensures.few, counted);
      walked = rw c.in_ok-push.ensures.items
          (one_walked c.args.file_size _ _ _ c.loop-child.at _ c.loop-child.samples _ _ c.in-Some.child _ w f part (c.in_ok-track.ensures.track w.done tracks w.samples_are) (counted ∙ c.in_ok-track.ensures.count w.done tracks));
    }

pub returns : goal.returns
returns c =
    let w = c.loop-child.invariant.walked in
    all_walked c.args.file_size _ _ _ c.loop-child.at _ c.loop-child.samples w (c.in_default.ensures.next w.left w.cut)
