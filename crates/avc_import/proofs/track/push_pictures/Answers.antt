use Rattle.std.proofs.Common.{◌∙◌, ◌<◌, ◌≤◌, ap, length, sym, arith}
use Rattle.avc_import.specs.Film.{schedule}
use Rattle.avc_import.proofs.Placing.{parts_done, parts_step}
use Rattle.avc_import.proofs.track.push_pictures.Goals as goal

pub loop-k-preserved : goal.loop-k-preserved
loop-k-preserved c =
    let pushed = c.in_ok-push_picture.ensures in
    record {
      number = pushed.number;
      entry = pushed.entry;
      columns = pushed.columns;
      rest = λ file size rate film are.
          let inside : c.loop-k.k < length film.parts = omega (arith, c.loop-k-test.true, c.len-k-end.ensures, ap length are.syncs, are.syncs_len, are.parts_len) in
          parts_step file film (schedule rate film) c.loop-k.k film.parts c.loop-k.track _ inside (pushed.track file size rate film are) ∙ c.loop-k.invariant.rest file size rate film are;
    }

pub returns-clause-track : goal.returns-clause-track
returns-clause-track c = λ file size rate film are.
    let past : length film.parts ≤ c.loop-k.k = omega (arith, c.loop-k-test.false, c.len-k-end.ensures, ap length are.syncs, are.syncs_len, are.parts_len) in
    sym (parts_done file film (schedule rate film) c.loop-k.k film.parts c.loop-k.track past) ∙ c.loop-k.invariant.rest file size rate film are
