use Rattle.std.proofs.Common.{◌∙◌, Ok, Err, ap, refl, sym, arith}
use Rattle.mp_pieces.specs.Window.{WindowRecord}
use Rattle.mp_read.proofs.TopWalk.{all_passed, kept_in_file, none_passed, one_passed, refused}
use Rattle.mp_read.proofs.top.find_moov.Goals as goal

pub loop-at-init : goal.loop-at-init
loop-at-init g c =
    let blank = c.new-window.ensures.blank in
    record {
      inside = omega arith;
      same = refl;
      file = ap (λ (w : WindowRecord). w.file) blank;
      room = omega (arith, ap (λ (w : WindowRecord). w.room) blank, c.in_ok-buffer.ensures);
      size = ap (λ (w : WindowRecord). w.size) blank ∙ sym c.size-size.ensures.size;
      part = c.new-window.ensures.part;
      walked = none_passed _ _ _ _ c.none-fragment.ensures c.none-compressed.ensures c.none-moov.ensures;
      moov = rw c.none-moov.ensures tt;
    }

pub returns-in-Err-clause-found : goal.returns-in-Err-clause-found
returns-in-Err-clause-found g c =
    let i = c.loop-at.invariant in
    refused _ c.size-size.result c.loop-at.at c.in-Err.fail _ _ _ c.size-size.ensures.told c.loop-at-test.true (rw (i.same, i.file) at c.in-Err.ensures.head) i.walked

pub loop-at-preserved : goal.loop-at-preserved
loop-at-preserved g c =
    let i = c.loop-at.invariant in
    let window = c.in-Ok.ensures.window in
    let inside = c.in-Ok.ensures.inside in
    let some = inside.some in
    let header = inside.header in
    let head = rw (i.same, i.file) at c.in-Ok.ensures.head in
    record {
      inside = inside.ends;
      same = c.in-Ok.ensures.folder ∙ i.same;
      file = ap (λ (w : WindowRecord). w.file) window.same ∙ i.file;
      room = omega (arith, ap (λ (w : WindowRecord). w.room) window.same, i.room);
      size = ap (λ (w : WindowRecord). w.size) window.same ∙ i.size;
      part = window.part;
      walked = rw (c.with-fragment.ensures, c.with-compressed.ensures, c.with-moov.ensures)
          (one_passed _ c.size-size.result c.loop-at.at c.in-Ok.head _ _ _ c.size-size.ensures.told c.loop-at-test.true (omega arith) head i.walked);
      moov = rw c.with-moov.ensures (kept_in_file c.size-size.result c.loop-at.moov _ i.moov inside);
    }

pub returns-in-Ok-moov_of-clause-found : goal.returns-in-Ok-moov_of-clause-found
returns-in-Ok-moov_of-clause-found g c =
    all_passed _ c.size-size.result c.loop-at.at _ _ _ (Ok c.in-Ok-moov_of.found) c.size-size.ensures.told c.loop-at-test.false c.in-Ok-moov_of.ensures.found c.loop-at.invariant.walked

pub returns-clause-found : goal.returns-clause-found
returns-clause-found g c =
    all_passed _ c.size-size.result c.loop-at.at _ _ _ (Err c.in-Err-moov_of.bad) c.size-size.ensures.told c.loop-at-test.false c.in-Err-moov_of.ensures.found c.loop-at.invariant.walked
