use Rattle.std.proofs.Common.{◌≤◌, ◌+◌, ◌∙◌, ap, refl, sym, Some, None, Ok, Err, arith}
use Rattle.std.specs.List.{length_refill}
use Rattle.mp_ports.specs.Gives.{read_refusal}
use Rattle.avc_import.proofs.Judging.{all_judged, answer_is, cut_is_refused, goes_on, nothing_yet, refused_by, refused_in_order}
use Rattle.avc_import.proofs.units.read_units.Goals as goal

pub loop-span-init : goal.loop-span-init
loop-span-init g c = record {
  same = refl;
  file = c.new-reader.ensures.file;
  size = c.new-reader.ensures.size;
  reader = c.new-reader.ensures.reader _ c.size-size.ensures.size;
  window = omega (arith, c.in_ok-window.ensures);
  far = rw c.new-reader.ensures.front (nothing_yet _ _ _ _ _ c.new-sets.ensures c.new-pictures.ensures);
}

pub returns-in-Ok-None-clause-judged : goal.returns-in-Ok-None-clause-judged
returns-in-Ok-None-clause-judged g c =
    let i = c.loop-span.invariant in
    rw (sym c.size-size.ensures.size)
    (all_judged c.args.file c.size-size.result _ _ c.loop-span.reader.end i.far (answer_is _ _ _ (Ok None) (ap Ok c.in-Ok-None.field-0-is) (rw (i.same, i.file) at c.in-Ok-None.ensures.told)))

pub returns-in-Err-Bad-clause-judged : goal.returns-in-Err-Bad-clause-judged
returns-in-Err-Bad-clause-judged g c =
    let i = c.loop-span.invariant in
    rw c.in-Err-Bad.field-0-is (cut_is_refused c.args.file c.size-size.result _ _ _ c.loop-span.reader.end c.in-Err-Bad.bad i.far
    (answer_is _ _ _ _ (ap Err c.in-Err-Bad.field-0-is) (rw (i.same, i.file) at c.in-Err-Bad.ensures.told)))

pub returns-in-Err-clause-judged : goal.returns-in-Err-clause-judged
returns-in-Err-clause-judged g c =
    let i = c.loop-span.invariant in
    let next = c.in-Ok-Some.ensures in
    refused_by c.args.file c.size-size.result _ _ _ c.loop-span.reader.end c.in-Ok-Some.span (read_refusal c.in-Err.fail) i.far
    (answer_is _ _ _ (Ok (Some c.in-Ok-Some.span)) (ap Ok c.in-Ok-Some.field-0-is) (rw (i.same, i.file) at next.told)) (rw (next.reads, i.same) at c.in-Err.ensures.unit)

pub loop-span-preserved : goal.loop-span-preserved
loop-span-preserved g c =
    let i = c.loop-span.invariant in
    let next = c.in-Ok-Some.ensures in
    let behind = rw c.in-Ok-Some.field-0-is at next.behind in
    let end = rw c.in-Ok-Some.field-0-is at next.end in
    let inside : c.in-Ok-Some.span.from + c.in-Ok-Some.span.len ≤ c.size-size.result = omega (arith, behind.within, i.size) in
    let unit = rw (next.reads, i.same) at c.in-Ok.ensures.unit in
    let kept = length_refill c.loop-span.window.len c.loop-span.window.items c.next.new.window c.loop-span.window.ok.0 in
    record {
      same = c.in-Ok.ensures.folder ∙ next.reads ∙ i.same;
      file = next.file ∙ i.file;
      size = next.size ∙ i.size;
      reader = rw (next.reads, i.same, next.file, i.file) at next.reader;
      window = omega (arith, kept, c.loop-span.window.ok.0, i.window);
      far = rw end (goes_on c.args.file c.size-size.result _ _ _ _ _ c.loop-span.reader.end c.in-Ok.unit c.in-Ok-Some.span i.far c.size-size.ensures.told inside
          (answer_is _ _ _ (Ok (Some c.in-Ok-Some.span)) (ap Ok c.in-Ok-Some.field-0-is) (rw (i.same, i.file) at next.told)) unit
          (λ units stands. c.in-Ok-accept.ensures.stands c.size-size.result units inside stands)
          (c.in-Ok-accept.ensures.sets _ (λ some. c.in-Ok.ensures.kept (i.far.have some)) c.in-Ok.ensures.coded));
    }

pub returns-in-Err-Bad-accept-clause-judged : goal.returns-in-Err-Bad-accept-clause-judged
returns-in-Err-Bad-accept-clause-judged g c =
    let i = c.loop-span.invariant in
    let next = c.in-Ok-Some.ensures in
    let behind = rw c.in-Ok-Some.field-0-is at next.behind in
    let inside : c.in-Ok-Some.span.from + c.in-Ok-Some.span.len ≤ c.size-size.result = omega (arith, behind.within, i.size) in
    rw c.in-Err-Bad-accept.field-0-is (refused_in_order c.args.file c.size-size.result _ _ _ _ c.loop-span.reader.end c.in-Ok.unit c.in-Ok-Some.span c.in-Err-Bad-accept.bad i.far
    (answer_is _ _ _ (Ok (Some c.in-Ok-Some.span)) (ap Ok c.in-Ok-Some.field-0-is) (rw (i.same, i.file) at next.told)) (rw (next.reads, i.same) at c.in-Ok.ensures.unit)
    (λ units stands. rw c.in-Err-Bad-accept.field-0-is at (c.in-Err-Bad-accept.ensures.stands c.size-size.result units inside stands)))
