use Rattle.std.proofs.Common.{map, ap, sym, ◌∙◌, arith}
use Rattle.mp_edits.specs.Entry.{entry_fault, segment_of}
use Rattle.mp_edits.specs.Table.{entries_fault}
use Rattle.mp_edits.proofs.Reading.{entries_from-start, entry_is, fault_found, fault_passed, fault_none, segments_next, segments_end}
use Rattle.mp_edits.proofs.read.read_entries.Goals as goal

pub loop-i-init : goal.loop-i-init
loop-i-init c =
    let start = entries_from-start c.args.wide c.args.count c.args.bytes.now in
    record { segments = rw c.new-edits.ensures.items (ap (map segment_of) start); fault = ap entries_fault start }

pub returns-in-Some : goal.returns-in-Some
returns-in-Some c =
    let entry = entry_is c.args.wide c.args.bytes.now c.entry_of-entry.result _ c.loop-i.i c.entry_len-len.ensures c.entry_of-entry.ensures in
    let found = fault_found c.args.count c.loop-i.i c.args.wide c.args.bytes.now c.in-Some.code c.loop-i-test.true (ap entry_fault (sym entry) ∙ sym c.in-Some.ensures) in
    let fault = sym c.loop-i.invariant.fault ∙ found in
    rw (c.into.ensures, c.at.ensures, fault)

pub loop-i-preserved : goal.loop-i-preserved
loop-i-preserved c =
    let entry = entry_is c.args.wide c.args.bytes.now c.entry_of-entry.result _ c.loop-i.i c.entry_len-len.ensures c.entry_of-entry.ensures in
    let passed = fault_passed c.args.count c.loop-i.i c.args.wide c.args.bytes.now c.loop-i-test.true (ap entry_fault (sym entry) ∙ sym c.in_default.ensures) in
    record {
      segments = rw (c.in_ok-push.ensures.items, c.segment.ensures, entry) (segments_next c.loop-i.edits.items _ c.args.count c.loop-i.i c.args.wide c.args.bytes.now c.loop-i-test.true c.loop-i.invariant.segments);
      fault = sym passed ∙ c.loop-i.invariant.fault;
    }

pub returns : goal.returns
returns c =
    let fault = sym c.loop-i.invariant.fault ∙ fault_none c.args.count c.loop-i.i c.args.wide c.args.bytes.now (omega arith) in
    let segments = segments_end c.loop-i.edits.items _ c.args.count c.loop-i.i c.args.wide c.args.bytes.now (omega arith) c.loop-i.invariant.segments in
    rw (fault, ← segments)
