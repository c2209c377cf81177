use Rattle.std.proofs.Common.{◌≡◌, get_or, ◌∙◌}
use Rattle.std.proofs.lemmas.List.{drop_all, drop_more}
use Rattle.mp_entries.proofs.description.push_entries.Goals as goal

pub loop-entry-preserved : goal.loop-entry-preserved
loop-entry-preserved c = λ rest all p.
    let left = rw (drop_more c.args.entries.now c.loop-entry.entry-index c.entry-item.result c.loop-entry-test.true) at (c.loop-entry.invariant rest all p) in
    let same : c.deref.result.now ≡ get_or c.args.entries.now c.loop-entry.entry-index c.entry-item.result = c.deref.ensures.value ∙ (c.entry.view_is ∙ c.entry-item.is) in
    c.push_bytes.ensures _ all (rw same left)

pub returns : goal.returns
returns c = λ rest all p. rw (drop_all c.loop-entry.entry-index c.args.entries.now c.loop-entry-test.false) at (c.loop-entry.invariant rest all p)
