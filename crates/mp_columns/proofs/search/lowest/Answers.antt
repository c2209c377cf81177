use Rattle.mp_columns.proofs.Searching.{lowest_begun, lowest_few, lowest_within}
use Rattle.mp_columns.proofs.search.lowest.Goals as goal

pub returns-clause-within : goal.returns-clause-within
returns-clause-within c = rw c.saturating_sub.ensures (lowest_within c.args.ends.now c.args.i c.items_in.result c.requires c.items_in.ensures)

pub returns-clause-few : goal.returns-clause-few
returns-clause-few c = rw c.saturating_sub.ensures (lowest_few c.args.ends.now c.args.i c.items_in.result c.requires c.items_in.ensures)

pub returns-clause-begun : goal.returns-clause-begun
returns-clause-begun c = rw c.saturating_sub.ensures (lowest_begun c.args.ends.now c.args.i c.items_in.result c.requires c.items_in.ensures)
