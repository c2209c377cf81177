use Rattle.std.proofs.Common.{◌≡◌, ◌++◌, drop}
use Rattle.avc_order.specs.Count.{counts_of, nothing, rule_of}
use Rattle.avc_import.proofs.order.counts_by.Given as goal

-- the counts of what is left follow
abbrev pub invariant-loop-first : goal.invariant-loop-first
invariant-loop-first l = record {
  calls : l.counter.calls ≡ l.first-index;
  rest : l.counts.items ++ counts_of l.counter.rule l.counter.kept (drop l.first-index l.firsts) ≡ counts_of (rule_of l.sps) nothing l.firsts;
}
