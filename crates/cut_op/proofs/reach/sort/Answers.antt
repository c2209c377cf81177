use Rattle.std.proofs.Common.{rules}
use Rattle.std.proofs.lemmas.List.Sorted.{IsNonDecreasingBy-from_sort, answers_always}
use Rattle.mp_clip.specs.declared.touching.Span.{Span}
use Rattle.cut_op.proofs.reach.sort.Goals as goal

pub returns-clause-order : goal.returns-clause-order
returns-clause-order c = IsNonDecreasingBy-from_sort (λ (span : Span). span.from) _ (c.sort_unstable_by_key.ensures.sorted (λ (span : Span). span.from) (answers_always _ _ _ (λ f a r g h. search rules)))
