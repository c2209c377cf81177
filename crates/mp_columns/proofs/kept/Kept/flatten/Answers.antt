use Rattle.std.proofs.Common.{rules, arith, ◌≡◌, ℕ, length, replicate, pos, sym, ap, ◌∙◌}
use Rattle.std.proofs.lemmas.List.{length-replicate}
use Rattle.mp_columns.specs.Kept.{all_items, start_at}
use Rattle.mp_columns.proofs.ChangesOfRuns.{flattened, length-items, no_items}
use Rattle.mp_columns.proofs.kept.Kept.flatten.Goals as goal

pub returns-then-len-eq0-clause-items : goal.returns-then-len-eq0-clause-items
returns-then-len-eq0-clause-items c =
    let ends = c.args.self.now.ends.items in
    let values = c.args.self.now.values.items in
    let len : c.items_in-len.result ≡ start_at ends (length ends) = search rules in
    no_items (all_items ends values) (pos 0) (length-items ends values c.requires.column.longest ∙ (sym len ∙ c.if-len-eq0.true))

pub sum_up-requires-clause-few : goal.sum_up-requires-clause-few
sum_up-requires-clause-few c =
    let ends = c.args.self.now.ends.items in
    let values = c.args.self.now.values.items in
    let len : c.items_in-len.result ≡ start_at ends (length ends) = search rules in
    let flat = flattened ends values c.items_in-len.result (pos 0) c.requires.column.longest (λ e. c.if-len-eq0.false (len ∙ e)) in
    rw (c.truncate.ensures.items, c.truncate-2.ensures.items, flat) (omega (arith, length-replicate c.items_in-len.result (pos 0), len, length-items ends values c.requires.column.longest, c.requires.column.few))

pub returns-clause-items : goal.returns-clause-items
returns-clause-items c =
    let ends = c.args.self.now.ends.items in
    let values = c.args.self.now.values.items in
    let len : c.items_in-len.result ≡ start_at ends (length ends) = search rules in
    let flat = flattened ends values c.items_in-len.result (pos 0) c.requires.column.longest (λ e. c.if-len-eq0.false (len ∙ e)) in
    c.sum_up.ensures.items ∙ rw (c.truncate.ensures.items, c.truncate-2.ensures.items, flat) (ap (λ (n : ℕ). replicate n (pos 0)) (len ∙ sym (length-items ends values c.requires.column.longest)))
