use Rattle.std.proofs.Common.{rules, ◌≡◌, ◌+◌, ℕ, ℤ, List, length, get_or, pos, subst, sym, w64, ◌∙◌}
use Rattle.std.proofs.lemmas.Int.{to_z-of_z}
use Rattle.cut_op.specs.Items.{AreLeft}
use Rattle.cut_op.proofs.ItemsInOrder.{next_item}
use Rattle.cut_op.proofs.kept.Items.next.Goals as goal

pub returns-clause-item : goal.returns-clause-item
returns-clause-item c = λ place lt left.
    let items = c.args.self.now.column.now in
    let filled = c.fill.ensures.left place lt left in
    let next = next_item items place c.fill.new.self.cursor c.fill.new.self.run c.take.new.self.run lt filled.0 filled.1 (c.take.ensures.run filled.0) in (
      to_z-of_z w64 c.take.result (search rules) ∙ (c.take.ensures.item filled.0 ∙ next.0),
      subst (λ (cursor : ℕ). AreLeft items (place + 1) cursor c.take.new.self.run) (sym c.take.ensures.cursor) next.1,
    )
