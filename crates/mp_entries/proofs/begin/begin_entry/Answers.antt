use Rattle.std.proofs.Common.{ℕ, List, [], ◌∷◌, ◌++◌, subst, arith}
use Rattle.mp_boxes.specs.Field.{box_bytes}
use Rattle.mp_boxes.specs.Push.{IsPushing}
use Rattle.mp_boxes.specs.Table.{mixed}
use Rattle.mp_entries.proofs.begin.begin_entry.Goals as goal

pub returns : goal.returns
returns c = λ part len.
    let parts = part ∷ [] in
    let whole = mixed c.args.kind c.args.fields.now parts in
    let size = c.box_len-len.ensures.boxes c.args.kind parts (omega arith) (omega (arith, len)) in
    let begun = c.in_ok-reserve.ensures.one_box whole (omega (arith, size, c.box_len-len.ensures.len)) in
    let done = c.begin_box.ensures.boxes parts size [] _ begun in
    subst (λ (front : List ℕ). IsPushing c.begin_box.new.out (box_bytes part ∷ []) (front ++ box_bytes whole)) c.new-out.ensures.items done
