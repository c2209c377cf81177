use Rattle.std.proofs.Common.{arith, subst, sym}
use Rattle.std.proofs.lemmas.List.{length-take-le}
use Rattle.mp_ports.specs.Folder.{ReadsFrom, opened_at}
use Rattle.mp_pieces.specs.Window.{WindowRecord, Covers}
use Rattle.mp_pieces.proofs.Parts.{part_of}
use Rattle.mp_pieces.proofs.window.Window.held.Goals as goal

pub returns-clause-bytes : goal.returns-clause-bytes
returns-clause-bytes c = λ s window.
    let w = c.self.inside in
    let file = opened_at s c.args.self.now.file in
    let part = subst (λ (r : WindowRecord). ReadsFrom file r.from r.held) (sym c.self.view_is) window.part in
    let covers = subst (λ (r : WindowRecord). Covers r c.args.at c.args.count) (sym c.self.view_is) c.requires in
    let room = c.self.invariant.0 in
    rw c.deref.ensures.value
    (part_of file.bytes w.buffer.items w.len w.from c.args.at _ covers.begins (omega (arith, covers.begins, covers.ends, length-take-le w.len w.buffer.items room)) room part)
