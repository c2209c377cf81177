use Rattle.std.proofs.Common.{◌≡◌, ◌++◌, ◌∷◌, [], length, None, Some, sym, ap, rules}
use Rattle.mp_ports.specs.Folder.{FolderState}
use Rattle.mp_ports.proofs.Opening.{opens_held}
use Rattle.mp_ports.proofs.mem_folder.MemFolderFolder.open.Goals as goal

pub returns-clause-opened : goal.returns-clause-opened
returns-clause-opened c =
    let pushed : c.push.new.self.items ≡ c.self.inside.opened.items ++ c.in-Some.at ∷ [] = search rules in
    let numbered : c.len-file.result ≡ length c.self.inside.opened.items = search rules in
    let rest : FolderState = record {
      held = None;
      opened = [];
      output = c.self.inside.output;
      written = Some c.self.inside.written.items;
      read_faults = c.self.inside.read_faults;
      write_faults = c.self.inside.write_faults;
      misses = c.self.inside.misses;
    } in
    let bytes = rw c.deref.ensures.value at c.in-Some.ensures.bytes in
    let named = rw c.deref.ensures.value at c.in-Some.ensures.named in
    rw (ap (λ s. s.folder) (sym c.self.view_is))
    (opens_held rest c.self.inside.files.items c.self.inside.opened.items c.push.new.self.items c.in-Some.at c.len-file.result c.args.name.now bytes named pushed numbered)
