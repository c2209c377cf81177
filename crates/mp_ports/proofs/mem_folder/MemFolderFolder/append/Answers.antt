use Rattle.std.proofs.Common.{◌/◌, ◌++◌, ◌≡◌, take, length, is_ok, if◌then◌else◌, rules}
use Rattle.mp_ports.proofs.Parts.{stored_part}
use Rattle.mp_ports.proofs.mem_folder.MemFolderFolder.append.Goals as goal

pub returns-then-fails_next-clause-failed : goal.returns-then-fails_next-clause-failed
returns-then-fails_next-clause-failed c =
    let half = length c.args.piece.now / 2 in
    let stored : c.extend_from_slice.new.self.items ≡ c.self.inside.written.items ++ take (if is_ok c.extend_from_slice.result then half else 0) c.args.piece.now =
    stored_part (is_ok c.extend_from_slice.result) half _ _ c.args.piece.now c.extend_from_slice.ensures.items in
    record {
      part = if is_ok c.extend_from_slice.result then half else 0;
      state = search rules;
    }
