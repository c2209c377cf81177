-- The long files of the tests tell none of their bytes.
use Rattle.std.proofs.Common.{ℕ, List, [], map, None, IfSome, sym, subst}
use Rattle.std.specs.Prelude.{get_or}
use Rattle.std.proofs.Math.ListN.{get_or-map}
use Rattle.mp_ports.specs.Folder.{OpenedFile}

-- a file of so many bytes
abbrev pub long_file : ℕ → OpenedFile
long_file size = record { name = []; size = size; bytes = None }

pub untold : (sizes : List ℕ) (file : ℕ) (says : List ℕ → Type 0) → IfSome (get_or (map long_file sizes) file (long_file 0)).bytes says
untold sizes file says = subst (λ (found : OpenedFile). IfSome found.bytes says) (sym (get_or-map long_file sizes file 0)) tt
