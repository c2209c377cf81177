-- A folder in memory that opens one more of its files.
use Rattle.std.proofs.Common.{◌≡◌, ℕ, List, [], ◌∷◌, ◌++◌, length, map, Some, refl}
use Rattle.std.proofs.lemmas.List.{map-append, length-map}
use Rattle.mp_ports.specs.Folder.{FolderState, HeldFile, Opens, bytes_under}
use Rattle.mp_ports.specs.Memory.{opened_file}

-- a folder that holds these files, of which those at these places were opened
abbrev opened_of : FolderState → List HeldFile → List ℕ → FolderState
opened_of s files places = record s { held = Some files; opened = map (opened_file files) places }

pub opens_held : (s : FolderState) (files : List HeldFile) (before after : List ℕ) (at file : ℕ) (name : List ℕ)
    → bytes_under name files ≡ (opened_file files at).bytes
    → (opened_file files at).name ≡ name
    → after ≡ before ++ at ∷ []
    → file ≡ length before
    → Opens (opened_of s files before) (opened_of s files after) name file
opens_held s files before after at file name bytes named same number = record {
  size = (opened_file files at).size;
  number = rw length-map number;
  found = rw bytes refl;
  sized = rw bytes refl;
  state = rw (same, map-append, bytes, ← named) refl;
}
