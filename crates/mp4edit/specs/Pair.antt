-- The files of an NHNT pair, opened.
use Rattle.std.specs.Prelude.{◌≡◌, ◌<◌, ℕ, List, codes, length, Option, Some, None, IfSome, IsSomeAnd}
use Rattle.mp_ports.specs.Folder.{FolderState, bytes_under, opened_at}
use Rattle.mp_words.specs.Names.{beside}
use Rattle.mp4edit.specs.declared.pair.Pair.{Pair}

-- the opened file of that number has the bytes that are held under the name, where the folder tells
pub record IsNamed (s : FolderState) (name : List ℕ) (file : ℕ) : Type 0 where
  pub opened : file < length s.opened
  pub told : IfSome s.held (λ files. IsSomeAnd (bytes_under name files) (λ bytes. (opened_at s file).bytes ≡ Some bytes))

-- so has the file of that number, or there is none of that name
abbrev pub IsNamedIfAny : FolderState → List ℕ → Option ℕ → Type 0
IsNamedIfAny s name None = IfSome s.held (λ files. bytes_under name files ≡ None)
IsNamedIfAny s name (Some file) = IsNamed s name file

-- the opened files are those of the pair whose table has that name
pub record IsPair (s : FolderState) (name : List ℕ) (pair : Pair) : Type 0 where
  pub table : IsNamed s name pair.table
  pub media : IsNamed s (beside name (codes ".media")) pair.media
  pub info : IsNamedIfAny s (beside name (codes ".info")) pair.info
