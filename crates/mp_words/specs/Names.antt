-- Names of files: what kind of file a name tells by its suffix.
use Rattle.std.specs.Prelude.{ℕ, ◌-◌, Bool, true, false, List, [], ◌∷◌, ◌++◌, length, take, drop, codes, Option, Some}
use Rattle.std.specs.Bool.{then_some}
use Rattle.std.specs.List.{list_any}
use Rattle.std.specs.Str.{str_eq_ignore_ascii_case}
use Rattle.mp_ports.specs.Checks.{first_some}
use Rattle.mp_words.specs.declared.name.FileKind.{FileKind}
use Rattle.mp_words.specs.declared.name.FileKind.TheVariants.{Mp4, Avc, Adts, Nhnt}

-- the name ends so, in either ASCII case
abbrev pub ends_with : List ℕ → List ℕ → Bool
ends_with name suffix = str_eq_ignore_ascii_case (drop (length name - length suffix) name) suffix

-- the name ends in one of these
abbrev pub ends_in : List ℕ → List (List ℕ) → Bool
ends_in name suffixes = list_any (ends_with name) suffixes

-- the kind of a file, by the suffix of its name
abbrev pub kind_of : List ℕ → Option FileKind
kind_of name =
    first_some
    (then_some (ends_in name (codes ".mp4" ∷ codes ".m4a" ∷ codes ".m4v" ∷ [])) Mp4
    ∷ then_some (ends_in name (codes ".h264" ∷ codes ".264" ∷ codes ".avc" ∷ [])) Avc
    ∷ then_some (ends_in name (codes ".aac" ∷ codes ".adts" ∷ [])) Adts
    ∷ then_some (ends_in name (codes ".nhnt" ∷ [])) Nhnt
    ∷ [])

abbrev pub is_mp4 : Option FileKind → Bool
is_mp4 (Some Mp4) = true
is_mp4 _ = false

abbrev pub is_avc : Option FileKind → Bool
is_avc (Some Avc) = true
is_avc _ = false

-- the name of the file beside an NHNT table: its last five bytes are replaced
abbrev pub beside : List ℕ → List ℕ → List ℕ
beside name suffix = take (length name - 5) name ++ suffix

-- the files that are read with one of that kind and name
abbrev pub files_with : Option FileKind → List ℕ → List (List ℕ)
files_with (Some Nhnt) name = name ∷ beside name (codes ".media") ∷ beside name (codes ".info") ∷ []
files_with _ name = name ∷ []
