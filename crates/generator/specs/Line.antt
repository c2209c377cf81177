-- The line that tells what was made of generated files.
use Rattle.std.specs.Prelude.{ℕ, ◌-◌, List, [], ◌∷◌, ◌++◌, length, replicate, codes, decimal, false}
use Rattle.std.specs.Fmt.{digits}
use Rattle.std.specs.List.{concat}
use Rattle.generator.specs.declared.line.Counts.{Counts}

-- a number of 64 bits in sixteen lower-case hexadecimal digits
abbrev pub sixteen_digits : ℕ → List ℕ
sixteen_digits number = replicate (16 - length (digits 16 false number)) 48 ++ digits 16 false number

-- the pictures, the samples of the tracks of film and sound, the bytes of the file, and their sum
unfoldable pub generated : ℕ → Counts → ℕ → List ℕ
generated pictures counts sum = concat
    (codes "gen " ∷ decimal pictures ∷ codes " video " ∷ decimal counts.video ∷ codes " audio " ∷ decimal counts.audio
    ∷ codes " bytes " ∷ decimal counts.bytes ∷ codes " sum " ∷ sixteen_digits sum ∷ codes "\n" ∷ [])
