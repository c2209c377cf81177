-- What reading the units of a file answers.
use Rattle.std.specs.Prelude.{◌≡◌, ℕ, ◌<◌, List, length, Option, IfSome, Result, Ok, Err}
use Rattle.mp_ports.specs.Gives.{read_refusal}
use Rattle.mp_ports.specs.declared.fault.ReadFail.{ReadFail}
use Rattle.avc_import.specs.declared.units.Judged.{Judged}
use Rattle.avc_import.specs.Sets.{HaveSets}
use Rattle.avc_import.specs.Unit.{Known}
use Rattle.avc_import.specs.Stream.{known_in}
use Rattle.avc_import.specs.Pictures.{Stands}

-- what is kept of all units: these are known, and where the file is told they are its own
pub record IsJudged (file size : ℕ) (bytes : Option (List ℕ)) (judged : Judged) : Type 0 where
  pub known : Known
  pub sets : judged.sets ≡ known.sets
  pub stands : Stands file size known.units judged.pictures
  pub have : 0 < length judged.pictures.firsts.items → HaveSets judged.sets
  pub told : IfSome bytes (λ b. known_in b ≡ Ok known)

-- they are those of some file
pub record HasFile (judged : Judged) : Type 0 where
  pub file : ℕ
  pub size : ℕ
  pub told : Option (List ℕ)
  pub is : IsJudged file size told judged

-- all units are kept so, or the first fault is answered
abbrev pub Judges : ℕ → ℕ → Option (List ℕ) → Result Judged ReadFail → Type 0
Judges file size bytes (Ok judged) = IsJudged file size bytes judged
Judges file size bytes (Err fail) = IfSome bytes (λ b. IfSome (read_refusal fail) (λ bad. known_in b ≡ Err bad))
