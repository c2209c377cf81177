-- What the argument of each option asks for; None where it isn't as the option wants it.
use Rattle.std.specs.Prelude.{ℕ, ◌+◌, ◌&&◌, nat_le, Bool, true, false, List, [], ◌∷◌, take, drop, codes, bytes_eq, Option, Some, None, option_map, if◌then◌else◌}
use Rattle.std.specs.Bool.{then_some}
use Rattle.std.specs.Str.{byte}
use Rattle.mp_words.specs.declared.name.FileKind.{FileKind}
use Rattle.track_ops.specs.declared.chosen.Choice.{Choice}
use Rattle.track_ops.specs.declared.chosen.Choice.TheVariants.{All, Number, Video, Audio}
use Rattle.mp_words.specs.declared.job.Rate.{Rate}
use Rattle.mp_words.specs.declared.options.LineOption.{LineOption}
use Rattle.mp_words.specs.declared.options.LineOption.TheVariants.{Add, Cat, Rem, Delay, SplitChunk, TrackScale, MovieScale, Lang, Enable, Disable}
use Rattle.mp_words.specs.Jobs.{Asked, Adds, Joins, Removes, Delays, Cuts, ScalesTrack, ScalesMovie, SetsLanguage, Enables}
use Rattle.mp_words.specs.Marks.{first_place, around, before_last, behind_last}
use Rattle.mp_words.specs.Names.{kind_of, is_mp4, is_avc}
use Rattle.mp_words.specs.Numbers.{positive_of, milliseconds_of, seconds_of}

-- what is made of two parts
abbrev pub both : {A B C : Type 0} → (A → B → C) → Option A → Option B → Option C
both make (Some first) (Some second) = Some (make first second)
both make _ _ = None

-- the tracks that a selector chooses
abbrev pub choice_of : List ℕ → Option Choice
choice_of text =
    if bytes_eq text (codes "video") then Some Video
    else (if bytes_eq text (codes "audio") then Some Audio else option_map Number (positive_of text))

-- all tracks without a selector, which only an MP4 file may have
abbrev pub selected : Option FileKind → Option (List ℕ) → Option Choice
selected kind None = Some All
selected kind (Some text) = if is_mp4 kind then choice_of text else None

abbrev pub rate : ℕ → ℕ → Rate
rate num den = record { num = num; den = den }

-- around the stroke, if there is one
abbrev pub rate_at : Option ℕ → List ℕ → Option Rate
rate_at None text = option_map (λ num. rate num 1) (positive_of text)
rate_at (Some stroke) text = both rate (positive_of (take stroke text)) (positive_of (drop (stroke + 1) text))

-- no rate, or that of a stream of H.264
abbrev pub rated : Option FileKind → Option (List ℕ) → Option (Option Rate)
rated kind None = Some None
rated kind (Some text) = if is_avc kind then option_map Some (rate_at (first_place (byte "/") text) text) else None

-- a file of that kind and name, its selector and its rate
abbrev pub added : Option FileKind → List ℕ → Option (List ℕ) → Option (List ℕ) → Option Asked
added None name selector rate = None
added (Some kind) name selector rate = both (Adds name) (selected (Some kind) selector) (rated (Some kind) rate)

-- the name and its selector
abbrev pub added_from : List ℕ → Option (List ℕ) → Option Asked
added_from text rate =
    let name = before_last (codes "#") text in
    added (kind_of name) name (behind_last (codes "#") text) rate

-- three letters `a` to `z`
abbrev pub is_letter : ℕ → Bool
is_letter c = nat_le 97 c && nat_le c 122

abbrev pub letters_of : List ℕ → Option (List ℕ)
letters_of (a ∷ b ∷ c ∷ []) = then_some (is_letter a && is_letter b && is_letter c) (a ∷ b ∷ c ∷ [])
letters_of _ = None

-- what the option asks for
abbrev pub asked_by : LineOption → List ℕ → Option Asked
asked_by Add argument = added_from (before_last (codes ":fps=") argument) (behind_last (codes ":fps=") argument)
asked_by Cat argument = then_some (is_mp4 (kind_of argument)) (Joins argument)
asked_by Rem argument = option_map Removes (positive_of argument)
asked_by Delay argument = around (byte "=") argument (λ track by. both Delays (positive_of track) (milliseconds_of by))
asked_by SplitChunk argument = around (byte ":") argument (λ from to. both Cuts (seconds_of from) (seconds_of to))
asked_by TrackScale argument = around (byte "=") argument (λ track scale. both ScalesTrack (positive_of track) (positive_of scale))
asked_by MovieScale argument = option_map ScalesMovie (positive_of argument)
asked_by Lang argument = around (byte "=") argument (λ track letters. both SetsLanguage (positive_of track) (letters_of letters))
asked_by Enable argument = option_map (λ track. Enables track true) (positive_of argument)
asked_by Disable argument = option_map (λ track. Enables track false) (positive_of argument)
asked_by _ argument = None
