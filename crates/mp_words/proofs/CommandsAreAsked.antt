-- Each command of a job is of an option and its argument on the line.
use Rattle.std.proofs.Common.{◌≡◌, ℕ, ◌+◌, ◌-◌, ◌*◌, ◌≤◌, Bool, true, false, nat_le, ◌&&◌, List, [], ◌∷◌, All, length, take, drop, map, codes, string_bytes, ◌^◌, Option, Some, None, IfSome, Result, Ok, Err, IfOk, option_map, String, Global, refl, subst, arith, if◌then◌else◌}
use Rattle.std.proofs.lemmas.Bool.Decides.{nat_tests}
use Rattle.std.proofs.lemmas.List.{length-map}
use Rattle.std.proofs.lemmas.List.Elements.{All-from_recursion, All-nil, All-push}
use Rattle.std.specs.Bool.{then_some}
use Rattle.std.specs.Option.{option_and_then}
use Rattle.std.specs.Str.{byte}
use Rattle.std.specs.Str.Parse.{digits_value}
use Rattle.mp_ports.specs.Checks.{◌>>=◌}
use Rattle.mp_words.specs.declared.fault.WordFail.{WordFail}
use Rattle.mp_words.specs.declared.fault.WordKind.{WordKind}
use Rattle.mp_words.specs.declared.fault.WordKind.TheVariants.{Missing, SameName}
use Rattle.mp_words.specs.declared.job.DumpKind.{DumpKind}
use Rattle.mp_words.specs.declared.job.DumpKind.TheVariants.{Info as OfInfo, Timeline as OfTimeline, Json as OfJson}
use Rattle.mp_words.specs.declared.job.Job.{Job}
use Rattle.mp_words.specs.declared.name.FileKind.{FileKind}
use Rattle.mp_words.specs.declared.options.LineOption.{LineOption}
use Rattle.mp_words.specs.declared.options.LineOption.TheVariants.{Add, Cat, Rem, Delay, SplitChunk, TrackScale, MovieScale, Lang, Enable, Disable, Inter, Out, Info, Timeline, Json, Gen}
use Rattle.mp_words.specs.Answers.{GivesJob, job_record}
use Rattle.mp_words.specs.Arguments.{added, asked_by, both, is_letter, letters_of, rate, rate_at, rated, selected}
use Rattle.mp_words.specs.Jobs.{Adds, Asked, Delays, Enables, IsAsked, IsCommand, IsRate, JobRecord, Generates, Joins, Removes, ScalesMovie, ScalesTrack, SetsLanguage, commands_of}
use Rattle.mp_words.specs.Line.{LineRecord, WordFault, at_word, option_at, or_refused, with_option, with_command, with_dump, options_from, nothing, edit_to, job_of, whole}
use Rattle.mp_words.specs.Marks.{around, before_last, behind_last, first_place}
use Rattle.mp_words.specs.Names.{kind_of, is_avc, is_mp4}
use Rattle.mp_words.specs.Numbers.{are_digits, milliseconds_of, number_of, number_in, positive_of}
use Rattle.mp_words.specs.Options.{option_of}
use Rattle.mp_words.proofs.TimesAreRanges.{each_range}

-- what is so of a value that is made, where one is
each_map : {A B : Type 0} (P : B → Type 0) (make : A → B) (from : Option A) → IfSome from (λ a. P (make a)) → IfSome (option_map make from) P
each_map P make None each = tt
each_map P make (Some a) each = each

each_both : {A B C : Type 0} (P : C → Type 0) (make : A → B → C) (first : Option A) (second : Option B) → ((a : A) → IfSome second (λ b. P (make a b))) → IfSome (both make first second) P
each_both P make None None each = tt
each_both P make None (Some b) each = tt
each_both P make (Some a) None each = tt
each_both P make (Some a) (Some b) each = each a

each_around : {A : Type 0} (P : A → Type 0) (mark : ℕ) (text : List ℕ) (read : List ℕ → List ℕ → Option A) → ((before behind : List ℕ) → IfSome (read before behind) P) → IfSome (around mark text read) P
each_around P mark text read each = by (first_place mark text)
  where
    by : (found : Option ℕ) → IfSome (option_and_then (λ at. read (take at text) (drop (at + 1) text)) found) P
    by None = tt
    by (Some at) = each (take at text) (drop (at + 1) text)

any : {A : Type 0} (found : Option A) → IfSome found (λ _. Unit)
any None = tt
any (Some a) = tt

-- a number that isn't 0
positive : (text : List ℕ) → IfSome (positive_of text) (λ n. 1 ≤ n)
positive text = by (are_digits 10 text) (nat_le 1 (digits_value 10 text)) (nat_le (digits_value 10 text) (2 ^ 32 - 1)) (λ e. grind (arith, nat_tests, e))
  where
    by : (digits low high : Bool) → (low ≡ true → 1 ≤ digits_value 10 text) → IfSome (then_some (digits && low && high) (digits_value 10 text)) (λ n. 1 ≤ n)
    by true true true h = h refl
    by true true false h = tt
    by true false high h = tt
    by false low high h = tt

each_rate : (stroke : Option ℕ) (text : List ℕ) → IfSome (rate_at stroke text) (λ r. IsRate (Some r))
each_rate None text = each_map _ (λ num. rate num 1) (positive_of text) (one (positive_of text) (positive text))
  where
    one : (found : Option ℕ) → IfSome found (λ n. 1 ≤ n) → IfSome found (λ n. IsRate (Some (rate n 1)))
    one None some = tt
    one (Some n) some = (some, omega arith)
each_rate (Some stroke) text = pair (positive_of (take stroke text)) (positive_of (drop (stroke + 1) text)) (positive (take stroke text)) (positive (drop (stroke + 1) text))
  where
    pair : (num den : Option ℕ) → IfSome num (λ n. 1 ≤ n) → IfSome den (λ n. 1 ≤ n) → IfSome (both rate num den) (λ r. IsRate (Some r))
    pair None None a b = tt
    pair None (Some den) a b = tt
    pair (Some num) None a b = tt
    pair (Some num) (Some den) a b = (a, b)

each_rated : (kind : Option FileKind) (text : Option (List ℕ)) → IfSome (rated kind text) IsRate
each_rated kind None = tt
each_rated kind (Some text) = by (is_avc kind)
  where
    by : (avc : Bool) → IfSome (if avc then option_map Some (rate_at (first_place (byte "/") text) text) else None) IsRate
    by true = each_map IsRate Some (rate_at (first_place (byte "/") text) text) (each_rate (first_place (byte "/") text) text)
    by false = tt

each_added : (kind : Option FileKind) (name : List ℕ) (selector text : Option (List ℕ)) → IfSome (added kind name selector text) IsAsked
each_added None name selector text = tt
each_added (Some kind) name selector text = each_both IsAsked (Adds name) (selected (Some kind) selector) (rated (Some kind) text) (λ choice. each_rated (Some kind) text)

letter_bounds : (c : ℕ) → is_letter c ≡ true → (97 ≤ c) × (c ≤ 122)
letter_bounds c e = (grind (arith, nat_tests, e), grind (arith, nat_tests, e))

each_letter : (text : List ℕ) → IfSome (letters_of text) (λ letters. All (λ letter. (97 ≤ letter) × (letter ≤ 122)) letters)
each_letter [] = tt
each_letter (a ∷ []) = tt
each_letter (a ∷ b ∷ []) = tt
each_letter (a ∷ b ∷ c ∷ []) = by (is_letter a) (is_letter b) (is_letter c) (letter_bounds a) (letter_bounds b) (letter_bounds c)
  where
    by : (x y z : Bool) → (x ≡ true → (97 ≤ a) × (a ≤ 122)) → (y ≡ true → (97 ≤ b) × (b ≤ 122)) → (z ≡ true → (97 ≤ c) × (c ≤ 122))
        → IfSome (then_some (x && y && z) (a ∷ b ∷ c ∷ [])) (λ letters. All (λ letter. (97 ≤ letter) × (letter ≤ 122)) letters)
    by true true true f g h = All-from_recursion (λ letter. (97 ≤ letter) × (letter ≤ 122)) (a ∷ b ∷ c ∷ []) (f refl, (g refl, (h refl, tt)))
    by true true false f g h = tt
    by true false z f g h = tt
    by false y z f g h = tt
each_letter (a ∷ b ∷ c ∷ d ∷ text) = tt

-- what is asked by an option and its argument
each_asked : (option : LineOption) (argument : List ℕ) → IfSome (asked_by option argument) IsAsked
each_asked Add argument =
    let text = before_last (codes ":fps=") argument in
    each_added (kind_of (before_last (codes "#") text)) (before_last (codes "#") text) (behind_last (codes "#") text) (behind_last (codes ":fps=") argument)
each_asked Cat argument = by (is_mp4 (kind_of argument))
  where
    by : (mp4 : Bool) → IfSome (then_some mp4 (Joins argument)) IsAsked
    by true = tt
    by false = tt
each_asked Rem argument = each_map IsAsked Removes (positive_of argument) (any (positive_of argument))
each_asked Delay argument = each_around IsAsked (byte "=") argument _ (λ track by. each_both IsAsked Delays (positive_of track) (milliseconds_of by) (λ n. any (milliseconds_of by)))
each_asked SplitChunk argument = each_around IsAsked (byte ":") argument _ each_range
each_asked TrackScale argument = each_around IsAsked (byte "=") argument _ (λ track scale. each_both IsAsked ScalesTrack (positive_of track) (positive_of scale) (λ n. positive scale))
each_asked MovieScale argument = each_map IsAsked ScalesMovie (positive_of argument) (positive argument)
each_asked Lang argument = each_around IsAsked (byte "=") argument _ (λ track letters. each_both IsAsked SetsLanguage (positive_of track) (letters_of letters) (λ n. each_letter letters))
each_asked Enable argument = each_map IsAsked (λ track. Enables track true) (positive_of argument) (any (positive_of argument))
each_asked Disable argument = each_map IsAsked (λ track. Enables track false) (positive_of argument) (any (positive_of argument))
each_asked _ argument = tt

-- each command is of two of so many words, and there are none in the job of an option that is the whole line
record HasEach (words : ℕ) (line : LineRecord) : Type 0 where
  pub commands : All (IsCommand words) line.commands
  pub alone : IfSome line.alone (λ job. commands_of job ≡ [])

each_if : (words : ℕ) (test : Bool) (line : LineRecord) → HasEach words line → IfSome (then_some test line) (HasEach words)
each_if words true line each = each
each_if words false line each = tt

each_dump : (words : ℕ) (kind : DumpKind) (argument : List ℕ) (line : LineRecord) → HasEach words line → IfSome (with_dump kind argument line) (HasEach words)
each_dump words kind argument line each = each_if words (is_mp4 (kind_of argument)) _ (record { commands = each.commands; alone = refl })

each_made : {A : Type 0} (words : ℕ) (make : A → LineRecord) (from : Option A) → ((a : A) → HasEach words (make a)) → IfSome (option_map make from) (HasEach words)
each_made words make None each = tt
each_made words make (Some a) each = each a

each_command : (words place : ℕ) (line : LineRecord) (asked : Option Asked) → 1 ≤ place → 2 * place ≤ words → HasEach words line → IfSome asked IsAsked → IfSome (option_map (with_command place line) asked) (HasEach words)
each_command words place line None some few each asked = tt
each_command words place line (Some what) some few each asked = record {
  commands = All-push (IsCommand words) line.commands (record { place = place; what = what }) each.commands (record { number = some; argument = few; asked = asked });
  alone = each.alone;
}

each_option : (words : ℕ) (option : LineOption) (argument : List ℕ) (place : ℕ) (line : LineRecord) → 1 ≤ place → 2 * place ≤ words → HasEach words line → IfSome (with_option option argument place line) (HasEach words)
each_option words Inter argument place line some few each = each_made words (λ window. record line { window = window }) (number_of argument) (λ _. record { commands = each.commands; alone = each.alone })
each_option words Out argument place line some few each = each_if words (is_mp4 (kind_of argument)) _ (record { commands = each.commands; alone = each.alone })
each_option words Info argument place line some few each = each_dump words OfInfo argument line each
each_option words Timeline argument place line some few each = each_dump words OfTimeline argument line each
each_option words Json argument place line some few each = each_dump words OfJson argument line each
each_option words Gen argument place line some few each = each_made words (λ n. record line { alone = Some (Generates n) }) (number_in 50 1000000 argument) (λ _. record { commands = each.commands; alone = refl })
each_option words option argument place line some few each = each_command words place line (asked_by option argument) some few each (each_asked option argument)

each_taken : (words word : ℕ) (taken : Option LineRecord) (next : LineRecord → Result LineRecord WordFault) → IfSome taken (HasEach words)
    → ((line : LineRecord) → HasEach words line → IfOk (next line) (HasEach words)) → IfOk (at_word word (or_refused taken) >>= next) (HasEach words)
each_taken words word None next each more = tt
each_taken words word (Some line) next each more = more line each

each_read : (words word after : ℕ) (option : Result LineOption WordKind) (taken : LineOption → Option LineRecord) (next : LineRecord → Result LineRecord WordFault)
    → ((option : LineOption) → IfSome (taken option) (HasEach words)) → ((line : LineRecord) → HasEach words line → IfOk (next line) (HasEach words))
    → IfOk (at_word word option >>= (λ option. at_word after (or_refused (taken option))) >>= next) (HasEach words)
each_read words word after (Err kind) taken next each more = tt
each_read words word after (Ok option) taken next each more = each_taken words after (taken option) next (each option) more

no_line : (words word : ℕ) (option : Result LineOption WordKind) → IfOk (at_word {A = LineRecord} word (option >>= (λ _. Err Missing))) (HasEach words)
no_line words word (Err kind) = tt
no_line words word (Ok option) = tt

each_from : (most : ℕ) (words : List (List ℕ)) (place : ℕ) (line : LineRecord) → 1 ≤ place → 2 * place + length words ≤ most + 2 → HasEach most line → IfOk (options_from words place line) (HasEach most)
each_from most [] place line some few each = each
each_from most (word ∷ []) place line some few each = no_line most (2 * place - 1) (option_at (option_of word) place line)
each_from most (word ∷ argument ∷ words) place line some few each =
    each_read most (2 * place - 1) (2 * place) (option_at (option_of word) place line) (λ option. with_option option argument place line) (options_from words (place + 1))
    (λ option. each_option most option argument place line some (omega (arith, few)) each) (λ line each. each_from most words (place + 1) line (omega arith) (omega (arith, few)) each)

each_named : (words : ℕ) (same : Bool) (word : ℕ) (made : JobRecord) → All (IsCommand words) (commands_of made)
    → IfOk {E = WordFault} (if same then Err (word, SameName) else Ok made) (λ job. All (IsCommand words) (commands_of job))
each_named words true word made each = tt
each_named words false word made each = each

each_edit : (words : ℕ) (out : Option (List ℕ)) (line : LineRecord) → All (IsCommand words) line.commands → IfOk (edit_to out line) (λ job. All (IsCommand words) (commands_of job))
each_edit words None line each = tt
each_edit words (Some out) line each = each_named words _ _ _ each

each_job : (words : ℕ) (alone : Option JobRecord) (line : LineRecord) → All (IsCommand words) line.commands → IfSome alone (λ job. commands_of job ≡ []) → IfOk (job_of alone line) (λ job. All (IsCommand words) (commands_of job))
each_job words None line each none = each_edit words line.out line each
each_job words (Some made) line each none = rw none (All-nil (IsCommand words))

each_whole : (words : ℕ) (line : LineRecord) (result : Result Job WordFail) → HasEach words line → GivesJob result (whole line) → IfOk result (λ job. All (IsCommand words) (commands_of (job_record job)))
each_whole words line (Err fail) each gives = tt
each_whole words line (Ok made) each gives =
    subst (λ (r : Result JobRecord WordFault). IfOk r (λ job. All (IsCommand words) (commands_of job))) gives (each_job words line.alone line each.commands each.alone)

-- of an answer that gives the job of the line that was read from these words
pub commands_are_asked : (words : List (String Global)) (line : LineRecord) (result : Result Job WordFail) → options_from (map string_bytes words) 1 nothing ≡ Ok line → GivesJob result (whole line)
    → IfOk result (λ job. All (IsCommand (length words)) (commands_of (job_record job)))
commands_are_asked words line result read gives =
    each_whole (length words) line result
    (subst (λ (r : Result LineRecord WordFault). IfOk r (HasEach (length words))) read
    (each_from (length words) (map string_bytes words) 1 nothing (omega arith) (omega (arith, length-map words string_bytes)) (record { commands = All-nil (IsCommand (length words)); alone = tt })))
    gives
