-- A job has at most one command for two words.
use Rattle.std.proofs.Common.{◌≡◌, ℕ, ◌+◌, ◌-◌, ◌*◌, ◌<◌, ◌≤◌, Bool, true, false, List, [], ◌∷◌, length, map, string_bytes, Option, Some, None, IfSome, Result, Ok, Err, IfOk, option_map, String, Global, refl, subst, arith, if◌then◌else◌}
use Rattle.std.proofs.lemmas.List.{length-append, length-map}
use Rattle.std.specs.Bool.{then_some}
use Rattle.mp_ports.specs.Checks.{◌>>=◌}
use Rattle.mp_words.specs.declared.fault.WordFail.{WordFail}
use Rattle.mp_words.specs.declared.fault.WordKind.{WordKind}
use Rattle.mp_words.specs.declared.fault.WordKind.TheVariants.{Missing, SameName}
use Rattle.mp_words.specs.declared.job.DumpKind.{DumpKind}
use Rattle.mp_words.specs.declared.job.DumpKind.TheVariants.{Info as OfInfo, Timeline as OfTimeline, Json as OfJson}
use Rattle.mp_words.specs.declared.job.Job.{Job}
use Rattle.mp_words.specs.declared.options.LineOption.{LineOption}
use Rattle.mp_words.specs.declared.options.LineOption.TheVariants.{Inter, Out, Info, Timeline, Json, Gen}
use Rattle.mp_words.specs.Answers.{GivesJob, job_record}
use Rattle.mp_words.specs.Arguments.{asked_by}
use Rattle.mp_words.specs.Jobs.{JobRecord, Generates, commands_of}
use Rattle.mp_words.specs.Line.{LineRecord, WordFault, at_word, option_at, or_refused, with_option, with_command, with_dump, options_from, nothing, edit_to, job_of, whole, job}
use Rattle.mp_words.specs.Names.{kind_of, is_mp4}
use Rattle.mp_words.specs.Numbers.{number_of, number_in}
use Rattle.mp_words.specs.Options.{option_of}

-- two words for each command, up to so many; and no commands in the job of an option that is the whole line
record HasFew (line : LineRecord) (most : ℕ) : Type 0 where
  pub commands : 2 * length line.commands ≤ most
  pub alone : IfSome line.alone (λ job. commands_of job ≡ [])

few_map : {A : Type 0} (make : A → LineRecord) (most : ℕ) (from : Option A) → ((a : A) → HasFew (make a) most) → IfSome (option_map make from) (λ line. HasFew line most)
few_map make most None each = tt
few_map make most (Some a) each = each a

few_if : (test : Bool) (line : LineRecord) (most : ℕ) → HasFew line most → IfSome (then_some test line) (λ line. HasFew line most)
few_if true line most few = few
few_if false line most few = tt

few_dump : (kind : DumpKind) (argument : List ℕ) (line : LineRecord) (most : ℕ) → HasFew line most → IfSome (with_dump kind argument line) (λ line. HasFew line (most + 2))
few_dump kind argument line most few = few_if (is_mp4 (kind_of argument)) _ (most + 2) (record { commands = omega (arith, few.commands); alone = refl })

few_option : (option : LineOption) (argument : List ℕ) (place : ℕ) (line : LineRecord) (most : ℕ) → HasFew line most → IfSome (with_option option argument place line) (λ line. HasFew line (most + 2))
few_option Inter argument place line most few =
    few_map (λ window. record line { window = window }) (most + 2) (number_of argument) (λ _. record { commands = omega (arith, few.commands); alone = few.alone })
few_option Out argument place line most few =
    few_if (is_mp4 (kind_of argument)) _ (most + 2) (record { commands = omega (arith, few.commands); alone = few.alone })
few_option Info argument place line most few = few_dump OfInfo argument line most few
few_option Timeline argument place line most few = few_dump OfTimeline argument line most few
few_option Json argument place line most few = few_dump OfJson argument line most few
few_option Gen argument place line most few =
    few_map (λ n. record line { alone = Some (Generates n) }) (most + 2) (number_in 50 1000000 argument) (λ _. record { commands = omega (arith, few.commands); alone = refl })
few_option option argument place line most few =
    few_map (with_command place line) (most + 2) (asked_by option argument)
    (λ what. record { commands = omega (arith, few.commands, length-append line.commands (record { place = place; what = what } ∷ [])); alone = few.alone })

few_taken : (word : ℕ) (taken : Option LineRecord) (next : LineRecord → Result LineRecord WordFault) (middle most : ℕ) → IfSome taken (λ line. HasFew line middle)
    → ((line : LineRecord) → HasFew line middle → IfOk (next line) (λ line. HasFew line most)) → IfOk (at_word word (or_refused taken) >>= next) (λ line. HasFew line most)
few_taken word None next middle most few each = tt
few_taken word (Some line) next middle most few each = each line few

few_read : (word after : ℕ) (option : Result LineOption WordKind) (taken : LineOption → Option LineRecord) (next : LineRecord → Result LineRecord WordFault) (middle most : ℕ)
    → ((option : LineOption) → IfSome (taken option) (λ line. HasFew line middle))
    → ((line : LineRecord) → HasFew line middle → IfOk (next line) (λ line. HasFew line most))
    → IfOk (at_word word option >>= (λ option. at_word after (or_refused (taken option))) >>= next) (λ line. HasFew line most)
few_read word after (Err kind) taken next middle most few each = tt
few_read word after (Ok option) taken next middle most few each = few_taken after (taken option) next middle most (few option) each

no_line : (word : ℕ) (option : Result LineOption WordKind) (most : ℕ) → IfOk (at_word {A = LineRecord} word (option >>= (λ _. Err Missing))) (λ line. HasFew line most)
no_line word (Err kind) most = tt
no_line word (Ok option) most = tt

few_from : (words : List (List ℕ)) (place most : ℕ) (line : LineRecord) → HasFew line most → IfOk (options_from words place line) (λ line. HasFew line (most + length words))
few_from [] place most line few = record { commands = omega (arith, few.commands); alone = few.alone }
few_from (word ∷ []) place most line few = no_line (2 * place - 1) (option_at (option_of word) place line) (most + 1)
few_from (word ∷ argument ∷ words) place most line few =
    let e : most + 2 + length words ≡ most + length (word ∷ argument ∷ words) = omega arith in
    subst (λ (n : ℕ). IfOk (options_from (word ∷ argument ∷ words) place line) (λ line. HasFew line n)) e
    (few_read (2 * place - 1) (2 * place) (option_at (option_of word) place line) (λ option. with_option option argument place line) (options_from words (place + 1)) (most + 2) (most + 2 + length words)
    (λ option. few_option option argument place line most few) (few_from words (place + 1) (most + 2)))

few_named : (same : Bool) (word : ℕ) (made : JobRecord) (most : ℕ) → 2 * length (commands_of made) ≤ most
    → IfOk {E = WordFault} (if same then Err (word, SameName) else Ok made) (λ job. 2 * length (commands_of job) ≤ most)
few_named true word made most few = tt
few_named false word made most few = few

few_edit : (out : Option (List ℕ)) (line : LineRecord) (most : ℕ) → 2 * length line.commands ≤ most → IfOk (edit_to out line) (λ job. 2 * length (commands_of job) ≤ most)
few_edit None line most few = tt
few_edit (Some out) line most few = few_named _ _ _ most few

few_job : (alone : Option JobRecord) (line : LineRecord) (most : ℕ) → 2 * length line.commands ≤ most → IfSome alone (λ job. commands_of job ≡ []) → IfOk (job_of alone line) (λ job. 2 * length (commands_of job) ≤ most)
few_job None line most few none = few_edit line.out line most few
few_job (Some made) line most few none = rw none (omega arith)

few_whole : (read : Result LineRecord WordFault) (most : ℕ) → IfOk read (λ line. HasFew line most) → IfOk (read >>= whole) (λ job. 2 * length (commands_of job) ≤ most)
few_whole (Err fault) most few = tt
few_whole (Ok line) most few = few_job line.alone line most few.commands few.alone

few_words : (words : List (List ℕ)) → IfOk (job words) (λ job. 2 * length (commands_of job) ≤ length words)
few_words [] = tt
few_words (word ∷ words) =
    let e : 0 + length (word ∷ words) ≡ length (word ∷ words) = omega arith in
    subst (λ (n : ℕ). IfOk (job (word ∷ words)) (λ job. 2 * length (commands_of job) ≤ n)) e
    (few_whole (options_from (word ∷ words) 1 nothing) (0 + length (word ∷ words)) (few_from (word ∷ words) 1 0 nothing (record { commands = omega arith; alone = tt })))

gives_job : (words : List (List ℕ)) (line : LineRecord) (result : Result Job WordFail) → 0 < length words → options_from words 1 nothing ≡ Ok line → GivesJob result (whole line) → GivesJob result (job words)
gives_job [] line result some read gives = absurd (omega arith)
gives_job (word ∷ words) line result some read gives = rw read gives

short : (words : List (List ℕ)) (result : Result Job WordFail) → GivesJob result (job words) → IfOk result (λ job. 2 * length (commands_of (job_record job)) ≤ length words)
short words (Err fail) gives = tt
short words (Ok made) gives = rw gives at (few_words words)

-- of an answer that gives the job of the line that was read from these words
pub jobs_are_short : (words : List (String Global)) (line : LineRecord) (result : Result Job WordFail) → 0 < length words → options_from (map string_bytes words) 1 nothing ≡ Ok line → GivesJob result (whole line)
    → IfOk result (λ job. 2 * length (commands_of (job_record job)) ≤ length words)
jobs_are_short words line result some read gives =
    subst (λ (n : ℕ). IfOk result (λ job. 2 * length (commands_of (job_record job)) ≤ n)) (length-map words string_bytes)
    (short (map string_bytes words) result (gives_job (map string_bytes words) line result (omega (arith, length-map words string_bytes, some)) read gives))
