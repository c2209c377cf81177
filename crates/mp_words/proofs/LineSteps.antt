-- One option of a line.
use Rattle.std.proofs.Common.{◌≡◌, ℕ, ◌+◌, ◌-◌, ◌*◌, ◌<◌, List, [], ◌∷◌, drop, get_or, length, Option, Result, Ok, Err, refl, ap, ◌∙◌, arith}
use Rattle.std.proofs.lemmas.List.{drop_more, drop_all}
use Rattle.mp_ports.specs.Checks.{◌>>=◌}
use Rattle.mp_words.specs.declared.fault.WordFail.{WordFail}
use Rattle.mp_words.specs.declared.fault.WordFail.TheVariants.{Words, NoMemory}
use Rattle.mp_words.specs.declared.fault.WordKind.{WordKind}
use Rattle.mp_words.specs.declared.fault.WordKind.TheVariants.{Missing}
use Rattle.mp_words.specs.declared.options.LineOption.{LineOption}
use Rattle.mp_words.specs.Answers.{GivesLine, Takes}
use Rattle.mp_words.specs.Line.{LineRecord, WordFault, at_word, option_at, or_refused, with_option, options_from}
use Rattle.mp_words.specs.Options.{option_of}

numbered : {A : Type 0} (place at : ℕ) (kind : WordKind) → at + 2 ≡ 2 * place → at_word {A = A} (2 * place - 1) (Err kind) ≡ Err (at + 1, kind)
numbered place at kind count = ap (λ (n : ℕ). Err (n, kind)) (omega arith)

-- what is left begins with a word that is at fault
pub stops_at_word : (words : List (List ℕ)) (at place : ℕ) (text : List ℕ) (line : LineRecord) (kind : WordKind) → at < length words → get_or words at [] ≡ text → at + 2 ≡ 2 * place
    → option_at (option_of text) place line ≡ Err kind → options_from (drop at words) place line ≡ Err (at + 1, kind)
stops_at_word words at place text line kind inside is count fault =
    ap (λ (l : List (List ℕ)). options_from l place line) (drop_more words at [] inside) ∙ first (get_or words at []) (drop (at + 1) words) (rw is fault)
  where
    first : (option : List ℕ) (rest : List (List ℕ)) → option_at (option_of option) place line ≡ Err kind → options_from (option ∷ rest) place line ≡ Err (at + 1, kind)
    first option [] e = rw e (numbered place at kind count)
    first option (argument ∷ rest) e = rw e (numbered place at kind count)

-- what is left is one option without its argument
pub stops_at_end : (words : List (List ℕ)) (at place : ℕ) (text : List ℕ) (line : LineRecord) (option : LineOption) → at + 1 ≡ length words → get_or words at [] ≡ text → at + 2 ≡ 2 * place
    → option_at (option_of text) place line ≡ Ok option → options_from (drop at words) place line ≡ Err (at + 1, Missing)
stops_at_end words at place text line option last is count ok =
    ap (λ (l : List (List ℕ)). options_from l place line) (drop_more words at [] (omega arith) ∙ ap (λ (l : List (List ℕ)). get_or words at [] ∷ l) (drop_all (at + 1) words (omega arith)))
    ∙ rw (is, ok) (numbered place at Missing count)

-- an option and its argument
pub passes : (words : List (List ℕ)) (at place : ℕ) (text argument : List ℕ) (line : LineRecord) (option : LineOption) → at + 1 < length words → get_or words at [] ≡ text → get_or words (at + 1) [] ≡ argument
    → option_at (option_of text) place line ≡ Ok option
    → options_from (drop at words) place line ≡ (at_word (2 * place) (or_refused (with_option option argument place line)) >>= options_from (drop (at + 2) words) (place + 1))
passes words at place text argument line option inside is_text is_argument ok =
    ap (λ (l : List (List ℕ)). options_from l place line) (drop_more words at [] (omega arith) ∙ ap (λ (l : List (List ℕ)). get_or words at [] ∷ l) (drop_more words (at + 1) [] inside))
    ∙ rw (is_text, is_argument, ok) (ap (λ (l : List (List ℕ)). at_word (2 * place) (or_refused (with_option option argument place line)) >>= options_from l (place + 1)) (ap (λ (n : ℕ). drop n words) (omega arith)))

-- the line's answer, where the argument is refused, or there was no memory for it
pub stops_at_argument : (whole : Result LineRecord WordFault) (wanted : Option LineRecord) (old new : LineRecord) (place : ℕ) (next : LineRecord → Result LineRecord WordFault) (fail : WordFail)
    → whole ≡ at_word (2 * place) (or_refused wanted) >>= next → Takes (Err fail) old new place wanted → GivesLine (Err fail) whole
stops_at_argument whole wanted old new place next NoMemory e takes = tt
stops_at_argument whole wanted old new place next (Words word kind) e takes = rw (takes.1, takes.2, e, takes.0) refl
