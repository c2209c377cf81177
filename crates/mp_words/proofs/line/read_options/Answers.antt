use Rattle.std.proofs.Common.{rules, arith, ◌≡◌, ◌+◌, ◌*◌, ◌<◌, [], map, drop, string_bytes, get_or, length, sym, ap, ◌∙◌, Option, Some, Ok, Err}
use Rattle.std.proofs.lemmas.List.{get_or-map, length-map}
use Rattle.mp_ports.specs.Checks.{◌>>=◌}
use Rattle.mp_words.specs.Answers.{Takes}
use Rattle.mp_words.specs.Line.{LineRecord, at_word, or_refused, with_option, options_from, option_at}
use Rattle.mp_words.specs.Options.{option_of}
use Rattle.mp_words.proofs.LineSteps.{stops_at_word, stops_at_end, passes, stops_at_argument}
use Rattle.mp_words.proofs.line.read_options.Goals as goal
use Rattle.mp_words.proofs.line.read_options.Goals.{After-option_at, After-take}

-- the option's word, as it stands among the texts
first_word : (c : After-option_at) → get_or (map string_bytes c.args.words.now) c.loop-at.at [] ≡ c.deref.result.now
first_word c =
    let word : string_bytes c.index-words-at.result ≡ c.deref.result.now = search rules in
    get_or-map string_bytes c.args.words.now c.loop-at.at c.index-words-at.result [] c.loop-at-test.true ∙ (ap string_bytes (sym c.index-words-at.is) ∙ word)

pub returns-in-Err : goal.returns-in-Err
returns-in-Err c =
    let a = (goal.at.returns-in-Err c).After-option_at in
    let fault : option_at (option_of c.deref.result.now) c.loop-at.place c.loop-at.line ≡ Err c.in-Err.kind = search rules in
    rw c.fault.ensures
    (c.loop-at.invariant.rest ∙ stops_at_word (map string_bytes c.args.words.now) c.loop-at.at c.loop-at.place c.deref.result.now c.loop-at.line c.in-Err.kind
    (omega (arith, length-map c.args.words.now string_bytes, c.loop-at-test.true)) (first_word a) c.loop-at.invariant.word fault)

pub returns-then-at-words : goal.returns-then-at-words
returns-then-at-words c =
    let a = (goal.at.returns-then-at-words c).After-option_at in
    let ok : option_at (option_of c.deref.result.now) c.loop-at.place c.loop-at.line ≡ Ok c.in-Ok.option = search rules in
    rw c.fault-then-at-words.ensures
    (c.loop-at.invariant.rest ∙ stops_at_end (map string_bytes c.args.words.now) c.loop-at.at c.loop-at.place c.deref.result.now c.loop-at.line c.in-Ok.option
    (omega (arith, length-map c.args.words.now string_bytes, c.if-at-words.true)) (first_word a) c.loop-at.invariant.word ok)

-- what is left, by the option and its argument
passed : (c : After-take) → get_or (map string_bytes c.args.words.now) c.loop-at.at [] ≡ c.deref.result.now
    → options_from (drop c.loop-at.at (map string_bytes c.args.words.now)) c.loop-at.place c.loop-at.line
    ≡ (at_word (2 * c.loop-at.place) (or_refused (with_option c.in-Ok.option c.deref-in-loop-at.result.now c.loop-at.place c.loop-at.line)) >>= options_from (drop (c.loop-at.at + 2) (map string_bytes c.args.words.now)) (c.loop-at.place + 1))
passed c first =
    let argument : string_bytes c.index-words-at-in-loop-at.result ≡ c.deref-in-loop-at.result.now = search rules in
    let more : c.loop-at.at + 1 < length c.args.words.now = omega (arith, c.loop-at-test.true, c.if-at-words.false) in
    let ok : option_at (option_of c.deref.result.now) c.loop-at.place c.loop-at.line ≡ Ok c.in-Ok.option = search rules in
    passes (map string_bytes c.args.words.now) c.loop-at.at c.loop-at.place c.deref.result.now c.deref-in-loop-at.result.now c.loop-at.line c.in-Ok.option
    (omega (arith, length-map c.args.words.now string_bytes, more)) first
    (get_or-map string_bytes c.args.words.now (c.loop-at.at + 1) c.index-words-at-in-loop-at.result [] more ∙ (ap string_bytes (sym c.index-words-at-in-loop-at.is) ∙ argument))
    ok

pub returns-in-Err-take : goal.returns-in-Err-take
returns-in-Err-take c =
    let a = (goal.at.returns-in-Err-take c).After-option_at in
    let t = (goal.at.returns-in-Err-take c).After-take in
    let wanted : Option LineRecord = with_option c.in-Ok.option c.deref-in-loop-at.result.now c.loop-at.place c.loop-at.line in
    let takes : Takes (Err c.in-Err-take.fail) c.loop-at.line c.take.new.self c.loop-at.place wanted = search rules in
    stops_at_argument _ wanted c.loop-at.line c.take.new.self c.loop-at.place (options_from (drop (c.loop-at.at + 2) (map string_bytes c.args.words.now)) (c.loop-at.place + 1)) c.in-Err-take.fail (c.loop-at.invariant.rest ∙ passed t (first_word a)) takes

pub loop-at-preserved : goal.loop-at-preserved
loop-at-preserved c =
    let a = (goal.at.loop-at-preserved c).After-option_at in
    let t = (goal.at.loop-at-preserved c).After-take in
    let taken : with_option c.in-Ok.option c.deref-in-loop-at.result.now c.loop-at.place c.loop-at.line ≡ Some c.take.new.self = search rules in
    record {
      word = omega (arith, c.loop-at.invariant.word);
      rest = c.loop-at.invariant.rest ∙ (passed t (first_word a) ∙ ap (λ (o : Option LineRecord). at_word (2 * c.loop-at.place) (or_refused o) >>= options_from (drop (c.loop-at.at + 2) (map string_bytes c.args.words.now)) (c.loop-at.place + 1)) taken);
    }
