-- Spans that start early enough reach as far as the last of them says.
use Rattle.std.proofs.Common.{◌≡◌, ℕ, zero, suc, ◌+◌, ◌-◌, ◌<◌, ◌≤◌, max, Bool, true, false, ltb, ◌||◌, ◌&&◌, List, [], ◌∷◌, length, ◌++◌, take, drop, get_or, set, refl, sym, ap, ◌∙◌, append_assoc, arith}
use Rattle.std.specs.List.{list_any}
use Rattle.std.proofs.lemmas.Bool.{le-ltb}
use Rattle.std.proofs.lemmas.List.{take_more_set, drop_more, drop-set-lt, length-set, take_all, drop_all, append-nil}
use Rattle.mp_clip.specs.declared.touching.Span.{Span}
use Rattle.mp_clip.specs.Touched.{touches}
use Rattle.cut_op.specs.Reach.{reaching}

-- the latest end
abbrev pub latest_of : List Span → ℕ
latest_of [] = 0
latest_of (span ∷ spans) = max span.to (latest_of spans)

below_max : (a x y : ℕ) → ltb a (max x y) ≡ (ltb a x || ltb a y)
below_max a x y = grind arith

none_start : (start end : ℕ) (spans : List Span) → ((k : ℕ) (d : Span) → k < length spans → ltb (get_or spans k d).from end ≡ false) → list_any (touches start end) spans ≡ false
none_start start end [] h = refl
none_start start end (span ∷ spans) h = rw (h 0 span (omega arith), none_start start end spans (λ k d lt. h (suc k) d (omega arith))) refl

-- the first so many start before the end, and the others don't
pub by_front : (start end : ℕ) (spans : List Span) (i : ℕ)
    → ((k : ℕ) (d : Span) → k < i → ltb (get_or spans k d).from end ≡ true)
    → ((k : ℕ) (d : Span) → i ≤ k → k < length spans → ltb (get_or spans k d).from end ≡ false)
    → list_any (touches start end) spans ≡ ltb start (latest_of (take i spans))
by_front start end [] zero p q = sym (le-ltb start 0 (omega arith))
by_front start end [] (suc i) p q = sym (le-ltb start 0 (omega arith))
by_front start end (span ∷ spans) zero p q = none_start start end (span ∷ spans) (λ k d lt. q k d (omega arith) lt) ∙ sym (le-ltb start 0 (omega arith))
by_front start end (span ∷ spans) (suc i) p q =
    rw (p 0 span (omega arith), by_front start end spans i (λ k d lt. p (suc k) d (omega arith)) (λ k d le lt. q (suc k) d (omega arith) (omega arith)))
    (sym (below_max start span.to (latest_of (take i spans))))

-- ---- spans that reach

pub from-reaching : (latest : ℕ) (spans : List Span) (k : ℕ) (d : Span) → (get_or (reaching latest spans) k d).from ≡ (get_or spans k d).from
from-reaching latest [] k d = refl
from-reaching latest (span ∷ spans) zero d = refl
from-reaching latest (span ∷ spans) (suc k) d = from-reaching (max span.to latest) spans k d

pub length-reaching : (latest : ℕ) (spans : List Span) → length (reaching latest spans) ≡ length spans
length-reaching latest [] = refl
length-reaching latest (span ∷ spans) = ap (λ (n : ℕ). suc n) (length-reaching (max span.to latest) spans)

pub to-reaching : (latest : ℕ) (spans : List Span) (k : ℕ) (d : Span) → k < length spans → (get_or (reaching latest spans) k d).to ≡ max latest (latest_of (take (suc k) spans))
to-reaching latest [] k d lt = absurd (omega arith)
to-reaching latest (span ∷ spans) zero d lt = omega arith
to-reaching latest (span ∷ spans) (suc k) d lt =
    let rest = to-reaching (max span.to latest) spans k d (omega arith) in
    omega (arith, rest)

-- ---- one span after another

-- the spans before a place reach so, and the others are as they were
pub record IsReachedSoFar (now old : List Span) (i latest : ℕ) : Type 0 where
  pub whole : take i now ++ reaching latest (drop i old) ≡ reaching 0 old
  pub rest : drop i now ≡ drop i old
  pub long : length now ≡ length old

pub nothing_reached : (old : List Span) → IsReachedSoFar old old 0 0
nothing_reached old = record { whole = refl; rest = refl; long = refl }

pub one_reached : (now old : List Span) (i latest latest' : ℕ) (d made : Span) → i < length old → IsReachedSoFar now old i latest → latest' ≡ max (get_or now i d).to latest → made ≡ record (get_or now i d) { to = latest' }
    → IsReachedSoFar (set now i made) old (i + 1) latest'
one_reached now old i latest latest' d made lt so latest_is made_is =
    let lt' : i < length now = omega (arith, lt, so.long) in
    let heads : get_or now i d ∷ drop (i + 1) now ≡ get_or old i d ∷ drop (i + 1) old = sym (drop_more now i d lt') ∙ (so.rest ∙ drop_more old i d lt) in
    let tails : drop (i + 1) now ≡ drop (i + 1) old = cc in
    let same : get_or now i d ≡ get_or old i d = cc in
    let here : latest' ≡ max (get_or old i d).to latest = latest_is ∙ ap (λ (span : Span). max span.to latest) same in
    let one : made ≡ record (get_or old i d) { to = max (get_or old i d).to latest } = made_is ∙ (ap (λ (x : ℕ). record (get_or now i d) { to = x }) here ∙ ap (λ (span : Span). record span { to = max (get_or old i d).to latest }) same) in
    record {
      whole =
          ap (λ (xs : List Span). xs ++ reaching latest' (drop (i + 1) old)) (take_more_set now i made lt')
          ∙ (append_assoc (take i now) (made ∷ []) (reaching latest' (drop (i + 1) old))
          ∙ (ap (λ (span : Span). take i now ++ (span ∷ reaching latest' (drop (i + 1) old))) one
          ∙ (ap (λ (x : ℕ). take i now ++ (record (get_or old i d) { to = max (get_or old i d).to latest } ∷ reaching x (drop (i + 1) old))) here
          ∙ (sym (ap (λ (xs : List Span). take i now ++ reaching latest xs) (drop_more old i d lt)) ∙ so.whole))));
      rest = drop-set-lt (i + 1) now i made (omega arith) ∙ tails;
      long = length-set now i made ∙ so.long;
    }

pub all_reached : (now old : List Span) (i latest : ℕ) → length old ≤ i → IsReachedSoFar now old i latest → now ≡ reaching 0 old
all_reached now old i latest past so =
    sym (take_all i now (omega (arith, past, so.long)))
    ∙ (sym (append-nil (take i now)) ∙ (ap (λ (xs : List Span). take i now ++ reaching latest xs) (sym (drop_all i old past)) ∙ so.whole))

pub last_reaches : (spans sorted : List Span) (n : ℕ) → spans ≡ reaching 0 sorted → 0 < n → n ≤ length spans → (get_or spans (n - 1) (record { from = 0; to = 0 })).to ≡ latest_of (take n sorted)
last_reaches spans sorted zero is some le = absurd (omega arith)
last_reaches spans sorted (suc n) is some le =
    let back : suc n - 1 ≡ n = omega arith in
    let long : length spans ≡ length sorted = ap length is ∙ length-reaching 0 sorted in
    let there = to-reaching 0 sorted n (record { from = 0; to = 0 }) (omega (arith, le, long)) in
    ap (λ (k : ℕ). (get_or spans k (record { from = 0; to = 0 })).to) back ∙ (ap (λ (xs : List Span). (get_or xs n (record { from = 0; to = 0 })).to) is ∙ omega (arith, there))
