-- The pieces of an edit list are its cuts, in a common unit.
use Rattle.std.proofs.Common.{◌≡◌, ℕ, ◌+◌, ◌-◌, ◌*◌, ◌^◌, ◌<◌, ◌≤◌, min, Bool, true, false, cond, ltb, List, [], ◌∷◌, map, drop, get_or, length, Option, Some, None, refl, sym, ap, subst, ◌∙◌, arith, inl, inr}
use Rattle.std.specs.Prelude.{unsigned_abs}
use Rattle.std.proofs.lemmas.Bool.{cases_lt, lt-ltb, le-ltb}
use Rattle.std.proofs.lemmas.List.{drop_more, drop_all}
use Rattle.std.proofs.lemmas.List.Sums.{sum_by-cons}
use Rattle.std.proofs.Math.Nat.{mul_assoc, add-mul}
use Rattle.mp_frac.specs.declared.time.Frac.{Frac}
use Rattle.mp_timeline.specs.declared.segment.Segment.{Segment}
use Rattle.mp_timeline.specs.declared.segment.Segment.TheVariants.{Empty, Media}
use Rattle.mp_edits.specs.Segments.{duration, total}
use Rattle.mp_shown.specs.Segments.{in_unit, part, pieces}
use Rattle.mp_clip.specs.declared.cut.Cut.{Cut}
use Rattle.mp_clip.specs.declared.cut.Scales.{Scales}
use Rattle.mp_clip.specs.Clipped.{clipped}
use Rattle.mp_clip.specs.Cut.{cut_between, cut_of, cuts_of, in_front, piece_of, cut_total}

lt-times : (a b k : ℕ) → 0 < k → a < b → a * k < b * k
lt-times a b k some lt = grind arith

le-times : (a b k : ℕ) → a ≤ b → a * k ≤ b * k
le-times a b k le = grind arith

ltb-times : (a b k : ℕ) → 0 < k → ltb (a * k) (b * k) ≡ ltb a b
ltb-times a b k some = elim (cases_lt a b) [
  | inl lt ↦ lt-ltb _ _ (lt-times a b k some lt) ∙ sym (lt-ltb a b lt)
  | inr le ↦ le-ltb _ _ (le-times b a k le) ∙ sym (le-ltb a b le)
]

-- products of a difference and of the lower of two
sub-mul : (a b k : ℕ) → a * k - b * k ≡ (a - b) * k
sub-mul a b k = elim (cases_lt a b) [
  | inl lt ↦
      let le = le-times a b k (omega (arith, lt)) in
      let none : a - b ≡ 0 = omega (arith, lt) in
      let left : a * k - b * k ≡ 0 = omega (arith, le) in
      let right : 0 * k ≡ 0 = omega arith in
      left ∙ (sym right ∙ ap (λ (x : ℕ). x * k) (sym none))
  | inr ge ↦
      let split : a ≡ a - b + b = omega (arith, ge) in
      let whole : a * k ≡ (a - b) * k + b * k = ap (λ (x : ℕ). x * k) split ∙ add-mul (a - b) b k in
      omega (arith, whole)
]

min-mul : (a b k : ℕ) → min (a * k) (b * k) ≡ min a b * k
min-mul a b k = elim (cases_lt a b) [
  | inl lt ↦ let le = le-times a b k (omega (arith, lt)) in let m : min a b ≡ a = omega (arith, lt) in let e : min (a * k) (b * k) ≡ a * k = omega (arith, le) in e ∙ sym (ap (λ (x : ℕ). x * k) m)
  | inr ge ↦ let le = le-times b a k ge in let m : min a b ≡ b = omega (arith, ge) in let e : min (a * k) (b * k) ≡ b * k = omega (arith, le) in e ∙ sym (ap (λ (x : ℕ). x * k) m)
]

-- the first segment, whatever its length and its part in the range are called
pieces-first : (from to length low high : ℕ) (segment : Segment) (segments : List Segment) → duration segment ≡ length → min from length ≡ low → min to length ≡ high
    → pieces from to (segment ∷ segments) ≡ cond (ltb low high) (part segment low high ∷ pieces (from - length) (to - length) segments) (pieces (from - length) (to - length) segments)
pieces-first from to length low high segment segments e p q = rw (e, p, q) refl

module _ (scales : Scales) where
  -- so many of the unit for each part of the range's begin, and of its end
  begin : ℕ
  begin = scales.to * scales.media

  end : ℕ
  end = scales.from * scales.media

  -- a segment in the unit
  fine : Segment → Segment
  fine segment = in_unit (scales.movie * (scales.from * scales.to)) (scales.media * (scales.from * scales.to)) segment

  lasts-begin : (segment : Segment) → duration (fine segment) ≡ duration segment * scales.from * begin
  unfolding begin fine
  lasts-begin (Empty dur) = omega arith
  lasts-begin (Media start dur) = omega arith

  lasts-end : (segment : Segment) → duration segment * scales.from * begin ≡ duration segment * scales.to * end
  unfolding begin end
  lasts-end segment = turn (duration segment) scales.from scales.to scales.media
    where
      turn : (u f t m : ℕ) → u * f * (t * m) ≡ u * t * (f * m)
      turn u f t m = omega arith

  length-is : (low high : ℕ) → high * end - low * begin ≡ (high * scales.from - low * scales.to) * scales.media
  unfolding begin end
  length-is low high = ap (λ (x : ℕ). x - low * (scales.to * scales.media)) (sym (mul_assoc high scales.from scales.media))
      ∙ (ap (λ (x : ℕ). high * scales.from * scales.media - x) (sym (mul_assoc low scales.to scales.media)) ∙ sub-mul (high * scales.from) (low * scales.to) scales.media)

  part-is : (segment : Segment) (low high : ℕ) → part (fine segment) (low * begin) (high * end) ≡ piece_of scales (cut_between scales segment low high)
  unfolding fine begin
  part-is (Empty dur) low high = ap (λ (x : ℕ). Empty x) (length-is low high)
  part-is (Media start dur) low high = ap (λ (x : ℕ). Media x (high * end - low * begin)) (start-is start low) ∙ ap (λ (x : ℕ). Media ((start * (scales.movie * scales.from) + low * scales.media) * scales.to) x) (length-is low high)
    where
      start-is : (start low : ℕ) → start * (scales.movie * (scales.from * scales.to)) + low * begin ≡ (start * (scales.movie * scales.from) + low * scales.media) * scales.to
      start-is start low = omega arith

  test-is : (low high : ℕ) → 0 < scales.media → ltb (low * begin) (high * end) ≡ ltb (low * scales.to) (high * scales.from)
  unfolding begin end
  test-is low high some = ap (λ (x : ℕ). ltb x (high * (scales.from * scales.media))) (sym (mul_assoc low scales.to scales.media))
      ∙ (ap (ltb (low * scales.to * scales.media)) (sym (mul_assoc high scales.from scales.media)) ∙ ltb-times (low * scales.to) (high * scales.from) scales.media some)

  pieces_are_cuts : (from to : ℕ) (segments : List Segment) → 0 < scales.media → pieces (from * begin) (to * end) (map fine segments) ≡ map (piece_of scales) (cuts_of scales from to segments)
  pieces_are_cuts from to [] some = refl
  pieces_are_cuts from to (segment ∷ segments) some =
      let u : ℕ = duration segment in
      let low : ℕ = min from (u * scales.from) in
      let high : ℕ = min to (u * scales.to) in
      let rest : pieces (from * begin - u * scales.from * begin) (to * end - u * scales.from * begin) (map fine segments) ≡ map (piece_of scales) (cuts_of scales (from - u * scales.from) (to - u * scales.to) segments) =
      ap (λ (x : ℕ). pieces x (to * end - u * scales.from * begin) (map fine segments)) (sub-mul from (u * scales.from) begin)
      ∙ (ap (λ (x : ℕ). pieces ((from - u * scales.from) * begin) (to * end - x) (map fine segments)) (lasts-end segment)
      ∙ (ap (λ (x : ℕ). pieces ((from - u * scales.from) * begin) x (map fine segments)) (sub-mul to (u * scales.to) end)
      ∙ pieces_are_cuts (from - u * scales.from) (to - u * scales.to) segments some)) in
      pieces-first (from * begin) (to * end) (u * scales.from * begin) (low * begin) (high * end) (fine segment) (map fine segments) (lasts-begin segment) (min-mul from (u * scales.from) begin)
      (ap (min (to * end)) (lasts-end segment) ∙ min-mul to (u * scales.to) end)
      ∙ by (ltb (low * scales.to) (high * scales.from)) _ _ (cut_between scales segment low high) _ (cuts_of scales (from - u * scales.from) (to - u * scales.to) segments) (test-is low high some) rest (part-is segment low high)
    where
      by : (b test : Bool) (here : Segment) (cut : Cut) (others : List Segment) (cuts : List Cut) → test ≡ b → others ≡ map (piece_of scales) cuts → here ≡ piece_of scales cut
          → cond test (here ∷ others) others ≡ map (piece_of scales) (in_front (cond b (Some cut) None) cuts)
      by true test here cut others cuts e p q = rw (e, p, q) refl
      by false test here cut others cuts e p q = rw (e, p) refl

pub clipped_is : (media movie : ℕ) (from to : Frac) (edits : List Segment) → 0 < media
    → clipped media movie from to edits
    ≡ map (piece_of (record { media = media; movie = movie; from = from.d; to = to.d })) (cuts_of (record { media = media; movie = movie; from = from.d; to = to.d }) (unsigned_abs from.n * movie) (unsigned_abs to.n * movie) edits)
unfolding begin end fine
clipped_is media movie from to edits some = pieces_are_cuts (record { media = media; movie = movie; from = from.d; to = to.d }) (unsigned_abs from.n * movie) (unsigned_abs to.n * movie) edits some

-- ---- the lengths together

one_short : (scales : Scales) (segment : Segment) (from to : ℕ) (rest : List Cut) → cut_total (in_front (cut_of scales segment from to) rest) ≤ duration segment * (scales.from * scales.to) + cut_total rest
one_short scales segment from to rest = by (ltb (min from (duration segment * scales.from) * scales.to) (min to (duration segment * scales.to) * scales.from)) (duration segment) segment (min from (duration segment * scales.from)) (min to (duration segment * scales.to)) (omega arith)
  where
    around : (u t f : ℕ) → u * t * f ≡ u * (f * t)
    around u t f = omega arith

    length_is : (one : Segment) (low high : ℕ) → (cut_between scales one low high).length ≡ high * scales.from - low * scales.to
    length_is (Empty dur) low high = refl
    length_is (Media start dur) low high = refl

    by : (b : Bool) (u : ℕ) (one : Segment) (low high : ℕ) → high ≤ u * scales.to → cut_total (in_front (cond b (Some (cut_between scales one low high)) None) rest) ≤ u * (scales.from * scales.to) + cut_total rest
    by true u one low high le =
        let sum = sum_by-cons (λ (cut : Cut). cut.length) (cut_between scales one low high) rest in
        let bound = le-times high (u * scales.to) scales.from le in
        subst (λ (x : ℕ). x ≤ u * (scales.from * scales.to) + cut_total rest) (sym sum) (omega (arith, length_is one low high, bound, around u scales.to scales.from))
    by false u one low high le = omega arith

le_chain : (a b c d e : ℕ) → a ≤ b + c → c ≤ d → b + d ≡ e → a ≤ e
le_chain a b c d e p q r = omega (arith, p, q, r)

pub cuts_short : (scales : Scales) (from to : ℕ) (segments : List Segment) → cut_total (cuts_of scales from to segments) ≤ total segments * (scales.from * scales.to)
cuts_short scales from to [] = omega arith
cuts_short scales from to (segment ∷ segments) =
    let first = one_short scales segment from to (cuts_of scales (from - duration segment * scales.from) (to - duration segment * scales.to) segments) in
    let rest = cuts_short scales (from - duration segment * scales.from) (to - duration segment * scales.to) segments in
    let sum = sum_by-cons duration segment segments in
    let split = ap (λ (x : ℕ). x * (scales.from * scales.to)) sum ∙ add-mul (duration segment) (total segments) (scales.from * scales.to) in
    le_chain _ (duration segment * (scales.from * scales.to)) _ (total segments * (scales.from * scales.to)) _ first rest (sym split)

pub room : (total from to : ℕ) → total < 2 ^ 62 → from < 2 ^ 32 → to < 2 ^ 32 → total * (from * to) < 2 ^ 128
room total from to short from_short to_short =
    let first = le-times total (2 ^ 62) (from * to) (omega (arith, short)) in
    let second = le-times from (2 ^ 32) to (omega (arith, from_short)) in
    omega (arith, first, second, to_short)

-- ---- one segment further

pub cuts-next : (scales : Scales) (begin end : ℕ) (edits : List Segment) (i : ℕ) (d : Segment) (cut : Option Cut) (begin' end' : ℕ) → i < length edits → cut ≡ cut_of scales (get_or edits i d) begin end
    → begin' ≡ begin - duration (get_or edits i d) * scales.from → end' ≡ end - duration (get_or edits i d) * scales.to
    → cuts_of scales begin end (drop i edits) ≡ in_front cut (cuts_of scales begin' end' (drop (i + 1) edits))
cuts-next scales begin end edits i d cut begin' end' lt cut_is begin_is end_is = ap (cuts_of scales begin end) (drop_more edits i d lt) ∙ rw (cut_is, begin_is, end_is) refl

pub at-end : (edits : List Segment) (i : ℕ) → length edits ≤ i → drop i edits ≡ []
at-end edits i le = drop_all i edits le
