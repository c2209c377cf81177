-- A piece shows a part of a range of ticks exactly where its span has one in common with it.
use Rattle.std.proofs.Common.{◌≡◌, ℕ, ◌+◌, ◌-◌, ◌*◌, ◌/◌, ◌<◌, ◌≤◌, Bool, true, false, ltb, ◌||◌, List, [], ◌∷◌, ◌++◌, map, Option, Some, None, refl, sym, ap, subst, ◌∙◌, arith, inl, inr}
use Rattle.std.specs.Prelude.{option_to_list}
use Rattle.std.specs.Int.{div_ceil}
use Rattle.std.specs.List.{list_any}
use Rattle.std.proofs.lemmas.Bool.{cases_lt, lt-ltb, le-ltb}
use Rattle.std.proofs.lemmas.Grind.{div_ceil_times}
use Rattle.std.proofs.lemmas.List.Folds.{list_any-append}
use Rattle.std.proofs.Math.Nat.{add-mul, add-mul-div_right, div-lt_iff_lt-mul}
use Rattle.mp_timeline.specs.declared.segment.Segment.{Segment}
use Rattle.mp_timeline.specs.declared.segment.Segment.TheVariants.{Empty, Media}
use Rattle.mp_clip.specs.declared.cut.Cut.{Cut}
use Rattle.mp_clip.specs.declared.cut.Scales.{Scales}
use Rattle.mp_clip.specs.declared.touching.Span.{Span}
use Rattle.mp_clip.specs.Cut.{cut_between, in_front, piece_of}
use Rattle.mp_clip.specs.Touched.{AreTouched, shows_some, touches}

lt-times : (a b k : ℕ) → 0 < k → a < b → a * k < b * k
lt-times a b k some lt = grind arith

le-times : (a b k : ℕ) → a ≤ b → a * k ≤ b * k
le-times a b k le = grind arith

times_some : (a b : ℕ) → 0 < a → 0 < b → 0 < a * b
times_some a b p q = grind arith

ltb-times : (a b k : ℕ) → 0 < k → ltb (a * k) (b * k) ≡ ltb a b
ltb-times a b k some = elim (cases_lt a b) [
  | inl lt ↦ lt-ltb _ _ (lt-times a b k some lt) ∙ sym (lt-ltb a b lt)
  | inr le ↦ le-ltb _ _ (le-times b a k le) ∙ sym (le-ltb a b le)
]

-- a quotient that is rounded down is below a number where the dividend is below so many divisors
floor-below : (q p u b : ℕ) → 0 < u → ltb (q + p / u) b ≡ ltb (q * u + p) (b * u)
floor-below q p u b some = elim (cases_lt (q * u + p) (b * u)) [
  | inl lt ↦ let short = subst (λ (x : ℕ). x < b) whole ((div-lt_iff_lt-mul some).1 lt) in lt-ltb _ _ short ∙ sym (lt-ltb _ _ lt)
  | inr le ↦
      elim (cases_lt (q + p / u) b) [
        | inl lt ↦ let more = (div-lt_iff_lt-mul some).0 (subst (λ (x : ℕ). x < b) (sym whole) lt) in absurd (omega (arith, more, le))
        | inr ge ↦ le-ltb _ _ ge ∙ sym (le-ltb _ _ le)
      ]
]
  where
    whole : (q * u + p) / u ≡ q + p / u
    whole =
        let turned : q * u + p ≡ p + q * u = omega arith in
        let last : p / u + q ≡ q + p / u = omega arith in
        ap (λ (x : ℕ). x / u) turned ∙ (add-mul-div_right p q some ∙ last)

-- one that is rounded up is above a number where the dividend is above so many divisors
ceil-above : (q p u a : ℕ) → 0 < u → ltb a (q + div_ceil p u) ≡ ltb (a * u) (q * u + p)
ceil-above q p u a some = elim (cases_lt a (q + div_ceil p u)) [
  | inl lt ↦
      let le = le-times (a + 1) (q + div_ceil p u) u (omega (arith, lt)) in
      let left : (a + 1) * u ≡ a * u + u = omega arith in
      let right = add-mul q (div_ceil p u) u in
      let more : a * u < q * u + p = omega (arith, le, left, right, (div_ceil_times p u some).1) in
      lt-ltb _ _ lt ∙ sym (lt-ltb _ _ more)
  | inr ge ↦
      let le = le-times (q + div_ceil p u) a u ge in
      let right = add-mul q (div_ceil p u) u in
      let less : q * u + p ≤ a * u = omega (arith, le, right, (div_ceil_times p u some).0) in
      le-ltb _ _ ge ∙ sym (le-ltb _ _ less)
]

module _ (scales : Scales) (some_movie : 0 < scales.movie) (some_from : 0 < scales.from) (some_to : 0 < scales.to) where
  abbrev pub tick : ℕ
  tick = scales.movie * (scales.from * scales.to)

  begins : (start low b : ℕ) → ltb ((start * (scales.movie * scales.from) + low * scales.media) * scales.to) (b * tick) ≡ ltb (start + low * scales.media / (scales.movie * scales.from)) b
  begins start low b =
      let turned : b * tick ≡ b * (scales.movie * scales.from) * scales.to = omega arith in
      ap (ltb ((start * (scales.movie * scales.from) + low * scales.media) * scales.to)) turned
      ∙ (ltb-times (start * (scales.movie * scales.from) + low * scales.media) (b * (scales.movie * scales.from)) scales.to some_to
      ∙ sym (floor-below start (low * scales.media) (scales.movie * scales.from) b (times_some scales.movie scales.from some_movie some_from)))

  end_is : (start low high : ℕ) → low * scales.to ≤ high * scales.from
      → (start * (scales.movie * scales.from) + low * scales.media) * scales.to + (high * scales.from - low * scales.to) * scales.media ≡ (start * (scales.movie * scales.to) + high * scales.media) * scales.from
  end_is start low high le =
      let sum = add-mul (high * scales.from - low * scales.to) (low * scales.to) scales.media in
      let whole : high * scales.from ≡ high * scales.from - low * scales.to + low * scales.to = omega (arith, le) in
      let product : high * scales.from * scales.media ≡ (high * scales.from - low * scales.to) * scales.media + low * scales.to * scales.media = ap (λ (x : ℕ). x * scales.media) whole ∙ sum in
      let left : (start * (scales.movie * scales.from) + low * scales.media) * scales.to ≡ start * (scales.movie * (scales.from * scales.to)) + low * scales.to * scales.media = omega arith in
      let right : (start * (scales.movie * scales.to) + high * scales.media) * scales.from ≡ start * (scales.movie * (scales.from * scales.to)) + high * scales.from * scales.media = omega arith in
      omega (arith, product, left, right)

  ends : (start low high a : ℕ) → low * scales.to ≤ high * scales.from
      → ltb (a * tick) ((start * (scales.movie * scales.from) + low * scales.media) * scales.to + (high * scales.from - low * scales.to) * scales.media)
      ≡ ltb a (start + div_ceil (high * scales.media) (scales.movie * scales.to))
  ends start low high a le =
      let turned : a * tick ≡ a * (scales.movie * scales.to) * scales.from = omega arith in
      ap (ltb (a * tick)) (end_is start low high le)
      ∙ (ap (λ (x : ℕ). ltb x ((start * (scales.movie * scales.to) + high * scales.media) * scales.from)) turned
      ∙ (ltb-times (a * (scales.movie * scales.to)) (start * (scales.movie * scales.to) + high * scales.media) scales.from some_from
      ∙ sym (ceil-above start (high * scales.media) (scales.movie * scales.to) a (times_some scales.movie scales.to some_movie some_to))))

  pub media_touched : (segment : Segment) (start dur low high : ℕ) (span : Span) → segment ≡ Media start dur → low * scales.to ≤ high * scales.from
      → span.from ≡ start + low * scales.media / (scales.movie * scales.from) → span.to ≡ start + div_ceil (high * scales.media) (scales.movie * scales.to)
      → AreTouched tick (piece_of scales (cut_between scales segment low high) ∷ []) (span ∷ [])
  media_touched segment start dur low high span is le from_is to_is = λ a b.
      rw (is, from_is, to_is, begins start low b, ends start low high a le) refl

  pub empty_touched : (segment : Segment) (dur low high : ℕ) → segment ≡ Empty dur → AreTouched tick (piece_of scales (cut_between scales segment low high) ∷ []) []
  empty_touched segment dur low high is = λ a b. rw (is) refl

-- ---- one piece after another

-- spans so far, and the pieces that are left, touch what all pieces touch
pub record LeadsToSpans (tick : ℕ) (all : List Segment) (spans : List Span) (left : List Segment) : Type 0 where
  pub each : (a b : ℕ) → (list_any (touches a b) spans || list_any (shows_some (a * tick) (b * tick)) left) ≡ list_any (shows_some (a * tick) (b * tick)) all

pub nothing_touched : (parts : ℕ) (all : List Segment) → LeadsToSpans parts all [] all
nothing_touched parts all = record { each = λ a b. refl }

or_assoc : (a b c : Bool) → ((a || b) || c) ≡ (a || (b || c))
or_assoc true b c = refl
or_assoc false b c = refl

or-false : (b : Bool) → (b || false) ≡ b
or-false true = refl
or-false false = refl

pub leads_further : (scales : Scales) (tick : ℕ) (all : List Segment) (spans new : List Span) (cut : Option Cut) (cuts : List Cut) (more : Option Span)
    → AreTouched tick (map (piece_of scales) (in_front cut [])) (option_to_list more) → new ≡ spans ++ option_to_list more
    → LeadsToSpans tick all spans (map (piece_of scales) (in_front cut cuts)) → LeadsToSpans tick all new (map (piece_of scales) cuts)
leads_further scales tick all spans new cut cuts more touched is h = record {
  each = λ a b.
      let rest : Bool = list_any (shows_some (a * tick) (b * tick)) (map (piece_of scales) cuts) in
      ap (λ (xs : List Span). list_any (touches a b) xs || rest) is
      ∙ (ap (λ (x : Bool). x || rest) (list_any-append (touches a b) spans (option_to_list more))
      ∙ (or_assoc (list_any (touches a b) spans) (list_any (touches a b) (option_to_list more)) rest
      ∙ (ap (λ (x : Bool). list_any (touches a b) spans || (x || rest)) (sym (touched a b))
      ∙ (ap (λ (x : Bool). list_any (touches a b) spans || x) (by cut a b) ∙ h.each a b))));
}
  where
    by : (one : Option Cut) (a b : ℕ) → (list_any (shows_some (a * tick) (b * tick)) (map (piece_of scales) (in_front one [])) || list_any (shows_some (a * tick) (b * tick)) (map (piece_of scales) cuts))
        ≡ list_any (shows_some (a * tick) (b * tick)) (map (piece_of scales) (in_front one cuts))
    by None a b = refl
    by (Some cut) a b = ap (λ (x : Bool). x || list_any (shows_some (a * tick) (b * tick)) (map (piece_of scales) cuts)) (or-false (shows_some (a * tick) (b * tick) (piece_of scales cut)))

pub all_touched : (tick : ℕ) (all left : List Segment) (spans : List Span) → left ≡ [] → LeadsToSpans tick all spans left → AreTouched tick all spans
all_touched tick all left spans none h = λ a b.
    let last : (list_any (touches a b) spans || list_any (shows_some (a * tick) (b * tick)) left) ≡ list_any (touches a b) spans =
    ap (λ (xs : List Segment). list_any (touches a b) spans || list_any (shows_some (a * tick) (b * tick)) xs) none ∙ or-false (list_any (touches a b) spans) in
    sym (h.each a b) ∙ last
