-- Pieces are told in ticks of scales in which they are whole.
use Rattle.std.proofs.Common.{◌≡◌, ℕ, ◌+◌, ◌-◌, ◌*◌, ◌/◌, ◌%◌, ◌^◌, ◌<◌, ◌≤◌, List, [], ◌∷◌, ◌++◌, map, Option, Some, None, pos, refl, sym, ap, subst, ◌∙◌, arith, inl, inr}
use Rattle.std.specs.Prelude.{IfSome}
use Rattle.std.specs.Int.{◌∣◌}
use Rattle.std.specs.List.{AllByRecursion}
use Rattle.std.proofs.Math.Nat.{dvd_of_mul-dvd-mul_right, div-mul_cancel, add-mul-div_right, add-mul, mul_assoc, div-add-mod', div-lt_iff_lt-mul}
use Rattle.std.proofs.lemmas.Bool.{cases_lt}
use Rattle.std.proofs.lemmas.List.Sums.{sum_by-cons}
use Rattle.mp_frac.specs.Time.{IsWhole, in_ticks}
use Rattle.mp_frac.specs.Law.{WholenessIsDivision}
use Rattle.mp_timeline.specs.declared.segment.Segment.{Segment}
use Rattle.mp_timeline.specs.declared.segment.Segment.TheVariants.{Empty, Media}
use Rattle.mp_timeline.specs.Same.{IsSameTicks}
use Rattle.mp_clip.specs.declared.cut.Cut.{Cut}
use Rattle.mp_clip.specs.declared.cut.Scales.{Scales}
use Rattle.mp_clip.specs.declared.clipping.NewScales.{NewScales}
use Rattle.mp_clip.specs.Clipped.{as_times, CanTell}
use Rattle.mp_clip.specs.Cut.{piece_of, unit_of, cut_starts, cut_lengths, cut_total, listed, AreTold, IsExact, CanTellCut, TellsCut, LeadsTo}
use Rattle.mp_clip.proofs.Measures.{times_each, starts_are, durations_are, total_is}

times_some : (a b : ℕ) → 0 < a → 0 < b → 0 < a * b
times_some a b p q = grind arith

pub unit_some : (scales : Scales) → 0 < scales.media → 0 < scales.movie → 0 < scales.from → 0 < scales.to → 0 < unit_of scales
unit_some scales media movie from to = times_some (scales.movie * scales.media) (scales.from * scales.to) (times_some scales.movie scales.media movie media) (times_some scales.from scales.to from to)

-- ---- exact ticks

parts_split : (t u s : ℕ) → t * s ≡ (t % u) * s + (t / u * s) * u
parts_split t u s =
    ap (λ (x : ℕ). x * s) (sym (div-add-mod' t u)) ∙ (add-mul (t / u * u) (t % u) s ∙ turn (t / u) u (t % u) s)
  where
    turn : (q u r s : ℕ) → q * u * s + r * s ≡ r * s + q * s * u
    turn q u r s = omega arith

pub exact_ticks : (t u s : ℕ) → 0 < u → t / u * s + (t % u) * s / u ≡ t * s / u
exact_ticks t u s some =
    let turned : t / u * s + (t % u) * s / u ≡ (t % u) * s / u + t / u * s = omega arith in
    turned ∙ sym (ap (λ (x : ℕ). x / u) (parts_split t u s) ∙ add-mul-div_right ((t % u) * s) (t / u * s) some)

pub exact_early : (b t u s : ℕ) → 0 < u → IsExact b t u s → t * s / u < 2 ^ 62 + b
exact_early b t u s some h = (div-lt_iff_lt-mul some).1 h.early

pub exact_late : (b t u s : ℕ) → 0 < u → IsExact b t u s → b ≤ t * s / u
exact_late b t u s some h = elim (cases_lt (t * s / u) b) [
  | inl lt ↦ let short = (div-lt_iff_lt-mul some).0 lt in absurd (omega (arith, short, h.late))
  | inr le ↦ le
]

pub exact_product : (b t u s : ℕ) → 0 < u → IsExact b t u s → (t * s / u - b + b) * u ≡ t * s
exact_product b t u s some h = ap (λ (x : ℕ). x * u) (less_and_more (t * s / u) b (exact_late b t u s some h)) ∙ div-mul_cancel u h.whole
  where
    less_and_more : (x y : ℕ) → y ≤ x → x - y + y ≡ x
    less_and_more x y le = omega (arith, le)

-- ---- numbers of the unit that are whole and small are so in parts

le-times : (a b k : ℕ) → a ≤ b → a * k ≤ b * k
le-times a b k le = grind arith

lt-times : (a b k : ℕ) → 0 < k → a < b → a * k < b * k
lt-times a b k some lt = grind arith

lt-cancel : (a b k : ℕ) → a * k < b * k → a < b
lt-cancel a b k lt = elim (cases_lt a b) [
  | inl less ↦ less
  | inr ge ↦ let le = le-times b a k ge in absurd (omega (arith, lt, le))
]

le-cancel : (a b k : ℕ) → 0 < k → a * k ≤ b * k → a ≤ b
le-cancel a b k some le = elim (cases_lt b a) [
  | inl less ↦ let lt = lt-times b a k some less in absurd (omega (arith, lt, le))
  | inr ge ↦ ge
]

module _ (whole : WholenessIsDivision) (unit parts c scale back : ℕ) (unit_is : unit ≡ parts * c) (some_unit : 0 < unit) (some_c : 0 < c) where
  one_exact : (n : ℕ) → IsWhole scale (in_ticks (pos (n * c)) unit) → back * unit ≤ n * c * scale → n * c * scale < (2 ^ 62 + back) * unit → IsExact back n parts scale
  one_exact n is late small =
      let divides : unit ∣ n * c * scale = (whole scale (in_ticks (pos (n * c)) unit) is.1.positive some_unit).0 is in
      let in_parts : parts * c ∣ n * scale * c = subst (λ (x : ℕ). x ∣ n * scale * c) unit_is (subst (λ (x : ℕ). unit ∣ x) (turn n c scale) divides) in
      let limit : ℕ = 2 ^ 62 + back in
      let below : n * scale * c < limit * parts * c = subst (λ (x : ℕ). x < limit * parts * c) (turn n c scale) (subst (λ (x : ℕ). n * c * scale < x) (ap (λ (x : ℕ). limit * x) unit_is ∙ sym (mul_assoc limit parts c)) small) in
      let above : back * parts * c ≤ n * scale * c = subst (λ (x : ℕ). back * parts * c ≤ x) (turn n c scale) (subst (λ (x : ℕ). x ≤ n * c * scale) (ap (λ (x : ℕ). back * x) unit_is ∙ sym (mul_assoc back parts c)) late) in
      record { whole = dvd_of_mul-dvd-mul_right parts some_c in_parts; late = le-cancel (back * parts) (n * scale) c some_c above; early = lt-cancel (n * scale) (limit * parts) c below }
    where
      turn : (n c s : ℕ) → n * c * s ≡ n * s * c
      turn n c s = omega arith

  pub all_exact : (ns : List ℕ) → AllByRecursion (IsWhole scale) (as_times unit (times_each c ns)) → AllByRecursion (λ number. back * unit ≤ number * scale) (times_each c ns)
      → AllByRecursion (λ number. number * scale < (2 ^ 62 + back) * unit) (times_each c ns) → AllByRecursion (λ number. IsExact back number parts scale) ns
  all_exact [] is late small = tt
  all_exact (n ∷ ns) is late small = (one_exact n is.0 late.0 small.0, all_exact ns is.1 late.1 small.1)

-- nothing is at or below each
all_from_nothing : (unit scale : ℕ) (ns : List ℕ) → AllByRecursion (λ number. 0 * unit ≤ number * scale) ns
all_from_nothing unit scale [] = tt
all_from_nothing unit scale (n ∷ ns) = (omega arith, all_from_nothing unit scale ns)

-- each length is at most all together
all_short : (limit c scale : ℕ) (cuts : List Cut) → cut_total cuts * c * scale < limit → AllByRecursion (λ number. number * scale < limit) (times_each c (cut_lengths cuts))
all_short limit c scale [] small = tt
all_short limit c scale (cut ∷ cuts) small =
    let both : (cut.length + cut_total cuts) * c * scale < limit = subst (λ (x : ℕ). x * c * scale < limit) (sum_by-cons (λ (cut : Cut). cut.length) cut cuts) small in
    let split : (cut.length + cut_total cuts) * c * scale ≡ cut.length * c * scale + cut_total cuts * c * scale = parts_of cut.length (cut_total cuts) c scale in
    (omega (arith, both, split), all_short limit c scale cuts (omega (arith, both, split)))
  where
    parts_of : (a b c s : ℕ) → (a + b) * c * s ≡ a * c * s + b * c * s
    parts_of a b c s = omega arith

module _ (scales : Scales) (new : NewScales) where
  both_told : (cuts : List Cut) → AllByRecursion (λ start. IsExact new.back start (scales.media * (scales.movie * scales.from)) new.media) (cut_starts cuts)
      → AllByRecursion (λ length. IsExact 0 length (scales.movie * (scales.from * scales.to)) new.movie) (cut_lengths cuts) → AllByRecursion (CanTellCut scales new) cuts
  both_told [] p q = tt
  both_told (cut ∷ cuts) p q = let split = by cut.start (cut_starts cuts) p in (record { start = split.0; length = q.0 }, both_told cuts split.1 q.1)
    where
      by : (start : Option ℕ) (others : List ℕ) → AllByRecursion (λ start. IsExact new.back start (scales.media * (scales.movie * scales.from)) new.media) (listed start ++ others)
          → IfSome start (λ start. IsExact new.back start (scales.media * (scales.movie * scales.from)) new.media) × AllByRecursion (λ start. IsExact new.back start (scales.media * (scales.movie * scales.from)) new.media) others
      by None others all = (tt, all)
      by (Some start) others all = (all.0, all.1)

  pub can_tell : WholenessIsDivision → (cuts : List Cut) → 0 < unit_of scales → 0 < scales.media → 0 < scales.to → CanTell (unit_of scales) new.media new.movie new.back (map (piece_of scales) cuts)
      → AllByRecursion (CanTellCut scales new) cuts
  can_tell whole cuts some some_media some_to h =
      both_told cuts
      (all_exact whole (unit_of scales) (scales.media * (scales.movie * scales.from)) scales.to new.media new.back (omega arith) some some_to (cut_starts cuts)
      (subst (λ (ns : List ℕ). AllByRecursion (IsWhole new.media) (as_times (unit_of scales) ns)) (starts_are scales cuts) h.whole_starts)
      (subst (λ (ns : List ℕ). AllByRecursion (λ number. new.back * unit_of scales ≤ number * new.media) ns) (starts_are scales cuts) h.late)
      (subst (λ (ns : List ℕ). AllByRecursion (λ number. number * new.media < (2 ^ 62 + new.back) * unit_of scales) ns) (starts_are scales cuts) h.early))
      (all_exact whole (unit_of scales) (scales.movie * (scales.from * scales.to)) scales.media new.movie 0 (omega arith) some some_media (cut_lengths cuts)
      (subst (λ (ns : List ℕ). AllByRecursion (IsWhole new.movie) (as_times (unit_of scales) ns)) (durations_are scales cuts) h.whole_durations)
      (all_from_nothing (unit_of scales) new.movie (times_each scales.media (cut_lengths cuts)))
      (all_short (2 ^ 62 * unit_of scales) scales.media new.movie cuts (subst (λ (x : ℕ). x * new.movie < 2 ^ 62 * unit_of scales) (total_is scales cuts) h.short)))

  -- ---- a piece that is told

  module _ (some_unit : 0 < unit_of scales) (some_media : 0 < new.media) (some_movie : 0 < new.movie) where
    same_duration : (length dur : ℕ) → (dur + 0) * (scales.movie * (scales.from * scales.to)) ≡ length * new.movie → IsSameTicks (unit_of scales) new.movie (pos (length * scales.media)) (pos dur)
    same_duration length dur e = record { positive = some_unit; other_positive = some_movie; crosswise = ap pos (turn length scales.media new.movie ∙ (ap (λ (x : ℕ). x * scales.media) (sym e) ∙ turn_back dur scales.movie scales.media (scales.from * scales.to))) }
      where
        turn : (l m s : ℕ) → l * m * s ≡ l * s * m
        turn l m s = omega arith

        turn_back : (d v m p : ℕ) → (d + 0) * (v * p) * m ≡ d * (v * m * p)
        turn_back d v m p = omega arith

    same_start : (start at : ℕ) → at * (scales.media * (scales.movie * scales.from)) ≡ start * new.media → IsSameTicks (unit_of scales) new.media (pos (start * scales.to)) (pos at)
    same_start start at e = record { positive = some_unit; other_positive = some_media; crosswise = ap pos (turn start scales.to new.media ∙ (ap (λ (x : ℕ). x * scales.to) (sym e) ∙ turn_back at scales.media scales.movie scales.from scales.to)) }
      where
        turn : (l m s : ℕ) → l * m * s ≡ l * s * m
        turn l m s = omega arith

        turn_back : (a m v f t : ℕ) → a * (m * (v * f)) * t ≡ a * (v * m * (f * t))
        turn_back a m v f t = omega arith

    pub tells_empty : (cut : Cut) (dur : ℕ) → cut.start ≡ None → (dur + 0) * (scales.movie * (scales.from * scales.to)) ≡ cut.length * new.movie → TellsCut scales new cut (Empty dur)
    tells_empty cut dur none e = rw none (same_duration cut.length dur e)

    pub tells_media : (cut : Cut) (start at dur : ℕ) → cut.start ≡ Some start → (at + new.back) * (scales.media * (scales.movie * scales.from)) ≡ start * new.media
        → (dur + 0) * (scales.movie * (scales.from * scales.to)) ≡ cut.length * new.movie → TellsCut scales new cut (Media at dur)
    tells_media cut start at dur some s e = rw some (same_start start (at + new.back) s, same_duration cut.length dur e)

  -- ---- the pieces one after another

  pub leads_on : (all made : List Segment) (cut : Cut) (segment : Segment) (left : List Cut) → TellsCut scales new cut segment → LeadsTo scales new all made (cut ∷ left)
      → LeadsTo scales new all (made ++ (segment ∷ [])) left
  leads_on all made cut segment left told h = record {
    each = λ later is. subst (λ (xs : List Segment). AreTold scales new all xs) (sym (append_one made segment later)) (h.each (segment ∷ later) (told, is));
  }
    where
      append_one : (made : List Segment) (segment : Segment) (later : List Segment) → (made ++ (segment ∷ [])) ++ later ≡ made ++ (segment ∷ later)
      append_one [] segment later = refl
      append_one (x ∷ made) segment later = ap (λ (xs : List Segment). x ∷ xs) (append_one made segment later)

  pub all_told : (all made : List Segment) → LeadsTo scales new all made [] → AreTold scales new all made
  all_told all made h = subst (λ (xs : List Segment). AreTold scales new all xs) (append_none made) (h.each [] tt)
    where
      append_none : (xs : List Segment) → xs ++ [] ≡ xs
      append_none [] = refl
      append_none (x ∷ xs) = ap (λ (ys : List Segment). x ∷ ys) (append_none xs)
