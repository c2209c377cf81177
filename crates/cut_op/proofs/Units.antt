-- Pieces in a finer unit, and samples that none of them shows.
use Rattle.std.proofs.Common.{◌≡◌, ℕ, zero, suc, ◌+◌, ◌-◌, ◌*◌, ◌<◌, ◌≤◌, min, Bool, true, false, cond, ltb, not, ◌&&◌, List, [], ◌∷◌, map, Option, Some, None, ℤ, pos, ◌+ℤ◌, ◌*ℤ◌, ◌<ℤ◌, ◌≤ℤ◌, refl, sym, ap, subst, ◌∙◌, arith, inl, inr, ◌⊎◌, true≢false}
use Rattle.std.specs.Prelude.{int_lt, is_some}
use Rattle.std.proofs.lemmas.Bool.{cases_lt, lt-ltb, le-ltb}
use Rattle.std.proofs.lemmas.Int.{ints, by_lt_z}
use Rattle.std.proofs.Math.Nat.{add-mul, mul_assoc}
use borrow.Author.Differences.{up, down}
use Rattle.mp_timeline.specs.declared.segment.Segment.{Segment}
use Rattle.mp_timeline.specs.declared.segment.Segment.TheVariants.{Empty, Media}
use Rattle.mp_timeline.specs.Movie.{SampleRecord}
use Rattle.mp_edits.specs.Segments.{duration}
use Rattle.mp_shown.specs.Segments.{in_unit, part, pieces, segments_of, whole_media}
use Rattle.mp_shown.specs.Shown.{media_time, is_at}
use Rattle.cut_op.specs.Needed.{meets, is_needed}
use Rattle.cut_op.proofs.Keeping.{or-false}

pub lt-times : (a b k : ℕ) → 0 < k → a < b → a * k < b * k
lt-times a b k some lt = grind arith

pub le-times : (a b k : ℕ) → a ≤ b → a * k ≤ b * k
le-times a b k le = grind arith

pub times_some : (a b : ℕ) → 0 < a → 0 < b → 0 < a * b
times_some a b p q = grind arith

pub ltb-times : (a b k : ℕ) → 0 < k → ltb (a * k) (b * k) ≡ ltb a b
ltb-times a b k some = elim (cases_lt a b) [
  | inl lt ↦ lt-ltb _ _ (lt-times a b k some lt) ∙ sym (lt-ltb a b lt)
  | inr le ↦ le-ltb _ _ (le-times b a k le) ∙ sym (le-ltb a b le)
]

pub sub-times : (a b k : ℕ) → a * k - b * k ≡ (a - b) * k
sub-times a b k = elim (cases_lt b a) [
  | inl lt ↦
      let all : a * k ≡ (a - b) * k + b * k = ap (λ (x : ℕ). x * k) (split a b (omega arith)) ∙ add-mul (a - b) b k in
      omega (arith, all)
  | inr le ↦
      let none : a - b ≡ 0 = omega arith in
      let short = le-times a b k le in
      rw (none) (omega arith)
]
  where
    split : (x y : ℕ) → y ≤ x → x ≡ x - y + y
    split x y h = omega arith

min-times : (a b k : ℕ) → min (a * k) (b * k) ≡ min a b * k
min-times a b k = grind arith

-- ---- numbers below 0

lt_z-times : (a b : ℤ) (k : ℕ) → 0 < k → a <ℤ b → (a *ℤ pos k) <ℤ (b *ℤ pos k)
lt_z-times a b k some lt = omega (arith, ints, lt-times (up a + down b) (up b + down a) k some (omega (arith, ints)))

pub le_z-times : (a b : ℤ) (k : ℕ) → a ≤ℤ b → (a *ℤ pos k) ≤ℤ (b *ℤ pos k)
le_z-times a b k le = omega (arith, ints, le-times (up a + down b) (up b + down a) k (omega (arith, ints)))

pub int_lt-times : (a b : ℤ) (k : ℕ) → 0 < k → int_lt (a *ℤ pos k) (b *ℤ pos k) ≡ int_lt a b
int_lt-times a b k some = by_lt_z a b
    (λ lt. let h = lt_z-times a b k some lt in grind (arith, ints))
    (λ le. let h = le_z-times b a k le in grind (arith, ints))

mul_suc : (v : ℤ) (n : ℕ) → v *ℤ pos (suc n) ≡ v *ℤ pos n +ℤ v
mul_suc v n = omega (arith, ints)

pub add-times : (a c : ℤ) (k : ℕ) → (a +ℤ c) *ℤ pos k ≡ a *ℤ pos k +ℤ c *ℤ pos k
add-times a c zero = omega (arith, ints)
add-times a c (suc k) =
    let h = add-times a c k in
    let p = mul_suc a k in
    let q = mul_suc c k in
    let r = mul_suc (a +ℤ c) k in
    omega (arith, ints)

times_add : (a : ℤ) (j k : ℕ) → a *ℤ pos (j * suc k) ≡ a *ℤ pos (j * k) +ℤ a *ℤ pos j
times_add a j k = omega (arith, ints)

pub times_times : (a : ℤ) (j k : ℕ) → a *ℤ pos j *ℤ pos k ≡ a *ℤ pos (j * k)
times_times a j zero = omega (arith, ints)
times_times a j (suc k) =
    let h = times_times a j k in
    let p = mul_suc (a *ℤ pos j) k in
    let q = times_add a j k in
    omega (arith, ints)

-- ---- pieces

duration-finer : (k : ℕ) (segment : Segment) → duration (in_unit k k segment) ≡ duration segment * k
duration-finer k (Empty dur) = refl
duration-finer k (Media start dur) = refl

part-finer : (k : ℕ) (segment : Segment) (a b : ℕ) → part (in_unit k k segment) (a * k) (b * k) ≡ in_unit k k (part segment a b)
part-finer k (Empty dur) a b = rw (sub-times b a k) refl
part-finer k (Media start dur) a b = rw (sub-times b a k) (ap (λ (x : ℕ). Media x ((b - a) * k)) (omega arith))

pub pieces-finer : (k from to : ℕ) (segments : List Segment) → 0 < k → pieces (from * k) (to * k) (map (in_unit k k) segments) ≡ map (in_unit k k) (pieces from to segments)
pieces-finer k from to [] some = refl
pieces-finer k from to (segment ∷ segments) some =
    let u = duration segment in
    rw (duration-finer k segment, min-times from u k, min-times to u k, sub-times from u k, sub-times to u k, ltb-times (min from u) (min to u) k some, part-finer k segment (min from u) (min to u), pieces-finer k (from - u) (to - u) segments some)
    (by (ltb (min from u) (min to u)) (part segment (min from u) (min to u)) (pieces (from - u) (to - u) segments))
  where
    by : (b : Bool) (p : Segment) (ps : List Segment) → cond b (in_unit k k p ∷ map (in_unit k k) ps) (map (in_unit k k) ps) ≡ map (in_unit k k) (cond b (p ∷ ps) ps)
    by true p ps = refl
    by false p ps = refl

in_unit_in_unit : (a b k : ℕ) (edits : List Segment) → map (in_unit k k) (map (in_unit a b) edits) ≡ map (in_unit (a * k) (b * k)) edits
in_unit_in_unit a b k [] = refl
in_unit_in_unit a b k (Empty dur ∷ edits) = rw (mul_assoc dur b k, in_unit_in_unit a b k edits) refl
in_unit_in_unit a b k (Media start dur ∷ edits) = rw (mul_assoc start a k, mul_assoc dur b k, in_unit_in_unit a b k edits) refl

pub media-finer : (length k : ℕ) → 0 < k → map (in_unit k k) (whole_media length) ≡ whole_media (length * k)
media-finer length k some = elim (cases_lt 0 length) [
  | inl lt ↦ let front : 0 * k ≡ 0 = omega arith in rw (lt-ltb 0 length lt, lt-ltb 0 (length * k) (times_some length k lt some), front) refl
  | inr le ↦ let front : 0 * k ≡ 0 = omega arith in let none : length ≡ 0 = omega (arith, le) in rw (none, front) refl
]

pub segments_of-finer : (a b length k : ℕ) (edits : Option (List Segment)) → 0 < k → map (in_unit k k) (segments_of a b length edits) ≡ segments_of (a * k) (b * k) length edits
segments_of-finer a b length k None some = media-finer (length * a) k some ∙ ap whole_media (mul_assoc length a k)
segments_of-finer a b length k (Some edits) some = in_unit_in_unit a b k edits

-- ---- what isn't needed isn't shown

-- a sample that doesn't meet a segment is shown at none of its moments
apart : (k start dur at : ℕ) (sample : SampleRecord) → 0 < k → at < dur * k → meets sample (Media start dur) ≡ false → is_at k sample (start * k + at) ≡ false
apart k start dur at sample some lt none =
    by (sample.comp *ℤ pos k) (sample.dur * k) (start * k) (dur * k) at lt
    (ends sample.comp sample.dur)
    (subst (λ (b : Bool). b ≡ false) (same sample.comp sample.dur) none)
  where
    ends : (comp : ℤ) (u : ℕ) → (comp +ℤ pos u) *ℤ pos k ≡ comp *ℤ pos k +ℤ pos (u * k)
    ends comp u = add-times comp (pos u) k

    positive : (x : ℕ) → ltb 0 x ≡ ltb 0 (x * k)
    positive x = let zero_is : 0 * k ≡ 0 = omega arith in sym (ap (λ (n : ℕ). ltb n (x * k)) (sym zero_is) ∙ ltb-times 0 x k some)

    same : (comp : ℤ) (u : ℕ)
        → ((ltb 0 u && ltb 0 dur) && (int_lt comp (pos (start + dur)) && int_lt (pos start) (comp +ℤ pos u)))
        ≡ ((ltb 0 (u * k) && ltb 0 (dur * k)) && (int_lt (comp *ℤ pos k) (pos (start * k + dur * k)) && int_lt (pos (start * k)) (comp *ℤ pos k +ℤ pos (u * k))))
    same comp u =
        let sum : pos (start * k + dur * k) ≡ pos (start + dur) *ℤ pos k = ap pos (sym (add-mul start dur k)) in
        rw (sym (positive u), sym (positive dur), sum, int_lt-times comp (pos (start + dur)) k some, sym (ends comp u), int_lt-times (pos start) (comp +ℤ pos u) k some) refl

    by : (comp : ℤ) (u m d at : ℕ) → at < d → (sample.comp +ℤ pos sample.dur) *ℤ pos k ≡ comp +ℤ pos u
        → ((ltb 0 u && ltb 0 d) && (int_lt comp (pos (m + d)) && int_lt (pos m) (comp +ℤ pos u))) ≡ false
        → (not (int_lt (pos (m + at)) comp) && int_lt (pos (m + at)) ((sample.comp +ℤ pos sample.dur) *ℤ pos k)) ≡ false
    by comp u m d at lt e none = rw (e) (go comp u m d at lt none (cases_lt 0 u))
      where
        go : (comp : ℤ) (u m d at : ℕ) → at < d → ((ltb 0 u && ltb 0 d) && (int_lt comp (pos (m + d)) && int_lt (pos m) (comp +ℤ pos u))) ≡ false → (0 < u) ⊎ (u ≤ 0)
            → (not (int_lt (pos (m + at)) comp) && int_lt (pos (m + at)) (comp +ℤ pos u)) ≡ false
        go comp u m d at lt none (inl some) = grind (arith, ints)
        go comp u m d at lt none (inr short) = grind (arith, ints)

-- none of its times is at a sample that the pieces don't need
pub unneeded : (k : ℕ) (segments : List Segment) (at time : ℕ) (sample : SampleRecord) → 0 < k → is_needed segments sample ≡ false → media_time (map (in_unit k k) segments) at ≡ Some time → is_at k sample time ≡ false
unneeded k [] at time sample some none is = absurd (true≢false (sym (ap is_some is)))
unneeded k (Empty dur ∷ segments) at time sample some none is = elim (cases_lt at (dur * k)) [
  | inl lt ↦ absurd (true≢false (sym (ap is_some (sym (ap (λ (b : Bool). cond b None (media_time (map (in_unit k k) segments) (at - dur * k))) (lt-ltb at (dur * k) lt)) ∙ is))))
  | inr le ↦ unneeded k segments (at - dur * k) time sample some none (sym (ap (λ (b : Bool). cond b None (media_time (map (in_unit k k) segments) (at - dur * k))) (le-ltb at (dur * k) le)) ∙ is)
]
unneeded k (Media start dur ∷ segments) at time sample some none is =
    let p = or-false (meets sample (Media start dur)) (is_needed segments sample) none in
    elim (cases_lt at (dur * k)) [
      | inl lt ↦
          let time_is : start * k + at ≡ time = injective (sym (ap (λ (b : Bool). cond b (Some (start * k + at)) (media_time (map (in_unit k k) segments) (at - dur * k))) (lt-ltb at (dur * k) lt)) ∙ is) in
          subst (λ (t : ℕ). is_at k sample t ≡ false) time_is (apart k start dur at sample some lt p.0)
      | inr le ↦ unneeded k segments (at - dur * k) time sample some p.1 (sym (ap (λ (b : Bool). cond b (Some (start * k + at)) (media_time (map (in_unit k k) segments) (at - dur * k))) (le-ltb at (dur * k) le)) ∙ is)
    ]
  where
    or_zero : Option ℕ → ℕ
    or_zero None = 0
    or_zero (Some n) = n

    injective : {a b : ℕ} → Some a ≡ Some b → a ≡ b
    injective e = ap or_zero e
