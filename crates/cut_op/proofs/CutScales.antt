-- The least scale of a cut is that of the starts of its pieces, before they are moved.
use Rattle.std.proofs.Common.{◌≡◌, ℕ, ℤ, zero, suc, pos, negsuc, ◌+◌, ◌-◌, ◌*◌, ◌/◌, ◌<◌, ◌≤◌, ◌+ℤ◌, ◌-ℤ◌, ◌*ℤ◌, ◌≤ℤ◌, List, [], ◌∷◌, ◌++◌, map, Option, Some, None, refl, sym, ap, subst, ◌∙◌, arith, inl, inr}
use Rattle.std.specs.Prelude.{unsigned_abs}
use Rattle.std.specs.Int.{◌∣◌}
use Rattle.std.specs.List.{AllByRecursion, flat_map}
use Rattle.std.proofs.Math.Nat.{dvd-zero, mul-div_cancel'}
use Rattle.std.proofs.lemmas.Bool.{cases_lt}
use Rattle.std.proofs.lemmas.Int.{ints}
use Rattle.mp_frac.specs.declared.time.Frac.{Frac}
use Rattle.mp_frac.specs.Divisors.{most}
use Rattle.mp_frac.specs.Time.{IsSameTime, IsWhole, in_ticks}
use Rattle.mp_timeline.specs.declared.segment.Segment.{Segment}
use Rattle.mp_timeline.specs.declared.segment.Segment.TheVariants.{Empty, Media}
use Rattle.mp_timeline.specs.Movie.{SampleRecord}
use Rattle.mp_edits.specs.Segments.{shifted}
use Rattle.mp_movie.specs.Settling.{Serves, Settles}
use Rattle.mp_shown.specs.Law.{finer_sample}
use Rattle.mp_clip.specs.Clipped.{as_times, starts}
use Rattle.mp_clip.specs.Shape.{least}
use Rattle.track_ops.specs.Ticks.{sample_times}
use Rattle.track_ops.specs.Told.{or_empty}
use Rattle.cut_op.specs.Track.{first_decode, moved_sample}
use Rattle.cut_op.proofs.Moving.{AllFrom, least-from}
use Rattle.cut_op.proofs.ToldCuts.{sub_z-times}
use Rattle.cut_op.proofs.Units.{add-times, sub-times, times_some, times_times}

-- times that are whole in the same multiples of a scale settle alike
pub settles_alike : (scale : ℕ) (times others : List Frac) (result : Option ℕ)
    → ((k : ℕ) → 0 < k → scale ∣ k → AllByRecursion (IsWhole k) times → AllByRecursion (IsWhole k) others)
    → ((k : ℕ) → 0 < k → scale ∣ k → AllByRecursion (IsWhole k) others → AllByRecursion (IsWhole k) times)
    → Settles scale times result → Settles scale others result
settles_alike scale times others (Some found) there back (is, within) = (
  record {
    some = is.some;
    serves = record { multiple = is.serves.multiple; whole = there found is.some is.serves.multiple is.serves.whole };
    divides = λ multiple serves. by multiple serves;
  },
  within,
)
  where
    by : (multiple : ℕ) → Serves scale others multiple → found ∣ multiple
    by zero serves = dvd-zero found
    by (suc multiple) serves = is.divides (suc multiple) (record { multiple = serves.multiple; whole = back (suc multiple) (omega arith) serves.multiple serves.whole })
settles_alike scale times others None there back above = λ multiple some serves.
    above multiple some (record { multiple = serves.multiple; whole = back multiple some serves.multiple serves.whole })

-- ---- whole numbers of the unit

module _ (k unit : ℕ) (some_k : 0 < k) (some_unit : 0 < unit) where
  abbrev pub Whole : ℤ → Type 0
  Whole z = IsWhole k (in_ticks z unit)

  whole_add : (a b : ℤ) → Whole a → Whole b → Whole (a +ℤ b)
  whole_add a b p q = (
    p.0 +ℤ q.0,
    record {
      positive = some_k;
      other_positive = some_unit;
      crosswise = add-times p.0 q.0 unit ∙ (ap (λ (z : ℤ). z +ℤ q.0 *ℤ pos unit) p.1.crosswise ∙ (ap (λ (z : ℤ). a *ℤ pos k +ℤ z) q.1.crosswise ∙ sym (add-times a b k)));
    },
  )

  whole_sub : (a b : ℤ) → Whole a → Whole b → Whole (a -ℤ b)
  whole_sub a b p q = (
    p.0 -ℤ q.0,
    record {
      positive = some_k;
      other_positive = some_unit;
      crosswise = sub_z-times p.0 q.0 unit ∙ (ap (λ (z : ℤ). z -ℤ q.0 *ℤ pos unit) p.1.crosswise ∙ (ap (λ (z : ℤ). a *ℤ pos k -ℤ z) q.1.crosswise ∙ sym (sub_z-times a b k)));
    },
  )

  pub whole_none : Whole (pos 0)
  whole_none = (pos 0, record { positive = some_k; other_positive = some_unit; crosswise = omega (arith, ints) })

  -- the difference of two numbers, 0 where it would be below
  whole_less : (a b : ℕ) → Whole (pos a) → Whole (pos b) → Whole (pos (a - b))
  whole_less a b p q = elim (cases_lt a b) [
    | inl lt ↦ let none : 0 ≡ a - b = omega (arith, lt) in subst (λ (n : ℕ). Whole (pos n)) none whole_none
    | inr le ↦ subst Whole (less a b le) (whole_sub (pos a) (pos b) p q)
  ]
    where
      less : (a b : ℕ) → b ≤ a → pos a -ℤ pos b ≡ pos (a - b)
      less a b le = omega (arith, ints, le)

  whole_least : (numbers : List ℕ) → AllByRecursion (IsWhole k) (as_times unit numbers) → Whole (pos (least numbers))
  whole_least [] all = whole_none
  whole_least (n ∷ []) all = all.0
  whole_least (n ∷ m ∷ numbers) all = elim (cases_lt n (least (m ∷ numbers))) [
    | inl lt ↦ let here : n ≡ least (n ∷ m ∷ numbers) = omega (arith, lt) in subst (λ (x : ℕ). Whole (pos x)) here all.0
    | inr le ↦ let there : least (m ∷ numbers) ≡ least (n ∷ m ∷ numbers) = omega (arith, le) in subst (λ (x : ℕ). Whole (pos x)) there (whole_least (m ∷ numbers) all.1)
  ]

  -- ---- moved starts

  module _ (by : ℤ) (whole_by : Whole by) where
    starts_there : (segments : List Segment) → AllByRecursion (λ start. pos 0 ≤ℤ (pos start +ℤ by)) (starts segments) → AllByRecursion (IsWhole k) (as_times unit (starts segments))
        → AllByRecursion (IsWhole k) (as_times unit (starts (map (shifted by) segments)))
    starts_there [] stay all = tt
    starts_there (Empty dur ∷ segments) stay all = starts_there segments stay all
    starts_there (Media start dur ∷ segments) stay all =
        (subst Whole (same start stay.0) (whole_add (pos start) by all.0 whole_by), starts_there segments stay.1 all.1)
      where
        same : (start : ℕ) → pos 0 ≤ℤ (pos start +ℤ by) → pos start +ℤ by ≡ pos (unsigned_abs (pos start +ℤ by))
        same start le = omega (arith, ints, le)

    starts_back : (segments : List Segment) → AllByRecursion (λ start. pos 0 ≤ℤ (pos start +ℤ by)) (starts segments) → AllByRecursion (IsWhole k) (as_times unit (starts (map (shifted by) segments)))
        → AllByRecursion (IsWhole k) (as_times unit (starts segments))
    starts_back [] stay all = tt
    starts_back (Empty dur ∷ segments) stay all = starts_back segments stay all
    starts_back (Media start dur ∷ segments) stay all =
        (subst Whole (same start stay.0) (whole_sub (pos (unsigned_abs (pos start +ℤ by))) by all.0 whole_by), starts_back segments stay.1 all.1)
      where
        same : (start : ℕ) → pos 0 ≤ℤ (pos start +ℤ by) → pos (unsigned_abs (pos start +ℤ by)) -ℤ by ≡ pos start
        same start le = omega (arith, ints, le)

-- a start is an option more of a list that isn't empty
starts_or_empty : (segments : List Segment) → starts (or_empty segments) ≡ starts segments
starts_or_empty [] = refl
starts_or_empty (segment ∷ segments) = refl

pub all_joined : {A : Type 0} (P : A → Type 0) (xs ys : List A) → AllByRecursion P xs → AllByRecursion P ys → AllByRecursion P (xs ++ ys)
all_joined P [] ys p q = q
all_joined P (x ∷ xs) ys p q = (p.0, all_joined P xs ys p.1 q)

pub all_parted : {A : Type 0} (P : A → Type 0) (xs ys : List A) → AllByRecursion P (xs ++ ys) → AllByRecursion P xs × AllByRecursion P ys
all_parted P [] ys p = (tt, p)
all_parted P (x ∷ xs) ys p = let rest = all_parted P xs ys p.1 in ((p.0, rest.0), rest.1)

-- ---- a cut

-- its samples in ticks of the old scale, of which a tick is `w` of the unit
module _ (scale w : ℕ) (some_scale : 0 < scale) (some_w : 0 < w) (samples : List SampleRecord) (segments : List Segment) where
  abbrev pub first : ℕ
  first = first_decode samples

  abbrev pub late : ℕ
  late = first * w - least (starts segments)

  abbrev pub by : ℤ
  by = pos late -ℤ pos (first * w)

  abbrev pub moved : List SampleRecord
  moved = map (moved_sample (first * w) late) (map (finer_sample w) samples)

  abbrev pub times : List Frac
  times = flat_map (sample_times (w * scale)) moved ++ as_times (w * scale) (starts (or_empty (map (shifted by) segments)))

  some_unit : 0 < w * scale
  some_unit = times_some w scale some_w some_scale

  stay : AllByRecursion (λ start. pos 0 ≤ℤ (pos start +ℤ by)) (starts segments)
  stay = each (starts segments) (least (starts segments)) (least-from (starts segments))
    where
      each : (rest : List ℕ) (low : ℕ) → AllFrom low rest → AllByRecursion (λ start. pos 0 ≤ℤ (pos start +ℤ (pos (first * w - low) -ℤ pos (first * w)))) rest
      each [] low h = tt
      each (n ∷ rest) low h = (one n low (first * w) h.0, each rest low h.1)
        where
          one : (n low b : ℕ) → low ≤ n → pos 0 ≤ℤ (pos n +ℤ (pos (b - low) -ℤ pos b))
          one n low b le = omega (arith, ints, le)

  module _ (k : ℕ) (some_k : 0 < k) (multiple : scale ∣ k) where
    -- old ticks are whole
    whole_ticks : (z : ℤ) → Whole k (w * scale) some_k some_unit (z *ℤ pos w)
    whole_ticks z =
        let j = k / scale in
        let is : scale * j ≡ k = mul-div_cancel' scale multiple in
        let turned : j * (w * scale) ≡ w * k = turn j w scale ∙ ap (λ (x : ℕ). w * x) is in (
          z *ℤ pos j,
          record {
            positive = some_k;
            other_positive = some_unit;
            crosswise = times_times z j (w * scale) ∙ (ap (λ (n : ℕ). z *ℤ pos n) turned ∙ sym (times_times z w k));
          },
        )
      where
        turn : (j w s : ℕ) → j * (w * s) ≡ w * (s * j)
        turn j w s = omega arith

    samples_there : Whole k (w * scale) some_k some_unit by → (rest : List SampleRecord) → AllByRecursion (IsWhole k) (flat_map (sample_times (w * scale)) (map (moved_sample (first * w) late) (map (finer_sample w) rest)))
    samples_there whole_by [] = tt
    samples_there whole_by (sample ∷ rest) = (
      subst (λ (n : ℕ). IsWhole k (in_ticks (pos n) (w * scale))) (sym (sub-times sample.decode first w)) (whole_ticks (pos (sample.decode - first))),
      (whole_ticks (pos sample.dur), (whole_add k (w * scale) some_k some_unit (sample.comp *ℤ pos w) by (whole_ticks sample.comp) whole_by, samples_there whole_by rest)),
    )

    pub there : AllByRecursion (IsWhole k) (as_times (w * scale) (starts segments)) → AllByRecursion (IsWhole k) times
    there all =
        let whole_first = whole_ticks (pos first) in
        let whole_late = whole_less k (w * scale) some_k some_unit (first * w) (least (starts segments)) whole_first (whole_least k (w * scale) some_k some_unit (starts segments) all) in
        let whole_by = whole_sub k (w * scale) some_k some_unit (pos late) (pos (first * w)) whole_late whole_first in
        all_joined (IsWhole k) (flat_map (sample_times (w * scale)) moved) _ (samples_there whole_by samples)
        (subst (λ (numbers : List ℕ). AllByRecursion (IsWhole k) (as_times (w * scale) numbers)) (sym (starts_or_empty (map (shifted by) segments)))
        (starts_there k (w * scale) some_k some_unit by whole_by segments stay all))

    -- what the first sample's composition time tells of the move
    by_of_first : (rest : List SampleRecord) → rest ≡ samples → AllByRecursion (IsWhole k) (flat_map (sample_times (w * scale)) (map (moved_sample (first * w) late) (map (finer_sample w) rest))) → Whole k (w * scale) some_k some_unit by
    by_of_first [] is all =
        let none : first ≡ 0 = ap first_decode (sym is) in
        let nothing : pos 0 ≡ by = at first none in
        subst (Whole k (w * scale) some_k some_unit) nothing (whole_none k (w * scale) some_k some_unit)
      where
        at : (f : ℕ) → f ≡ 0 → pos 0 ≡ pos (f * w - least (starts segments)) -ℤ pos (f * w)
        at f none =
            let zero_is : f * w ≡ 0 = ap (λ (x : ℕ). x * w) none ∙ omega arith in
            rw (zero_is) (omega (arith, ints))
    by_of_first (sample ∷ rest) is all =
        subst (Whole k (w * scale) some_k some_unit) (same (sample.comp *ℤ pos w) by)
        (whole_sub k (w * scale) some_k some_unit (sample.comp *ℤ pos w +ℤ by) (sample.comp *ℤ pos w) all.1.1.0 (whole_ticks sample.comp))
      where
        same : (a b : ℤ) → (a +ℤ b) -ℤ a ≡ b
        same a b = omega (arith, ints)

    pub back : AllByRecursion (IsWhole k) times → AllByRecursion (IsWhole k) (as_times (w * scale) (starts segments))
    back all =
        let parts = all_parted (IsWhole k) (flat_map (sample_times (w * scale)) moved) _ all in
        let whole_by = by_of_first samples refl parts.0 in
        starts_back k (w * scale) some_k some_unit by whole_by segments stay
        (subst (λ (numbers : List ℕ). AllByRecursion (IsWhole k) (as_times (w * scale) numbers)) (starts_or_empty (map (shifted by) segments)) parts.1)

  -- the scale of the cut is that of the starts as they are before
  pub settles_before : (result : Option ℕ) → Settles scale (as_times (w * scale) (starts segments)) result → Settles scale times result
  settles_before result is = settles_alike scale (as_times (w * scale) (starts segments)) times result (λ k some multiple all. there k some multiple all) (λ k some multiple all. back k some multiple all) is
