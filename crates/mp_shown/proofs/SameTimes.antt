-- Tracks whose times are the same show the same.
use Rattle.std.proofs.Common.{◌≡◌, ℕ, zero, suc, ◌+◌, ◌-◌, ◌*◌, ◌<◌, ◌≤◌, max, Bool, true, false, cond, ltb, not, ◌&&◌, List, [], ◌∷◌, map, filter, Option, Some, None, ℤ, pos, negsuc, ◌+ℤ◌, ◌*ℤ◌, refl, sym, ap, ◌∙◌, arith, inl, inr}
use Rattle.std.specs.Prelude.{int_lt, neg_ℤ, option_map, nat_lt}
use Rattle.std.specs.List.{AllZip}
use Rattle.std.proofs.lemmas.Bool.{cases_lt, lt-ltb, le-ltb}
use Rattle.std.proofs.lemmas.Int.{ints}
use Rattle.std.proofs.lemmas.List.Sums.{sum_by-cons}
use Rattle.std.proofs.Math.Nat.{mul_comm, mul_assoc, add-mul}
use Rattle.mp_frac.specs.Time.{IsSameTime, in_ticks}
use Rattle.mp_timeline.specs.declared.segment.Segment.{Segment}
use Rattle.mp_timeline.specs.declared.segment.Segment.TheVariants.{Empty, Media}
use Rattle.mp_timeline.specs.Movie.{SampleRecord, TrackRecord}
use Rattle.mp_timeline.specs.Same.{IsSameTicks, IsSameSample, IsSameSegment, IsSameEdits}
use Rattle.mp_edits.specs.Segments.{duration, total}
use Rattle.mp_movie.specs.Durations.{extent, greatest, not_before_start}
use Rattle.mp_shown.specs.Segments.{in_unit, whole_media, segments_of, explicit}
use Rattle.mp_shown.specs.Shown.{media_time, is_at, is_at_some, is_shown, seen, Seen, shown, shown_numbers, numbers_where}
use Rattle.mp_shown.specs.Law.{HasSameTimes, ShowsTheSame}
use Rattle.mp_shown.proofs.Places.{times_some, ltb-times, le-times, sub-times, none_before}

-- ---- a unit that is finer

abbrev times : ℕ → Option ℕ → Option ℕ
times k time = option_map (λ at. at * k) time

pub time-finer : (k : ℕ) (segments : List Segment) (moment : ℕ) → 0 < k → media_time (map (in_unit k k) segments) (moment * k) ≡ times k (media_time segments moment)
time-finer k [] moment some = refl
time-finer k (Empty dur ∷ segments) moment some = rw (ltb-times moment dur k some) (elim (cases_lt moment dur) [
  | inl lt ↦ rw (lt-ltb moment dur lt) refl
  | inr le ↦ rw (le-ltb moment dur le, sub-times moment dur k le) (time-finer k segments (moment - dur) some)
])
time-finer k (Media start dur ∷ segments) moment some = rw (ltb-times moment dur k some) (elim (cases_lt moment dur) [
  | inl lt ↦ rw (lt-ltb moment dur lt) (ap (λ (x : ℕ). Some x) (sym (add-mul start moment k)))
  | inr le ↦ rw (le-ltb moment dur le, sub-times moment dur k le) (time-finer k segments (moment - dur) some)
])

pub finer-lt : (time a k : ℕ) (z : ℤ) → 0 < k → int_lt (pos (time * k)) (z *ℤ pos (a * k)) ≡ int_lt (pos time) (z *ℤ pos a)
finer-lt time a k (pos n) some = ap (ltb (time * k)) (sym (mul_assoc n a k)) ∙ ltb-times time (n * a) k some
finer-lt time a k (negsuc n) some = none_before (time * k) (suc n * (a * k)) ∙ sym (none_before time (suc n * a))

at-finer : (a k : ℕ) (time : Option ℕ) (sample : SampleRecord) → 0 < k → is_at_some (a * k) (times k time) sample ≡ is_at_some a time sample
at-finer a k None sample some = refl
at-finer a k (Some time) sample some = rw (finer-lt time a k sample.comp some, finer-lt time a k (sample.comp +ℤ pos sample.dur) some) refl

-- ---- the same times, in one unit

mul_suc : (v : ℤ) (n : ℕ) → v *ℤ pos (suc n) ≡ v *ℤ pos n +ℤ v
mul_suc v n = omega (arith, ints)

times_add : (a : ℤ) (j k : ℕ) → a *ℤ pos (j * suc k) ≡ a *ℤ pos (j * k) +ℤ a *ℤ pos j
times_add a j k = omega (arith, ints)

pub times_times : (a : ℤ) (j k : ℕ) → a *ℤ pos j *ℤ pos k ≡ a *ℤ pos (j * k)
times_times a j zero = omega (arith, ints)
times_times a j (suc k) =
    let h = times_times a j k in
    let p = mul_suc (a *ℤ pos j) k in
    let q = times_add a j k in
    omega (arith, ints)

sum-times : (a : ℤ) (u k : ℕ) → a *ℤ pos k +ℤ pos (u * k) ≡ (a +ℤ pos u) *ℤ pos k
sum-times a u zero = omega (arith, ints)
sum-times a u (suc k) =
    let h = sum-times a u k in
    let p = mul_suc a k in
    let q = mul_suc (a +ℤ pos u) k in
    let r : u * suc k ≡ u * k + u = omega arith in
    omega (arith, ints)

pos_injective : (a b : ℕ) → pos a ≡ pos b → a ≡ b
pos_injective a b e = omega (arith, ints, e)

-- a product, where the two sides of a crosswise equation are taken so many times
scaled_pos : (x y p q a b c : ℕ) → x * q ≡ y * p → a ≡ q * c → b ≡ p * c → x * a ≡ y * b
scaled_pos x y p q a b c same a_is b_is = ap (λ (k : ℕ). x * k) a_is ∙ (sym (mul_assoc x q c) ∙ (ap (λ (k : ℕ). k * c) same ∙ (mul_assoc y p c ∙ ap (λ (k : ℕ). y * k) (sym b_is))))

scaled_z : (x y : ℤ) (p q a b c : ℕ) → x *ℤ pos q ≡ y *ℤ pos p → a ≡ q * c → b ≡ p * c → x *ℤ pos a ≡ y *ℤ pos b
scaled_z x y p q a b c same a_is b_is =
    ap (λ (k : ℕ). x *ℤ pos k) a_is ∙ (sym (times_times x q c) ∙ (ap (λ (z : ℤ). z *ℤ pos c) same ∙ (times_times y p c ∙ ap (λ (k : ℕ). y *ℤ pos k) (sym b_is))))

-- ---- a unit for both: a and b of it for a tick of each track, v and w for a tick of each movie

pub record IsUnit (scale other_scale movie other_movie a b v w : ℕ) : Type 0 where
  pub c : ℕ
  pub e : ℕ
  pub a_is : a ≡ other_scale * c
  pub b_is : b ≡ scale * c
  pub v_is : v ≡ other_movie * e
  pub w_is : w ≡ movie * e

module _ (scale other_scale movie other_movie a b v w : ℕ) (unit : IsUnit scale other_scale movie other_movie a b v w) where
  segments_same : (segments others : List Segment) → AllZip (IsSameSegment movie other_movie scale other_scale) segments others → map (in_unit a v) segments ≡ map (in_unit b w) others
  segments_same [] [] same = refl
  segments_same [] (other ∷ others) same = absurd same
  segments_same (segment ∷ segments) [] same = absurd same
  segments_same (Empty dur ∷ segments) (Empty other ∷ others) same =
      rw (scaled_pos dur other movie other_movie v w unit.e (pos_injective _ _ same.0.crosswise) unit.v_is unit.w_is, segments_same segments others same.1) refl
  segments_same (Empty dur ∷ segments) (Media start other ∷ others) same = absurd same.0
  segments_same (Media start dur ∷ segments) (Empty other ∷ others) same = absurd same.0
  segments_same (Media start dur ∷ segments) (Media other_start other ∷ others) same =
      rw (
        scaled_pos start other_start scale other_scale a b unit.c (pos_injective _ _ same.0.0.crosswise) unit.a_is unit.b_is,
        scaled_pos dur other movie other_movie v w unit.e (pos_injective _ _ same.0.1.crosswise) unit.v_is unit.w_is,
        segments_same segments others same.1,
      ) refl

  edits_same : (length other_length : ℕ) (edits others : Option (List Segment)) → length * other_scale ≡ other_length * scale → IsSameEdits movie other_movie scale other_scale edits others
      → segments_of a v length edits ≡ segments_of b w other_length others
  edits_same length other_length None None lengths same = ap whole_media (scaled_pos length other_length scale other_scale a b unit.c lengths unit.a_is unit.b_is)
  edits_same length other_length None (Some others) lengths same = absurd same
  edits_same length other_length (Some edits) None lengths same = absurd same
  edits_same length other_length (Some edits) (Some others) lengths same = segments_same edits others same

  at_same : (time : Option ℕ) (sample other : SampleRecord) → IsSameSample scale other_scale sample other → is_at_some a time sample ≡ is_at_some b time other
  at_same None sample other same = refl
  at_same (Some time) sample other same =
      let comp = scaled_z sample.comp other.comp scale other_scale a b unit.c same.comp.crosswise unit.a_is unit.b_is in
      let dur = scaled_pos sample.dur other.dur scale other_scale a b unit.c (pos_injective _ _ same.dur.crosswise) unit.a_is unit.b_is in
      let end : (sample.comp +ℤ pos sample.dur) *ℤ pos a ≡ (other.comp +ℤ pos other.dur) *ℤ pos b = sym (sum-times sample.comp sample.dur a) ∙ (ap (λ (z : ℤ). z +ℤ pos (sample.dur * a)) comp ∙ (ap (λ (u : ℕ). other.comp *ℤ pos b +ℤ pos u) dur ∙ sum-times other.comp other.dur b)) in
      rw (comp, end) refl

-- ---- the latest end

behind-times : (z : ℤ) (k : ℕ) → not_before_start z * k ≡ not_before_start (z *ℤ pos k)
behind-times (pos n) k = refl
behind-times (negsuc n) k = omega arith ∙ sym (none (suc n * k))
  where
    none : (ticks : ℕ) → not_before_start (neg_ℤ (pos ticks)) ≡ 0
    none zero = refl
    none (suc ticks) = refl

max-times : (a b k : ℕ) → max a b * k ≡ max (a * k) (b * k)
max-times a b k = elim (cases_lt a b) [
  | inl lt ↦ let le = le-times a b k (omega (arith, lt)) in let m : max a b ≡ b = omega (arith, lt) in ap (λ (x : ℕ). x * k) m ∙ omega (arith, le)
  | inr ge ↦ let le = le-times b a k ge in let m : max a b ≡ a = omega (arith, ge) in ap (λ (x : ℕ). x * k) m ∙ omega (arith, le)
]

ends_same : (scale other_scale : ℕ) (samples others : List SampleRecord) → AllZip (IsSameSample scale other_scale) samples others → extent samples * other_scale ≡ extent others * scale
ends_same scale other_scale [] [] same = omega arith
ends_same scale other_scale [] (other ∷ others) same = absurd same
ends_same scale other_scale (sample ∷ samples) [] same = absurd same
ends_same scale other_scale (sample ∷ samples) (other ∷ others) same =
    max-times (not_before_start (sample.comp +ℤ pos sample.dur)) (extent samples) other_scale
    ∙ (ap (λ (x : ℕ). max x (extent samples * other_scale)) end ∙ (ap (max (not_before_start (other.comp +ℤ pos other.dur) * scale)) (ends_same scale other_scale samples others same.1)
    ∙ sym (max-times (not_before_start (other.comp +ℤ pos other.dur)) (extent others) scale)))
  where
    sum : (sample.comp +ℤ pos sample.dur) *ℤ pos other_scale ≡ (other.comp +ℤ pos other.dur) *ℤ pos scale
    sum = sym (sum-times sample.comp sample.dur other_scale)
        ∙ (ap (λ (z : ℤ). z +ℤ pos (sample.dur * other_scale)) same.0.comp.crosswise ∙ (ap (λ (u : ℕ). other.comp *ℤ pos scale +ℤ pos u) (pos_injective _ _ same.0.dur.crosswise) ∙ sum-times other.comp other.dur scale))

    end : not_before_start (sample.comp +ℤ pos sample.dur) * other_scale ≡ not_before_start (other.comp +ℤ pos other.dur) * scale
    end = behind-times (sample.comp +ℤ pos sample.dur) other_scale ∙ (ap not_before_start sum ∙ sym (behind-times (other.comp +ℤ pos other.dur) scale))

-- ---- all samples

filtered_same : (scale other_scale : ℕ) (entries : List (List ℕ)) (p q : SampleRecord → Bool) (samples others : List SampleRecord) → AllZip (IsSameSample scale other_scale) samples others
    → ((sample other : SampleRecord) → IsSameSample scale other_scale sample other → p sample ≡ q other)
    → map (seen entries) (filter p samples) ≡ map (seen entries) (filter q others)
filtered_same scale other_scale entries p q [] [] same each = refl
filtered_same scale other_scale entries p q [] (other ∷ others) same each = absurd same
filtered_same scale other_scale entries p q (sample ∷ samples) [] same each = absurd same
filtered_same scale other_scale entries p q (sample ∷ samples) (other ∷ others) same each =
    rw (each sample other same.0) (by (filtered_same scale other_scale entries p q samples others same.1 each) (q other))
  where
    at : seen entries sample ≡ seen entries other
    at = rw (same.0.bytes, same.0.entry) refl

    by : map (seen entries) (filter p samples) ≡ map (seen entries) (filter q others) → (b : Bool)
        → map (seen entries) (cond b (sample ∷ filter p samples) (filter p samples)) ≡ map (seen entries) (cond b (other ∷ filter q others) (filter q others))
    by rest true = ap (λ (x : Seen). x ∷ map (seen entries) (filter p samples)) at ∙ ap (λ (xs : List Seen). seen entries other ∷ xs) rest
    by rest false = rest

numbers_same : (scale other_scale number : ℕ) (p q : SampleRecord → Bool) (samples others : List SampleRecord) → AllZip (IsSameSample scale other_scale) samples others
    → ((sample other : SampleRecord) → IsSameSample scale other_scale sample other → p sample ≡ q other) → numbers_where p number samples ≡ numbers_where q number others
numbers_same scale other_scale number p q [] [] same each = refl
numbers_same scale other_scale number p q [] (other ∷ others) same each = absurd same
numbers_same scale other_scale number p q (sample ∷ samples) [] same each = absurd same
numbers_same scale other_scale number p q (sample ∷ samples) (other ∷ others) same each =
    rw (each sample other same.0, numbers_same scale other_scale (number + 1) p q samples others same.1 each) refl

-- ---- the tracks

in_unit_in_unit : (a b k : ℕ) (edits : List Segment) → map (in_unit k k) (map (in_unit a b) edits) ≡ map (in_unit (a * k) (b * k)) edits
in_unit_in_unit a b k [] = refl
in_unit_in_unit a b k (Empty dur ∷ edits) = rw (mul_assoc dur b k, in_unit_in_unit a b k edits) refl
in_unit_in_unit a b k (Media start dur ∷ edits) = rw (mul_assoc start a k, mul_assoc dur b k, in_unit_in_unit a b k edits) refl

media-finer : (length k : ℕ) → 0 < k → map (in_unit k k) (whole_media length) ≡ whole_media (length * k)
media-finer length k some = elim (cases_lt 0 length) [
  | inl lt ↦ let front : 0 * k ≡ 0 = omega arith in rw (lt-ltb 0 length lt, lt-ltb 0 (length * k) (times_some length k lt some), front) refl
  | inr le ↦ let front : 0 * k ≡ 0 = omega arith in let none : length ≡ 0 = omega (arith, le) in rw (none, front) refl
]

segments_of-finer : (a b length k : ℕ) (edits : Option (List Segment)) → 0 < k → map (in_unit k k) (segments_of a b length edits) ≡ segments_of (a * k) (b * k) length edits
segments_of-finer a b length k None some = media-finer (length * a) k some ∙ ap whole_media (mul_assoc length a k)
segments_of-finer a b length k (Some edits) some = in_unit_in_unit a b k edits

total-finer : (k : ℕ) (segments : List Segment) → total (map (in_unit k k) segments) ≡ total segments * k
total-finer k [] = omega arith
total-finer k (segment ∷ segments) =
    sum_by-cons duration (in_unit k k segment) (map (in_unit k k) segments)
    ∙ (ap (λ (x : ℕ). x + total (map (in_unit k k) segments)) (one segment) ∙ (ap (λ (x : ℕ). duration segment * k + x) (total-finer k segments)
    ∙ (sym (add-mul (duration segment) (total segments) k) ∙ ap (λ (x : ℕ). x * k) (sym (sum_by-cons duration segment segments)))))
  where
    one : (segment : Segment) → duration (in_unit k k segment) ≡ duration segment * k
    one (Empty dur) = refl
    one (Media start dur) = refl

module _ (movie other_movie : ℕ) (track other : TrackRecord) (same : HasSameTimes movie other_movie track other) where
  lengths : extent track.samples * other.scale ≡ extent other.samples * track.scale
  lengths = ends_same track.scale other.scale track.samples other.samples same.samples

  -- the units of two moments, and one for both
  module _ (n d m e : ℕ) (some_d : 0 < d) (some_e : 0 < e) (moment : n * e ≡ m * d) where
    k : ℕ
    k = e * (other_movie * other.scale)

    l : ℕ
    l = d * (movie * track.scale)

    some_k : 0 < k
    unfolding k
    some_k = times_some e (other_movie * other.scale) some_e (times_some other_movie other.scale same.some_other_movie same.some_other_scale)

    some_l : 0 < l
    unfolding l
    some_l = times_some d (movie * track.scale) some_d (times_some movie track.scale same.some_movie same.some_scale)

    unit : IsUnit track.scale other.scale movie other_movie (movie * d * k) (other_movie * e * l) (track.scale * d * k) (other.scale * e * l)
    unfolding k l
    unit = record {
      c = movie * d * (e * other_movie);
      e = track.scale * d * (e * other.scale);
      a_is = omega arith;
      b_is = omega arith;
      v_is = omega arith;
      w_is = omega arith;
    }

    segments_same_in : map (in_unit k k) (explicit movie track d) ≡ map (in_unit l l) (explicit other_movie other e)
    segments_same_in =
        segments_of-finer (movie * d) (track.scale * d) (extent track.samples) k track.edits some_k
        ∙ (edits_same track.scale other.scale movie other_movie (movie * d * k) (other_movie * e * l) (track.scale * d * k) (other.scale * e * l) unit (extent track.samples) (extent other.samples) track.edits other.edits lengths same.edits
        ∙ sym (segments_of-finer (other_movie * e) (other.scale * e) (extent other.samples) l other.edits some_l))

    moments : n * (movie * track.scale) * k ≡ m * (other_movie * other.scale) * l
    unfolding k l
    moments = regroup n (movie * track.scale) e (other_movie * other.scale) ∙ (ap (λ (x : ℕ). x * (movie * track.scale * (other_movie * other.scale))) moment ∙ regroup_back m d (movie * track.scale) (other_movie * other.scale))
      where
        regroup : (x s y t : ℕ) → x * s * (y * t) ≡ x * y * (s * t)
        regroup x s y t = omega arith

        regroup_back : (x y s t : ℕ) → x * y * (s * t) ≡ x * t * (y * s)
        regroup_back x y s t = omega arith

    each : (sample one : SampleRecord) → IsSameSample track.scale other.scale sample one → is_shown movie track n d sample ≡ is_shown other_movie other m e one
    each sample one is =
        sym (at-finer (movie * d) k (media_time (explicit movie track d) (n * (movie * track.scale))) sample some_k)
        ∙ (ap (λ (time : Option ℕ). is_at_some (movie * d * k) time sample) time
        ∙ (at_same track.scale other.scale movie other_movie (movie * d * k) (other_movie * e * l) (track.scale * d * k) (other.scale * e * l) unit _ sample one is
        ∙ at-finer (other_movie * e) l (media_time (explicit other_movie other e) (m * (other_movie * other.scale))) one some_l))
      where
        time : times k (media_time (explicit movie track d) (n * (movie * track.scale))) ≡ times l (media_time (explicit other_movie other e) (m * (other_movie * other.scale)))
        time =
            sym (time-finer k (explicit movie track d) (n * (movie * track.scale)) some_k)
            ∙ (ap (λ (segments : List Segment). media_time segments (n * (movie * track.scale) * k)) segments_same_in
            ∙ (ap (media_time (map (in_unit l l) (explicit other_movie other e))) moments ∙ time-finer l (explicit other_movie other e) (m * (other_movie * other.scale)) some_l))

  shown_same : (n d m e : ℕ) → 0 < d → 0 < e → n * e ≡ m * d → shown movie track n d ≡ shown other_movie other m e
  shown_same n d m e some_d some_e moment =
      filtered_same track.scale other.scale track.entries (is_shown movie track n d) (is_shown other_movie other m e) track.samples other.samples same.samples (each n d m e some_d some_e moment)
      ∙ ap (λ (entries : List (List ℕ)). map (seen entries) (filter (is_shown other_movie other m e) other.samples)) same.entries

  total_same : total (explicit movie track 1) * (other_movie * other.scale) ≡ total (explicit other_movie other 1) * (movie * track.scale)
  unfolding k l
  total_same =
      let one : (x : ℕ) → 1 * x ≡ x = λ x. omega arith in
      ap (λ (x : ℕ). total (explicit movie track 1) * x) (sym (one (other_movie * other.scale))) ∙ (sym (total-finer (1 * (other_movie * other.scale)) (explicit movie track 1))
      ∙ (ap total (segments_same_in 0 1 0 1 (omega arith) (omega arith) refl) ∙ (total-finer (1 * (movie * track.scale)) (explicit other_movie other 1) ∙ ap (λ (x : ℕ). total (explicit other_movie other 1) * x) (one (movie * track.scale)))))

  pub shows_the_same : ShowsTheSame movie other_movie track other
  shows_the_same = record {
    shown = λ n d m e is. shown_same n d m e is.positive is.other_positive (pos_injective _ _ is.crosswise);
    numbers = λ n d m e is.
        numbers_same track.scale other.scale 1 (is_shown movie track n d) (is_shown other_movie other m e) track.samples other.samples same.samples
        (each n d m e is.positive is.other_positive (pos_injective _ _ is.crosswise));
    total = record { positive = times_some movie track.scale same.some_movie same.some_scale; other_positive = times_some other_movie other.scale same.some_other_movie same.some_other_scale; crosswise = ap pos total_same };
    extent = record { positive = same.some_scale; other_positive = same.some_other_scale; crosswise = ap pos lengths };
  }
