-- What a track stands for in ticks of another scale.
use Rattle.std.proofs.Common.{◌≡◌, ℕ, zero, suc, ◌+◌, ◌*◌, ◌/◌, ◌<◌, ℤ, pos, negsuc, neg_ℤ, ◌+ℤ◌, ◌*ℤ◌, int_div, All, List, [], ◌∷◌, length, map, take, Option, refl, sym, ap, ◌∙◌, subst, arith}
use Rattle.std.specs.Prelude.{slice_index, slice_index_or, sum, unsigned_abs}
use Rattle.std.specs.Int.{◌∣◌}
use Rattle.std.specs.List.{range_with_len}
use Rattle.std.proofs.Math.Nat.{div-mul_cancel, mul-div_cancel, zero-div, add-mul, dvd-add, dvd-zero}
use Rattle.std.proofs.Math.IntN.{pos-*ℤ-pos, negsuc-*ℤ-pos}
use Rattle.std.proofs.lemmas.Int.{ints}
use Rattle.std.proofs.lemmas.List.{length-map}
use Rattle.std.proofs.lemmas.List.Sums.{sum_by-cons}
use Rattle.std.proofs.lemmas.List.Elements.{All-cons, All-nil}
use Rattle.mp_timeline.specs.declared.segment.Segment.{Segment}
use Rattle.mp_timeline.specs.Movie.{SampleRecord}
use Rattle.mp_movie.specs.Placed.{PlacedTrack, naturals}
use Rattle.mp_movie.specs.StandsFor.{sample_at, samples_of, track_for}
use Rattle.mp_movie.specs.WholeParts.{AreColumns, IsNatural}
use Rattle.track_ops.specs.KeptTimes.{IsWholeIn, column_in_scale, kept_retimed}
use Rattle.track_ops.specs.Scales.{in_scale}
use Rattle.track_ops.specs.Ticks.{in_track_scale, sample_in_scale, signed_in_scale}
use Rattle.track_ops.proofs.SignedTicks.{neg_times, signed_abs, signed_neg, signed_pos}

-- ---- sums

mul_suc : (v : ℤ) (n : ℕ) → v *ℤ pos (suc n) ≡ v *ℤ pos n +ℤ v
mul_suc v n = omega (arith, ints)

sum_times : (a : ℤ) (u k : ℕ) → (pos u +ℤ a) *ℤ pos k ≡ pos (u * k) +ℤ a *ℤ pos k
sum_times a u zero = omega (arith, ints)
sum_times a u (suc k) =
    let h = sum_times a u k in
    let p = mul_suc a k in
    let q = mul_suc (pos u +ℤ a) k in
    let r : u * suc k ≡ u * k + u = omega arith in
    omega (arith, ints)

back : (t : ℤ) (k : ℕ) → 0 < k → int_div (t *ℤ pos k) (pos k) ≡ t
back (pos n) k some = ap (λ (x : ℤ). int_div x (pos k)) (pos-*ℤ-pos n k) ∙ ap (λ (m : ℕ). pos m) (mul-div_cancel n some)
back (negsuc n) k some = ap (λ (x : ℤ). int_div x (pos k)) (negsuc-*ℤ-pos n k) ∙ (by (suc n * k) ∙ ap (λ (m : ℕ). neg_ℤ (pos m)) (mul-div_cancel (suc n) some))
  where
    by : (m : ℕ) → int_div (neg_ℤ (pos m)) (pos k) ≡ neg_ℤ (pos (m / k))
    by zero = rw (zero-div k) refl
    by (suc m) = refl

pub signed_exact : (old new : ℕ) (x : ℤ) → IsWholeIn old new x → signed_in_scale old new x *ℤ pos old ≡ x *ℤ pos new
signed_exact old new (pos n) whole =
    ap (λ (z : ℤ). z *ℤ pos old) (signed_pos old new n) ∙ (pos-*ℤ-pos (in_scale old new n) old ∙ (ap pos (div-mul_cancel old whole) ∙ sym (pos-*ℤ-pos n new)))
signed_exact old new (negsuc n) whole =
    ap (λ (z : ℤ). z *ℤ pos old) (signed_neg old new n)
    ∙ (neg_times (in_scale old new (suc n)) old ∙ (ap (λ (m : ℕ). neg_ℤ (pos m)) (div-mul_cancel old whole) ∙ sym (negsuc-*ℤ-pos n new)))

-- a composition time, by its decode time and its offset
signed_sum : (old new d : ℕ) (x : ℤ) → 0 < old → old ∣ d * new → IsWholeIn old new x → signed_in_scale old new (pos d +ℤ x) ≡ pos (in_scale old new d) +ℤ signed_in_scale old new x
signed_sum old new d x some first second =
    ap (λ (z : ℤ). int_div z (pos old))
    (sum_times x d new ∙ (ap (λ (n : ℕ). pos n +ℤ x *ℤ pos new) (sym (div-mul_cancel old first))
    ∙ (ap (λ (z : ℤ). pos (in_scale old new d * old) +ℤ z) (sym (signed_exact old new x second)) ∙ sym (sum_times (signed_in_scale old new x) (in_scale old new d) old))))
    ∙ back (pos (in_scale old new d) +ℤ signed_in_scale old new x) old some

none_in_scale : (old new : ℕ) → in_scale old new 0 ≡ 0
none_in_scale old new = let none : 0 * new ≡ 0 = omega arith in ap (λ (n : ℕ). n / old) none ∙ zero-div old

sum_in_scale : (old new a b : ℕ) → 0 < old → old ∣ a * new → old ∣ b * new → in_scale old new (a + b) ≡ in_scale old new a + in_scale old new b
sum_in_scale old new a b some first second =
    ap (λ (n : ℕ). n / old)
    (add-mul a b new ∙ (ap (λ (n : ℕ). n + b * new) (sym (div-mul_cancel old first))
    ∙ (ap (λ (n : ℕ). in_scale old new a * old + n) (sym (div-mul_cancel old second)) ∙ sym (add-mul (in_scale old new a) (in_scale old new b) old))))
    ∙ mul-div_cancel (in_scale old new a + in_scale old new b) some

-- ---- columns

naturals_in_scale : (old new : ℕ) (column : List ℤ) → naturals (column_in_scale old new column) ≡ map (in_scale old new) (naturals column)
naturals_in_scale old new [] = refl
naturals_in_scale old new (x ∷ column) = cons (signed_abs old new x) (naturals_in_scale old new column)
  where
    cons : {a b : ℕ} {xs ys : List ℕ} → a ≡ b → xs ≡ ys → a ∷ xs ≡ b ∷ ys
    cons p q = λ i. p i ∷ q i

index_in_scale : (old new : ℕ) (numbers : List ℕ) (i : ℕ) → slice_index (map (in_scale old new) numbers) i ≡ in_scale old new (slice_index numbers i)
index_in_scale old new [] i = sym (none_in_scale old new)
index_in_scale old new (n ∷ numbers) zero = refl
index_in_scale old new (n ∷ numbers) (suc i) = index_in_scale old new numbers i

signed_index : (old new : ℕ) (column : List ℤ) (i : ℕ) → slice_index_or (column_in_scale old new column) i (pos 0) ≡ signed_in_scale old new (slice_index_or column i (pos 0))
signed_index old new [] i = sym (signed_pos old new 0 ∙ ap pos (none_in_scale old new))
signed_index old new (x ∷ column) zero = refl
signed_index old new (x ∷ column) (suc i) = signed_index old new column i

whole_index : (old new : ℕ) (column : List ℤ) (i : ℕ) → All (IsWholeIn old new) column → IsWholeIn old new (slice_index_or column i (pos 0))
whole_index old new [] i whole = let none : 0 * new ≡ 0 = omega arith in subst (λ (n : ℕ). old ∣ n) (sym none) (dvd-zero old)
whole_index old new (x ∷ column) zero whole = whole 0 x (omega arith)
whole_index old new (x ∷ column) (suc i) whole = whole_index old new column i (λ j d lt. whole (suc j) d (omega (arith, lt)))

sum_cons : (n : ℕ) (ns : List ℕ) → sum (n ∷ ns) ≡ n + sum ns
sum_cons n ns = sum_by-cons (λ (x : ℕ). x) n ns

-- the sum of the first ones
pub whole_sum : (old new : ℕ) (column : List ℤ) (i : ℕ) → All (IsWholeIn old new) column → old ∣ sum (take i (naturals column)) * new
whole_sum old new column zero whole = let none : 0 * new ≡ 0 = omega arith in subst (λ (n : ℕ). old ∣ n) (sym none) (dvd-zero old)
whole_sum old new [] (suc i) whole = let none : 0 * new ≡ 0 = omega arith in subst (λ (n : ℕ). old ∣ n) (sym none) (dvd-zero old)
whole_sum old new (x ∷ column) (suc i) whole =
    subst (λ (n : ℕ). old ∣ n * new) (sym (sum_cons (unsigned_abs x) (take i (naturals column))))
    (subst (λ (n : ℕ). old ∣ n) (sym (add-mul (unsigned_abs x) (sum (take i (naturals column))) new))
    (dvd-add old (whole 0 x (omega arith)) (whole_sum old new column i (λ j d lt. whole (suc j) d (omega (arith, lt))))))

decode_in_scale : (old new : ℕ) (column : List ℤ) (i : ℕ) → 0 < old → All (IsWholeIn old new) column
    → sum (take i (map (in_scale old new) (naturals column))) ≡ in_scale old new (sum (take i (naturals column)))
decode_in_scale old new column zero some whole = sym (none_in_scale old new)
decode_in_scale old new [] (suc i) some whole = sym (none_in_scale old new)
decode_in_scale old new (x ∷ column) (suc i) some whole =
    let rest : All (IsWholeIn old new) column = λ j d lt. whole (suc j) d (omega (arith, lt)) in
    sum_cons (in_scale old new (unsigned_abs x)) (take i (map (in_scale old new) (naturals column)))
    ∙ (ap (λ (n : ℕ). in_scale old new (unsigned_abs x) + n) (decode_in_scale old new column i some rest)
    ∙ (sym (sum_in_scale old new (unsigned_abs x) (sum (take i (naturals column))) some (whole 0 x (omega arith)) (whole_sum old new column i rest)) ∙ ap (in_scale old new) (sym (sum_cons (unsigned_abs x) (take i (naturals column))))))

-- ---- samples

module _ (files : List (List ℕ)) (track : PlacedTrack) (new : ℕ) (edits : Option (List Segment)) (some : 0 < track.scale) (deltas : All (IsWholeIn track.scale new) track.deltas) (offsets : All (IsWholeIn track.scale new) track.offsets) where
  sample_retimed : (before : ℕ) → sample_at files (kept_retimed new edits track) before ≡ sample_in_scale track.scale new (sample_at files track before)
  unfolding sample_at
  sample_retimed before =
      let decode = ap (λ (ns : List ℕ). sum (take before ns)) (naturals_in_scale track.scale new track.deltas) ∙ decode_in_scale track.scale new track.deltas before some deltas in
      let dur = ap (λ (ns : List ℕ). slice_index ns before) (naturals_in_scale track.scale new track.deltas) ∙ index_in_scale track.scale new (naturals track.deltas) before in
      let comp =
      ap (λ (n : ℕ). pos n +ℤ slice_index_or (column_in_scale track.scale new track.offsets) before (pos 0)) decode
      ∙ (ap (λ (z : ℤ). pos (in_scale track.scale new (sum (take before (naturals track.deltas)))) +ℤ z) (signed_index track.scale new track.offsets before)
      ∙ sym (signed_sum track.scale new (sum (take before (naturals track.deltas))) (slice_index_or track.offsets before (pos 0)) some (whole_sum track.scale new track.deltas before deltas)
      (whole_index track.scale new track.offsets before offsets))) in
      λ i. record (sample_at files track before) { decode = decode i; dur = dur i; comp = comp i }

  samples_retimed : (ns : List ℕ) → map (sample_at files (kept_retimed new edits track)) ns ≡ map (sample_in_scale track.scale new) (map (sample_at files track) ns)
  samples_retimed [] = refl
  samples_retimed (n ∷ ns) = cons (sample_retimed n) (samples_retimed ns)
    where
      cons : {a b : SampleRecord} {xs ys : List SampleRecord} → a ≡ b → xs ≡ ys → a ∷ xs ≡ b ∷ ys
      cons p q = λ i. p i ∷ q i

  pub retimed_samples : samples_of files (kept_retimed new edits track) ≡ map (sample_in_scale track.scale new) (samples_of files track)
  unfolding samples_of
  retimed_samples =
      ap (λ (n : ℕ). map (sample_at files (kept_retimed new edits track)) (range_with_len 0 n)) (length-map track.deltas (signed_in_scale track.scale new))
      ∙ samples_retimed (range_with_len 0 (length track.deltas))

  -- it stands for the track in ticks of that scale, with these edits
  pub stands_retimed : track_for files (kept_retimed new edits track) ≡ record (in_track_scale new (track_for files track)) { edits = edits }
  stands_retimed = ap (λ (samples : List SampleRecord). record (track_for files track) { scale = new; samples = samples; edits = edits }) retimed_samples

-- ---- the columns are columns

naturals_stay : (old new : ℕ) (column : List ℤ) → All IsNatural column → All IsNatural (column_in_scale old new column)
naturals_stay old new [] natural = All-nil IsNatural
naturals_stay old new (x ∷ column) natural =
    All-cons IsNatural (signed_in_scale old new x) (column_in_scale old new column) (one x (natural 0 x (omega arith))) (naturals_stay old new column (λ i d lt. natural (suc i) d (omega (arith, lt))))
  where
    one : (x : ℤ) → IsNatural x → IsNatural (signed_in_scale old new x)
    one (pos n) h = subst IsNatural (sym (signed_pos old new n)) (omega (arith, ints))
    one (negsuc n) h = absurd (omega (arith, ints, h))

pub columns_retimed : (track : PlacedTrack) (new : ℕ) (edits : Option (List Segment)) → AreColumns track → AreColumns (kept_retimed new edits track)
columns_retimed track new edits h =
    let many = length-map track.deltas (signed_in_scale track.scale new) in
    let as_many = length-map track.offsets (signed_in_scale track.scale new) in
    record {
      deltas = naturals_stay track.scale new track.deltas h.deltas;
      offsets_len = as_many ∙ (h.offsets_len ∙ sym many);
      syncs_len = h.syncs_len ∙ sym many;
      syncs = h.syncs;
      kinds_len = h.kinds_len ∙ sym many;
      kinds = h.kinds;
      counts_len = h.counts_len ∙ sym many;
      counts = h.counts;
      counted = h.counted;
      sizes_len = h.sizes_len ∙ sym many;
      sizes = λ before lt. h.sizes before (subst (λ (n : ℕ). before < n) many lt);
    }
