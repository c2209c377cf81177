-- A cut told in ticks of its scales is what is kept of the track: samples, and pieces further to the front.
use Rattle.std.proofs.Common.{◌≡◌, ℕ, ℤ, zero, suc, pos, negsuc, neg_ℤ, ◌+◌, ◌-◌, ◌*◌, ◌/◌, ◌<◌, ◌≤◌, min, ◌+ℤ◌, ◌-ℤ◌, ◌*ℤ◌, ◌≤ℤ◌, List, [], ◌∷◌, map, refl, sym, ap, ◌∙◌, arith, subst, inl, inr}
use Rattle.std.specs.Prelude.{int_div, unsigned_abs}
use Rattle.std.specs.List.{AllByRecursion, AllZip}
use Rattle.std.proofs.Math.IntN.{negsuc-*ℤ-pos}
use Rattle.std.proofs.Math.Nat.{add-mul, mul-div_cancel, mul_assoc, zero-div}
use Rattle.std.proofs.lemmas.Bool.{cases_lt}
use Rattle.std.proofs.lemmas.Int.{ints}
use Rattle.mp_timeline.specs.declared.segment.Segment.{Segment}
use Rattle.mp_timeline.specs.declared.segment.Segment.TheVariants.{Empty, Media}
use Rattle.mp_timeline.specs.Movie.{SampleRecord}
use Rattle.mp_timeline.specs.Same.{IsSameTicks, IsSameSegment}
use Rattle.mp_edits.specs.Segments.{shifted}
use Rattle.mp_shown.specs.Law.{finer_sample}
use Rattle.mp_clip.specs.Clipped.{TellsBack, later, starts}
use Rattle.mp_clip.specs.Shape.{least}
use Rattle.track_ops.specs.Scales.{in_scale}
use Rattle.track_ops.specs.Delay.{told}
use Rattle.track_ops.specs.Ticks.{sample_in_scale}
use Rattle.track_ops.specs.Told.{or_empty}
use Rattle.cut_op.specs.Track.{moved_sample}
use Rattle.cut_op.proofs.KeptSamples.{recast}
use Rattle.cut_op.proofs.Moving.{AllFrom, least-from}
use Rattle.cut_op.proofs.Units.{add-times, le-times, sub-times, times_times}

pos_same : (a b : ℕ) → pos a ≡ pos b → a ≡ b
pos_same a b e = omega (arith, ints, e)

-- ---- whole quotients

int_quotient : (z : ℤ) (u : ℕ) → 0 < u → int_div (z *ℤ pos u) (pos u) ≡ z
int_quotient (pos n) u some = ap pos (mul-div_cancel n some)
int_quotient (negsuc n) u some =
    ap (λ (z : ℤ). int_div z (pos u)) (negsuc-*ℤ-pos n u) ∙ (below (suc n * u) ∙ ap (λ (m : ℕ). neg_ℤ (pos m)) (mul-div_cancel (suc n) some))
  where
    below : (m : ℕ) → int_div (neg_ℤ (pos m)) (pos u) ≡ neg_ℤ (pos (m / u))
    below zero = rw (zero-div u) refl
    below (suc m) = refl

pub sub_z-times : (a b : ℤ) (k : ℕ) → (a -ℤ b) *ℤ pos k ≡ a *ℤ pos k -ℤ b *ℤ pos k
sub_z-times a b k =
    let whole : (a -ℤ b) +ℤ b ≡ a = omega (arith, ints) in
    let product : a *ℤ pos k ≡ (a -ℤ b) *ℤ pos k +ℤ b *ℤ pos k = ap (λ (z : ℤ). z *ℤ pos k) (sym whole) ∙ add-times (a -ℤ b) b k in
    omega (arith, ints, product)

-- a second has `w` of the unit for a tick of the track, and the new scale has `factor` ticks for it; `first` old ticks are before the
-- first kept sample, and the least start is `low` of the unit and `least_ticks` new ticks
module _ (scale w factor first low least_ticks : ℕ) (some_scale : 0 < scale) (some_w : 0 < w) (same : low * (scale * factor) ≡ least_ticks * (w * scale)) where
  abbrev pub unit : ℕ
  unit = w * scale

  abbrev pub new_scale : ℕ
  new_scale = scale * factor

  abbrev pub late : ℕ
  late = first * w - low

  abbrev pub back : ℕ
  back = min (first * factor) least_ticks

  abbrev pub ahead : ℕ
  ahead = first * factor - back

  some_unit : 0 < unit
  some_unit = some_product w scale some_w some_scale
    where
      some_product : (a b : ℕ) → 0 < a → 0 < b → 0 < a * b
      some_product a b p q = grind arith

  in_new : (x : ℕ) → in_scale unit new_scale (x * w) ≡ x * factor
  in_new x =
      let product : x * w * new_scale ≡ x * factor * unit = turn x w scale factor in
      ap (λ (n : ℕ). n / unit) product ∙ mul-div_cancel (x * factor) some_unit
    where
      turn : (x w s f : ℕ) → x * w * (s * f) ≡ x * f * (w * s)
      turn x w s f = omega arith

  first_is : first * w * new_scale ≡ first * factor * unit
  first_is = turn first w scale factor
    where
      turn : (x w s f : ℕ) → x * w * (s * f) ≡ x * f * (w * s)
      turn x w s f = omega arith

  late_is : late * new_scale ≡ ahead * unit
  late_is =
      let difference : first * factor - least_ticks ≡ ahead = omega arith in
      sym (sub-times (first * w) low new_scale) ∙ (ap (λ (x : ℕ). x - low * new_scale) first_is
      ∙ (ap (λ (x : ℕ). first * factor * unit - x) same ∙ (sub-times (first * factor) least_ticks unit ∙ ap (λ (x : ℕ). x * unit) difference)))

  comp_is : (comp : ℤ) → (comp *ℤ pos w +ℤ (pos late -ℤ pos (first * w))) *ℤ pos new_scale ≡ ((comp -ℤ pos first) *ℤ pos factor +ℤ pos ahead) *ℤ pos unit
  comp_is comp =
      let left = add-times (comp *ℤ pos w) (pos late -ℤ pos (first * w)) new_scale in
      let left_back = sub_z-times (pos late) (pos (first * w)) new_scale in
      let right = add-times ((comp -ℤ pos first) *ℤ pos factor) (pos ahead) unit in
      let right_back : (comp -ℤ pos first) *ℤ pos factor *ℤ pos unit ≡ comp *ℤ pos (factor * unit) -ℤ pos (first * factor * unit) =
      ap (λ (z : ℤ). z *ℤ pos unit) (sub_z-times comp (pos first) factor) ∙ (sub_z-times (comp *ℤ pos factor) (pos (first * factor)) unit ∙ ap (λ (z : ℤ). z -ℤ pos (first * factor * unit)) (times_times comp factor unit)) in
      let middle : comp *ℤ pos w *ℤ pos new_scale ≡ comp *ℤ pos (factor * unit) = times_times comp w new_scale ∙ ap (λ (k : ℕ). comp *ℤ pos k) (turn w scale factor) in
      let late_ticks : pos late *ℤ pos new_scale ≡ pos ahead *ℤ pos unit = ap pos late_is in
      let first_ticks : pos (first * w) *ℤ pos new_scale ≡ pos (first * factor * unit) = ap pos first_is in
      rw (left, left_back, right, right_back, middle, late_ticks, first_ticks) (omega (arith, ints))
    where
      turn : (w s f : ℕ) → w * (s * f) ≡ f * (w * s)
      turn w s f = omega arith

  one_told : (sample : SampleRecord) → sample_in_scale unit new_scale (moved_sample (first * w) late (finer_sample w sample)) ≡ recast first factor ahead sample
  one_told sample =
      let decode : in_scale unit new_scale (sample.decode * w - first * w) ≡ (sample.decode - first) * factor = ap (in_scale unit new_scale) (sub-times sample.decode first w) ∙ in_new (sample.decode - first) in
      let dur = in_new sample.dur in
      let comp : int_div ((sample.comp *ℤ pos w +ℤ (pos late -ℤ pos (first * w))) *ℤ pos new_scale) (pos unit) ≡ (sample.comp -ℤ pos first) *ℤ pos factor +ℤ pos ahead =
      ap (λ (z : ℤ). int_div z (pos unit)) (comp_is sample.comp) ∙ int_quotient ((sample.comp -ℤ pos first) *ℤ pos factor +ℤ pos ahead) unit some_unit in
      λ k. record { bytes = sample.bytes; decode = decode k; dur = dur k; comp = comp k; sync = sample.sync; entry = sample.entry }

  pub samples_told : (samples : List SampleRecord) → map (sample_in_scale unit new_scale) (map (moved_sample (first * w) late) (map (finer_sample w) samples)) ≡ map (recast first factor ahead) samples
  samples_told [] = refl
  samples_told (sample ∷ samples) = rw (one_told sample, samples_told samples) refl

  -- ---- segments

  back_is : ahead + back ≡ first * factor
  back_is = omega arith

  start_is : (start at : ℕ) → low ≤ start → start * new_scale ≡ (at + back) * unit → in_scale unit new_scale (unsigned_abs (pos start +ℤ (pos late -ℤ pos (first * w)))) ≡ at
  start_is start at le told =
      let moved : unsigned_abs (pos start +ℤ (pos late -ℤ pos (first * w))) ≡ start - (first * w - late) = moved_back start (first * w) low le in
      let fall : (first * w - late) * new_scale ≡ back * unit =
      sym (sub-times (first * w) late new_scale)
      ∙ (ap (λ (x : ℕ). x - late * new_scale) first_is
      ∙ (ap (λ (x : ℕ). first * factor * unit - x) late_is ∙ (sub-times (first * factor) ahead unit ∙ ap (λ (x : ℕ). x * unit) rest))) in
      let product : (start - (first * w - late)) * new_scale ≡ at * unit =
      sym (sub-times start (first * w - late) new_scale)
      ∙ (ap (λ (x : ℕ). x - (first * w - late) * new_scale) told
      ∙ (ap (λ (x : ℕ). (at + back) * unit - x) fall ∙ (sub-times (at + back) back unit ∙ ap (λ (x : ℕ). x * unit) (less at back)))) in
      ap (in_scale unit new_scale) moved ∙ (ap (λ (x : ℕ). x / unit) product ∙ mul-div_cancel at some_unit)
    where
      moved_back : (s b l : ℕ) → l ≤ s → unsigned_abs (pos s +ℤ (pos (b - l) -ℤ pos b)) ≡ s - (b - (b - l))
      moved_back s b l le = omega (arith, ints, le)

      less : (a b : ℕ) → a + b - b ≡ a
      less a b = omega arith

      rest : first * factor - ahead ≡ back
      rest = omega arith

  one_segment : (movie : ℕ) (piece made : Segment) → AllFrom low (starts (piece ∷ [])) → IsSameSegment unit movie unit new_scale piece (later back made)
      → told unit new_scale movie (shifted (pos late -ℤ pos (first * w)) piece) ≡ made
  one_segment movie (Empty dur) (Empty made) from is = ap Empty (ap (λ (x : ℕ). x / unit) (pos_same (dur * movie) (made * unit) is.crosswise) ∙ mul-div_cancel made some_unit)
  one_segment movie (Media start dur) (Media at made) from is =
      let begin = start_is start at from.0 (pos_same (start * new_scale) ((at + back) * unit) is.0.crosswise) in
      let lasts : in_scale unit movie dur ≡ made = ap (λ (x : ℕ). x / unit) (pos_same (dur * movie) (made * unit) is.1.crosswise) ∙ mul-div_cancel made some_unit in
      ap (λ (x : ℕ). Media x (in_scale unit movie dur)) begin ∙ ap (Media at) lasts
  one_segment movie (Empty dur) (Media at made) from is = absurd is
  one_segment movie (Media start dur) (Empty made) from is = absurd is

  each_segment : (movie : ℕ) (pieces made : List Segment) → AllFrom low (starts pieces) → TellsBack unit new_scale movie back pieces made
      → map (told unit new_scale movie) (map (shifted (pos late -ℤ pos (first * w))) pieces) ≡ made
  each_segment movie [] [] from told = refl
  each_segment movie [] (one ∷ made) from told = absurd told
  each_segment movie (piece ∷ pieces) [] from told = absurd told
  each_segment movie (Empty dur ∷ pieces) (one ∷ made) from told =
      rw (one_segment movie (Empty dur) one tt told.0, each_segment movie pieces made from told.1) refl
  each_segment movie (Media start dur ∷ pieces) (one ∷ made) from told =
      rw (one_segment movie (Media start dur) one (from.0, tt) told.0, each_segment movie pieces made from.1 told.1) refl

  pub segments_told : (movie : ℕ) (pieces made : List Segment) → low ≡ least (starts pieces) → TellsBack unit new_scale movie back pieces made
      → map (told unit new_scale movie) (or_empty (map (shifted (pos late -ℤ pos (first * w))) pieces)) ≡ or_empty made
  segments_told movie [] [] is told = ap (λ (x : ℕ). Empty x ∷ []) none
    where
      none : in_scale unit movie 0 ≡ 0
      none = let nothing : 0 * movie ≡ 0 = omega arith in ap (λ (x : ℕ). x / unit) nothing ∙ zero-div unit
  segments_told movie [] (one ∷ made) is told = absurd told
  segments_told movie (piece ∷ pieces) [] is told = absurd told
  segments_told movie (piece ∷ pieces) (one ∷ made) is told =
      each_segment movie (piece ∷ pieces) (one ∷ made) (subst (λ (x : ℕ). AllFrom x (starts (piece ∷ pieces))) (sym is) (least-from (starts (piece ∷ pieces)))) told
