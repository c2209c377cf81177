-- A track in ticks of scales in which its times are whole has the same times.
use Rattle.std.proofs.Common.{◌≡◌, ℕ, zero, suc, ◌+◌, ◌*◌, ◌/◌, ◌%◌, ◌<◌, ◌≤◌, Bool, true, false, eqb, List, [], ◌∷◌, map, Option, Some, None, ℤ, pos, negsuc, neg_ℤ, ◌*ℤ◌, int_div, refl, sym, ap, subst, ◌∙◌, arith}
use Rattle.std.specs.Prelude.{option_map}
use Rattle.std.specs.List.{AllZip, list_all, flat_map, find, range_with_len}
use Rattle.std.proofs.Math.Nat.{div-mul_cancel, mul-pos, zero-div}
use Rattle.std.proofs.Math.IntN.{negsuc-*ℤ-pos}
use Rattle.std.proofs.lemmas.Nat.Gcd.{dvd_of_mod-eq-zero}
use Rattle.std.proofs.lemmas.Bool.{eqb-true}
use Rattle.std.proofs.lemmas.Int.{ints}
use Rattle.std.proofs.lemmas.List.Folds.{list_all-append}
use Rattle.mp_frac.specs.declared.time.Frac.{Frac}
use Rattle.mp_frac.specs.Time.{in_ticks}
use Rattle.mp_timeline.specs.declared.segment.Segment.{Segment}
use Rattle.mp_timeline.specs.declared.segment.Segment.TheVariants.{Empty, Media}
use Rattle.mp_timeline.specs.Movie.{SampleRecord, TrackRecord}
use Rattle.mp_timeline.specs.Same.{IsSameTicks, IsSameSample, IsSameSegment, IsSameEdits}
use Rattle.mp_edits.specs.EditBox.{segments_in}
use Rattle.mp_edits.specs.Segments.{duration}
use Rattle.mp_shown.specs.Law.{HasSameTimes}
use Rattle.mp_clip.specs.Clipped.{as_times, starts}
use Rattle.track_ops.specs.Scales.{edit_times, in_scale, is_whole, settled}
use Rattle.track_ops.specs.Delay.{told}
use Rattle.track_ops.specs.Ticks.{sample_in_scale, sample_times, track_times}
use Rattle.track_ops.specs.Told.{IsSettled, SettledTimesAreKept, told_track}
use Rattle.track_ops.proofs.LeastScales.{both}

-- ---- ticks

whole_quotient : (product unit : ℕ) → eqb (product % unit) 0 ≡ true → product / unit * unit ≡ product
whole_quotient product unit test = div-mul_cancel unit (dvd_of_mod-eq-zero unit (eqb-true _ 0 test))

told_ticks : (unit scale ticks : ℕ) → 0 < unit → 0 < scale → is_whole scale (in_ticks (pos ticks) unit) ≡ true → IsSameTicks unit scale (pos ticks) (pos (in_scale unit scale ticks))
told_ticks unit scale ticks some some_scale whole = record {
  positive = some;
  other_positive = some_scale;
  crosswise = sym (ap pos (whole_quotient (ticks * scale) unit whole));
}

negative_quotient : (m k : ℕ) → int_div (neg_ℤ (pos m)) (pos k) ≡ neg_ℤ (pos (m / k))
negative_quotient zero k = rw (zero-div k) refl
negative_quotient (suc m) k = refl

neg-times : (n k : ℕ) → neg_ℤ (pos n) *ℤ pos k ≡ neg_ℤ (pos (n * k))
neg-times zero k = omega (arith, ints)
neg-times (suc n) k = negsuc-*ℤ-pos n k

told_comp : (unit scale : ℕ) (comp : ℤ) → 0 < unit → 0 < scale → is_whole scale (in_ticks comp unit) ≡ true → IsSameTicks unit scale comp (int_div (comp *ℤ pos scale) (pos unit))
told_comp unit scale (pos ticks) some some_scale whole = told_ticks unit scale ticks some some_scale whole
told_comp unit scale (negsuc n) some some_scale whole = record {
  positive = some;
  other_positive = some_scale;
  crosswise =
      negsuc-*ℤ-pos n scale
      ∙ sym (ap (λ (z : ℤ). int_div z (pos unit) *ℤ pos unit) (negsuc-*ℤ-pos n scale)
      ∙ (ap (λ (z : ℤ). z *ℤ pos unit) (negative_quotient (suc n * scale) unit)
      ∙ (neg-times (suc n * scale / unit) unit ∙ ap (λ (m : ℕ). neg_ℤ (pos m)) (whole_quotient (suc n * scale) unit whole))));
}

-- ---- samples and segments

samples_told : (unit scale : ℕ) (samples : List SampleRecord) → 0 < unit → 0 < scale → list_all (is_whole scale) (flat_map (sample_times unit) samples) ≡ true
    → AllZip (IsSameSample unit scale) samples (map (sample_in_scale unit scale) samples)
samples_told unit scale [] some some_scale whole = tt
samples_told unit scale (sample ∷ samples) some some_scale whole =
    let decode = both _ _ whole in
    let dur = both _ _ decode.1 in
    let comp = both _ _ dur.1 in (
      record {
        bytes = refl;
        decode = told_ticks unit scale sample.decode some some_scale decode.0;
        dur = told_ticks unit scale sample.dur some some_scale dur.0;
        comp = told_comp unit scale sample.comp some some_scale comp.0;
        sync = refl;
        entry = refl;
      },
      samples_told unit scale samples some some_scale comp.1,
    )

segments_told : (unit scale movie : ℕ) (segments : List Segment) → 0 < unit → 0 < scale → 0 < movie
    → list_all (is_whole scale) (as_times unit (starts segments)) ≡ true
    → list_all (is_whole movie) (map (λ segment. in_ticks (pos (duration segment)) unit) segments) ≡ true
    → AllZip (IsSameSegment unit movie unit scale) segments (map (told unit scale movie) segments)
segments_told unit scale movie [] some some_scale some_movie whole whole_movie = tt
segments_told unit scale movie (Empty dur ∷ segments) some some_scale some_movie whole whole_movie =
    let here = both _ _ whole_movie in
    (told_ticks unit movie dur some some_movie here.0, segments_told unit scale movie segments some some_scale some_movie whole here.1)
segments_told unit scale movie (Media start dur ∷ segments) some some_scale some_movie whole whole_movie =
    let starts_here = both _ _ whole in
    let here = both _ _ whole_movie in (
      (told_ticks unit scale start some some_scale starts_here.0, told_ticks unit movie dur some some_movie here.0),
      segments_told unit scale movie segments some some_scale some_movie starts_here.1 here.1,
    )

-- ---- tracks

told_has_same_times : (media movie : ℕ) (track : TrackRecord) → 0 < track.scale → IsSettled (track_times track) media → IsSettled (edit_times track.scale track) movie
    → HasSameTimes track.scale movie track (told_track media movie track)
told_has_same_times media movie track some fits fits_movie =
    let parts = both _ _ (sym (list_all-append (is_whole media) (flat_map (sample_times track.scale) track.samples) (as_times track.scale (starts (segments_in track.edits)))) ∙ fits.whole) in
    record {
      some_movie = some;
      some_other_movie = fits_movie.some;
      some_scale = some;
      some_other_scale = fits.some;
      entries = refl;
      samples = samples_told track.scale media track.samples some fits.some parts.0;
      edits = by track.edits parts.1 fits_movie.whole;
    }
  where
    by : (edits : Option (List Segment)) → list_all (is_whole media) (as_times track.scale (starts (segments_in edits))) ≡ true
        → list_all (is_whole movie) (map (λ segment. in_ticks (pos (duration segment)) track.scale) (segments_in edits)) ≡ true
        → IsSameEdits track.scale movie track.scale media edits (option_map (map (told track.scale media movie)) edits)
    by None p q = tt
    by (Some segments) p q = segments_told track.scale media movie segments some fits.some fits_movie.some p q

-- ---- the scales that are found

-- what is found is one of the list, and passes
record IsFirst (p : ℕ → Bool) (f : ℕ → ℕ) (first x : ℕ) : Type 0 where
  pub place : ℕ
  pub low : first ≤ place
  pub is : x ≡ f place
  pub passes : p x ≡ true

found : (p : ℕ → Bool) (f : ℕ → ℕ) (a n x : ℕ) → find p (map f (range_with_len a n)) ≡ Some x → IsFirst p f a x
found p f a zero x is = cc
found p f a (suc n) x is = by (p (f a)) refl is (λ here. found p f (a + 1) n x here)
  where
    or_zero : Option ℕ → ℕ
    or_zero None = 0
    or_zero (Some m) = m

    by : (b : Bool) → p (f a) ≡ b → find p (map f (range_with_len a (suc n))) ≡ Some x → (find p (map f (range_with_len (a + 1) n)) ≡ Some x → IsFirst p f (a + 1) x) → IsFirst p f a x
    by true passes is others =
        let first : find p (map f (range_with_len a (suc n))) ≡ Some (f a) = rw (passes) refl in
        let here : f a ≡ x = ap or_zero (sym first ∙ is) in
        record { place = a; low = omega arith; is = sym here; passes = subst (λ (y : ℕ). p y ≡ true) here passes }
    by false passes is others =
        let further : find p (map f (range_with_len a (suc n))) ≡ find p (map f (range_with_len (a + 1) n)) = rw (passes) refl in
        let rest = others (sym further ∙ is) in
        record { place = rest.place; low = omega (arith, rest.low); is = rest.is; passes = rest.passes }

settled_is_found : (old : ℕ) (times : List Frac) (scale : ℕ) → 0 < old → settled old times ≡ Some scale → IsSettled times scale
settled_is_found old times scale some is =
    let p = found (λ (multiple : ℕ). list_all (is_whole multiple) times) (λ (factor : ℕ). old * factor) 1 _ scale is in
    record { some = subst (λ (x : ℕ). 0 < x) (sym p.is) (mul-pos some p.low); whole = p.passes }

-- ---- the law

pub kept : SettledTimesAreKept
kept = record { serves = settled_is_found; told = told_has_same_times }
