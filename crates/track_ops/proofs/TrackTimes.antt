-- All times of a track are whole in a scale where its durations, offsets and starts are.
use Rattle.std.proofs.Common.{◌≡◌, ℕ, zero, suc, ◌+◌, ◌-◌, ◌*◌, ◌<◌, ◌≤◌, ℤ, pos, negsuc, neg_ℤ, ◌+ℤ◌, ◌-ℤ◌, true, All, List, [], ◌∷◌, ◌++◌, map, refl, sym, ap, ◌∙◌, subst, arith, inl, inr}
use Rattle.std.specs.Prelude.{unsigned_abs}
use Rattle.std.specs.List.{AllByRecursion, flat_map, list_all}
use Rattle.std.specs.Int.{◌∣◌}
use Rattle.std.proofs.Math.Nat.{add-mul, dvd-add, dvd-sub, dvd-zero}
use Rattle.std.proofs.lemmas.Bool.{cases_Bool, cases_lt}
use Rattle.std.proofs.lemmas.Int.{ints}
use Rattle.std.proofs.lemmas.List.Elements.{All-cons, All-nil}
use Rattle.mp_frac.specs.declared.time.Frac.{Frac}
use Rattle.mp_timeline.specs.Movie.{SampleRecord}
use Rattle.mp_edits.specs.EditBox.{segments_in}
use Rattle.mp_movie.specs.Columns.{composition_offsets, durations}
use Rattle.mp_movie.specs.Placed.{PlacedTrack}
use Rattle.mp_movie.specs.PartsLaw.{ColumnsAreKept}
use Rattle.mp_movie.specs.StandsFor.{samples_of, track_for}
use Rattle.mp_movie.specs.WellFormed.{AreConsecutive}
use Rattle.mp_movie.specs.WholeParts.{AreColumns}
use Rattle.mp_clip.specs.Clipped.{as_times, starts}
use Rattle.track_ops.specs.KeptTimes.{IsWholeIn, are_whole, kept_ticks}
use Rattle.track_ops.specs.Scales.{is_whole}
use Rattle.track_ops.specs.Ticks.{sample_times, track_times}
use Rattle.track_ops.proofs.JoinedScales.{all_joined}
use Rattle.track_ops.proofs.LeastScales.{both}
use Rattle.track_ops.proofs.WholeTicks.{all_divided, all_tested, by_test, tested}

-- ---- sums and differences

difference : (old new a b : ℕ) → old ∣ a * new → old ∣ b * new → old ∣ (a - b + (b - a)) * new
difference old new a b first second = elim (cases_lt a b) [
  | inl less ↦ subst (λ (n : ℕ). old ∣ n) (later less) (dvd-sub old second first)
  | inr more ↦ subst (λ (n : ℕ). old ∣ n) (sooner more) (dvd-sub old first second)
]
  where
    apart : (x y : ℕ) → y ≤ x → x * new ≡ (x - y) * new + y * new
    apart x y le = let e : x - y + y ≡ x = omega (arith, le) in ap (λ (n : ℕ). n * new) (sym e) ∙ add-mul (x - y) y new

    later : a < b → b * new - a * new ≡ (a - b + (b - a)) * new
    later less = let e = apart b a (omega (arith, less)) in let s : a - b + (b - a) ≡ b - a = omega (arith, less) in omega (arith, e) ∙ ap (λ (n : ℕ). n * new) (sym s)

    sooner : b ≤ a → a * new - b * new ≡ (a - b + (b - a)) * new
    sooner more = let e = apart a b more in let s : a - b + (b - a) ≡ a - b = omega (arith, more) in omega (arith, e) ∙ ap (λ (n : ℕ). n * new) (sym s)

together : (old new a b : ℕ) → old ∣ a * new → old ∣ b * new → old ∣ (a + b) * new
together old new a b first second = subst (λ (n : ℕ). old ∣ n) (sym (add-mul a b new)) (dvd-add old first second)

pub whole_sum : (old new : ℕ) (a b : ℤ) → IsWholeIn old new a → IsWholeIn old new b → IsWholeIn old new (a +ℤ b)
whole_sum old new (pos a) (pos b) first second =
    let e : unsigned_abs (pos a +ℤ pos b) ≡ a + b = omega (arith, ints) in
    subst (λ (n : ℕ). old ∣ n * new) (sym e) (together old new a b first second)
whole_sum old new (pos a) (negsuc b) first second =
    let e : unsigned_abs (pos a +ℤ negsuc b) ≡ a - suc b + (suc b - a) = omega (arith, ints) in
    subst (λ (n : ℕ). old ∣ n * new) (sym e) (difference old new a (suc b) first second)
whole_sum old new (negsuc a) (pos b) first second =
    let e : unsigned_abs (negsuc a +ℤ pos b) ≡ suc a - b + (b - suc a) = omega (arith, ints) in
    subst (λ (n : ℕ). old ∣ n * new) (sym e) (difference old new (suc a) b first second)
whole_sum old new (negsuc a) (negsuc b) first second =
    let e : unsigned_abs (negsuc a +ℤ negsuc b) ≡ suc a + suc b = omega (arith, ints) in
    subst (λ (n : ℕ). old ∣ n * new) (sym e) (together old new (suc a) (suc b) first second)

whole_negative : (old new d : ℕ) → old ∣ d * new → IsWholeIn old new (neg_ℤ (pos d))
whole_negative old new zero h = h
whole_negative old new (suc d) h = h

-- ---- samples one after another

-- the times of a sample are whole
record IsWholeSample (old new : ℕ) (sample : SampleRecord) : Type 0 where
  decode : old ∣ sample.decode * new
  dur : old ∣ sample.dur * new
  comp : IsWholeIn old new sample.comp

abbrev Divides : ℕ → ℕ → ℤ → Type 0
Divides old new x = IsWholeIn old new x

from_columns : (old new start : ℕ) (samples : List SampleRecord) → AreConsecutive start samples → old ∣ start * new → AllByRecursion (IsWholeIn old new) (durations samples) → AllByRecursion (IsWholeIn old new) (composition_offsets samples)
    → AllByRecursion (IsWholeSample old new) samples
from_columns old new start [] times whole deltas offsets = tt
from_columns old new start (sample ∷ samples) times whole deltas offsets =
    let decode : old ∣ sample.decode * new = subst (λ (n : ℕ). old ∣ n * new) (sym times.0) whole in
    let sum : sample.comp -ℤ pos sample.decode +ℤ pos sample.decode ≡ sample.comp = omega (arith, ints) in (
      record { decode = decode; dur = deltas.0; comp = subst (IsWholeIn old new) sum (whole_sum old new (sample.comp -ℤ pos sample.decode) (pos sample.decode) offsets.0 decode) },
      from_columns old new (start + sample.dur) samples times.1 (together old new start sample.dur whole deltas.0) deltas.1 offsets.1,
    )

to_durations : (old new : ℕ) (samples : List SampleRecord) → AllByRecursion (IsWholeSample old new) samples → AllByRecursion (IsWholeIn old new) (durations samples)
to_durations old new [] all = tt
to_durations old new (sample ∷ samples) all = (all.0.dur, to_durations old new samples all.1)

to_offsets : (old new : ℕ) (samples : List SampleRecord) → AllByRecursion (IsWholeSample old new) samples → AllByRecursion (IsWholeIn old new) (composition_offsets samples)
to_offsets old new [] all = tt
to_offsets old new (sample ∷ samples) all =
    let sum : sample.comp +ℤ neg_ℤ (pos sample.decode) ≡ sample.comp -ℤ pos sample.decode = omega (arith, ints) in (
      subst (IsWholeIn old new) sum (whole_sum old new sample.comp (neg_ℤ (pos sample.decode)) all.0.comp (whole_negative old new sample.decode all.0.decode)),
      to_offsets old new samples all.1,
    )

-- ---- the two tests

abbrev PassesAll : ℕ → List Frac → Type 0
PassesAll new times = list_all (is_whole new) times ≡ true

both_lists : (new : ℕ) (xs ys : List Frac) → PassesAll new (xs ++ ys) → PassesAll new xs × PassesAll new ys
both_lists new [] ys all = (refl, all)
both_lists new (x ∷ xs) ys all =
    let each = both (is_whole new x) (list_all (is_whole new) (xs ++ ys)) all in
    let rest = both_lists new xs ys each.1 in
    (rw (each.0, rest.0) refl, rest.1)

join_lists : (new : ℕ) (xs ys : List Frac) → PassesAll new xs → PassesAll new ys → PassesAll new (xs ++ ys)
join_lists new [] ys first second = second
join_lists new (x ∷ xs) ys first second =
    let each = both (is_whole new x) (list_all (is_whole new) xs) first in
    rw each.0 (join_lists new xs ys each.1 second)

samples_pass : (old new : ℕ) (samples : List SampleRecord) → AllByRecursion (IsWholeSample old new) samples → PassesAll new (flat_map (sample_times old) samples)
samples_pass old new [] all = refl
samples_pass old new (sample ∷ samples) all =
    rw (tested old new sample.decode all.0.decode, tested old new sample.dur all.0.dur, tested old new (unsigned_abs sample.comp) all.0.comp) (samples_pass old new samples all.1)

pass_samples : (old new : ℕ) (samples : List SampleRecord) → PassesAll new (flat_map (sample_times old) samples) → AllByRecursion (IsWholeSample old new) samples
pass_samples old new [] all = tt
pass_samples old new (sample ∷ samples) all =
    let first = both _ _ all in
    let second = both _ _ first.1 in
    let third = both _ _ second.1 in (
      record { decode = by_test old new sample.decode first.0; dur = by_test old new sample.dur second.0; comp = by_test old new (unsigned_abs sample.comp) third.0 },
      pass_samples old new samples third.1,
    )

starts_pass : (old new : ℕ) (ns : List ℕ) → AllByRecursion (λ n. old ∣ n * new) ns → PassesAll new (as_times old ns)
starts_pass old new [] all = refl
starts_pass old new (n ∷ ns) all = rw (tested old new n all.0) (starts_pass old new ns all.1)

pass_starts : (old new : ℕ) (ns : List ℕ) → PassesAll new (as_times old ns) → AllByRecursion (λ n. old ∣ n * new) ns
pass_starts old new [] all = tt
pass_starts old new (n ∷ ns) all = let each = both _ _ all in (by_test old new n each.0, pass_starts old new ns each.1)

split : (P : ℕ → Type 0) (xs ys : List ℕ) → AllByRecursion P (xs ++ ys) → AllByRecursion P xs × AllByRecursion P ys
split P [] ys all = (tt, all)
split P (x ∷ xs) ys all = let rest = split P xs ys all.1 in ((all.0, rest.0), rest.1)

of_abs : (old new : ℕ) (column : List ℤ) → AllByRecursion (λ n. old ∣ n * new) (map unsigned_abs column) → AllByRecursion (IsWholeIn old new) column
of_abs old new [] all = tt
of_abs old new (x ∷ column) all = (all.0, of_abs old new column all.1)

to_abs : (old new : ℕ) (column : List ℤ) → AllByRecursion (IsWholeIn old new) column → AllByRecursion (λ n. old ∣ n * new) (map unsigned_abs column)
to_abs old new [] all = tt
to_abs old new (x ∷ column) all = (all.0, to_abs old new column all.1)

pub listed : (P : ℤ → Type 0) (column : List ℤ) → AllByRecursion P column → All P column
listed P [] all = All-nil P
listed P (x ∷ column) all = All-cons P x column all.0 (listed P column all.1)

-- durations, offsets and starts
pub ticks_whole : (new : ℕ) (track : PlacedTrack) → are_whole track.scale new (kept_ticks track) ≡ true
    → AllByRecursion (IsWholeIn track.scale new) track.deltas × AllByRecursion (IsWholeIn track.scale new) track.offsets × AllByRecursion (λ n. track.scale ∣ n * new) (starts (segments_in track.edits))
ticks_whole new track whole =
    let all = all_divided track.scale new (kept_ticks track) whole in
    let first = split (λ n. track.scale ∣ n * new) (map unsigned_abs track.deltas ++ map unsigned_abs track.offsets) (starts (segments_in track.edits)) all in
    let second = split (λ n. track.scale ∣ n * new) (map unsigned_abs track.deltas) (map unsigned_abs track.offsets) first.0 in
    (of_abs track.scale new track.deltas second.0, of_abs track.scale new track.offsets second.1, first.1)

pub track_tested : ColumnsAreKept → (files : List (List ℕ)) (new : ℕ) (track : PlacedTrack) → AreColumns track → AreConsecutive 0 (samples_of files track)
    → list_all (is_whole new) (track_times (track_for files track)) ≡ are_whole track.scale new (kept_ticks track)
track_tested law files new track columns times =
    elim (cases_Bool (are_whole track.scale new (kept_ticks track))) [
      | inl whole ↦
          let parts = ticks_whole new track whole in
          let samples =
          from_columns track.scale new 0 (samples_of files track) times (whole_negative track.scale new 0 none) (subst (AllByRecursion (IsWholeIn track.scale new)) (sym (law.durations files track columns)) parts.0)
          (subst (AllByRecursion (IsWholeIn track.scale new)) (sym (law.offsets files track columns)) parts.1) in
          join_lists new (flat_map (sample_times track.scale) (samples_of files track)) (as_times track.scale (starts (segments_in track.edits))) (samples_pass track.scale new (samples_of files track) samples) (starts_pass track.scale new (starts (segments_in track.edits)) parts.2) ∙ sym whole
      | inr other ↦
          elim (cases_Bool (list_all (is_whole new) (track_times (track_for files track)))) [
            | inl all ↦
                let each = both_lists new (flat_map (sample_times track.scale) (samples_of files track)) (as_times track.scale (starts (segments_in track.edits))) all in
                let samples = pass_samples track.scale new (samples_of files track) each.0 in
                let deltas = to_abs track.scale new track.deltas (subst (AllByRecursion (IsWholeIn track.scale new)) (law.durations files track columns) (to_durations track.scale new (samples_of files track) samples)) in
                let offsets = to_abs track.scale new track.offsets (subst (AllByRecursion (IsWholeIn track.scale new)) (law.offsets files track columns) (to_offsets track.scale new (samples_of files track) samples)) in
                let found =
                all_tested track.scale new (kept_ticks track)
                (all_joined (λ n. track.scale ∣ n * new) (map unsigned_abs track.deltas ++ map unsigned_abs track.offsets) (starts (segments_in track.edits))
                (all_joined (λ n. track.scale ∣ n * new) (map unsigned_abs track.deltas) (map unsigned_abs track.offsets) deltas offsets) (pass_starts track.scale new (starts (segments_in track.edits)) each.1)) in
                cc
            | inr none ↦ none ∙ sym other
          ]
    ]
  where
    none : track.scale ∣ 0 * new
    none = let z : 0 * new ≡ 0 = omega arith in subst (λ (n : ℕ). track.scale ∣ n) (sym z) (dvd-zero track.scale)
