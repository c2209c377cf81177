-- What is shown in one unit is what is shown by comparing fractions.
use Rattle.std.proofs.Common.{◌≡◌, ℕ, zero, suc, ◌+◌, ◌-◌, ◌*◌, ◌<◌, ◌≤◌, Bool, true, false, cond, ltb, not, ◌&&◌, List, [], ◌∷◌, ◌++◌, map, Option, Some, None, ℤ, pos, negsuc, ◌+ℤ◌, ◌-ℤ◌, ◌*ℤ◌, refl, sym, ap, subst, ◌∙◌, arith, inl, inr}
use Rattle.std.specs.Prelude.{int_lt, neg_ℤ}
use Rattle.std.proofs.lemmas.Bool.{cases_lt, lt-ltb, le-ltb, ltb-true, ltb-false}
use Rattle.std.proofs.lemmas.Int.{ints}
use Rattle.std.proofs.lemmas.List.Sums.{sum_by-cons}
use Rattle.std.proofs.Math.Nat.{mul_comm, mul_assoc, add-mul}
use Rattle.mp_frac.specs.declared.time.Frac.{Frac}
use Rattle.mp_frac.specs.Time.{in_ticks}
use Rattle.mp_timeline.specs.declared.segment.Segment.{Segment}
use Rattle.mp_timeline.specs.declared.segment.Segment.TheVariants.{Empty, Media}
use Rattle.mp_timeline.specs.Movie.{SampleRecord, TrackRecord}
use Rattle.mp_edits.specs.Segments.{duration, total}
use Rattle.mp_movie.specs.Durations.{extent}
use Rattle.mp_shown.specs.Segments.{in_unit, segments_of, whole_media, explicit}
use Rattle.mp_shown.specs.Shown.{media_time, is_at, is_at_some, is_shown}
use Rattle.mp_shown.specs.Fractions.{is_before, holds, time_in_segment, IsAt, IsShownByFractions}
use Rattle.mp_shown.proofs.Places.{times_some, ltb-times, le-times, sub-times, none_before, lt-times}
use Rattle.mp_shown.proofs.SameTimes.{finer-lt}

-- ---- one segment behind others

time-behind : (before segments : List Segment) (t : ℕ) → total before ≤ t → media_time (before ++ segments) t ≡ media_time segments (t - total before)
time-behind [] segments t le = ap (media_time segments) (omega arith)
time-behind (Empty dur ∷ before) segments t le =
    let all = sum_by-cons duration (Empty dur) before in
    rw (le-ltb t dur (omega (arith, all, le))) (time-behind before segments (t - dur) (omega (arith, all, le)) ∙ ap (media_time segments) (omega (arith, all)))
time-behind (Media start dur ∷ before) segments t le =
    let all = sum_by-cons duration (Media start dur) before in
    rw (le-ltb t dur (omega (arith, all, le))) (time-behind before segments (t - dur) (omega (arith, all, le)) ∙ ap (media_time segments) (omega (arith, all)))

total-in_unit : (a b : ℕ) (edits : List Segment) → total (map (in_unit a b) edits) ≡ total edits * b
total-in_unit a b [] = omega arith
total-in_unit a b (segment ∷ segments) =
    sum_by-cons duration (in_unit a b segment) (map (in_unit a b) segments)
    ∙ (ap (λ (x : ℕ). x + total (map (in_unit a b) segments)) (one segment) ∙ (ap (λ (x : ℕ). duration segment * b + x) (total-in_unit a b segments)
    ∙ (sym (add-mul (duration segment) (total segments) b) ∙ ap (λ (x : ℕ). x * b) (sym (sum_by-cons duration segment segments)))))
  where
    one : (segment : Segment) → duration (in_unit a b segment) ≡ duration segment * b
    one (Empty dur) = refl
    one (Media start dur) = refl

map-both : (f : Segment → Segment) (xs ys : List Segment) → map f (xs ++ ys) ≡ map f xs ++ map f ys
map-both f [] ys = refl
map-both f (x ∷ xs) ys = ap (λ (zs : List Segment). f x ∷ zs) (map-both f xs ys)

-- ---- a number of the unit, as a time

unit-lt : (time a k : ℕ) (z : ℤ) → 0 < k → int_lt (pos time *ℤ pos k) (z *ℤ pos (k * a)) ≡ int_lt (pos time) (z *ℤ pos a)
unit-lt time a k (pos n) some = ap (ltb (time * k)) (ap (λ (x : ℕ). n * x) (mul_comm k a) ∙ sym (mul_assoc n a k)) ∙ ltb-times time (n * a) k some
unit-lt time a k (negsuc n) some = none_before (time * k) (suc n * (k * a)) ∙ sym (none_before time (suc n * a))

module _ (movie scale d : ℕ) (some_movie : 0 < movie) (some : 0 < scale) (some_d : 0 < d) where
  holds-unit : (sample : SampleRecord) (time : ℕ) → holds scale sample (record { n = pos time; d = scale * (movie * d) }) ≡ is_at (movie * d) sample time
  holds-unit sample time = rw (unit-lt time (movie * d) scale sample.comp some, unit-lt time (movie * d) scale (sample.comp +ℤ pos sample.dur) some) refl

  -- the moment and the begin of a segment, in the unit
  moment-is : (n : ℕ) → n * (movie * scale) ≡ n * movie * scale
  moment-is n = sym (mul_assoc n movie scale)

  begin-is : (begin : ℕ) → begin * (scale * d) ≡ begin * d * scale
  begin-is begin = omega arith

  begun-unit : (n begin : ℕ) → begin * d ≤ n * movie → begin * (scale * d) ≤ n * (movie * scale)
  begun-unit n begin le = let more = le-times (begin * d) (n * movie) scale le in omega (arith, more, moment-is n, begin-is begin)

  lasts-unit : (n begin dur : ℕ) → begin * d ≤ n * movie → n * movie < (begin + dur) * d → n * (movie * scale) - begin * (scale * d) < dur * (scale * d)
  lasts-unit n begin dur le lt =
      let more = le-times (begin * d) (n * movie) scale le in
      let end = lt-times (n * movie) ((begin + dur) * d) scale some lt in
      let split : (begin + dur) * d * scale ≡ begin * d * scale + dur * d * scale = parts begin dur d scale in
      omega (arith, more, end, split, moment-is n, begin-is begin, begin-is dur)
    where
      parts : (a b d s : ℕ) → (a + b) * d * s ≡ a * d * s + b * d * s
      parts a b d s = omega arith

  -- the numerator of the time in the segment
  numerator : (n start begin : ℕ) → begin * d ≤ n * movie → pos (start * (movie * d)) +ℤ (pos (n * movie) -ℤ pos (begin * d)) *ℤ pos scale ≡ pos (start * (movie * d) + (n * (movie * scale) - begin * (scale * d)))
  numerator n start begin le =
      let gap : pos (n * movie) -ℤ pos (begin * d) ≡ pos (n * movie - begin * d) = omega (arith, ints) in
      let product : (n * movie - begin * d) * scale ≡ n * (movie * scale) - begin * (scale * d) = sym (sub-times (n * movie) (begin * d) scale le) ∙ (ap (λ (x : ℕ). x - begin * d * scale) (sym (moment-is n)) ∙ ap (λ (x : ℕ). n * (movie * scale) - x) (sym (begin-is begin))) in
      ap (λ (z : ℤ). pos (start * (movie * d)) +ℤ z *ℤ pos scale) gap ∙ ap (λ (x : ℕ). pos (start * (movie * d)) +ℤ pos x) product

  module _ (track : TrackRecord) (scale_is : track.scale ≡ scale) (n : ℕ) where
    -- the segments in front are over
    to_segment : (before behind : List Segment) (segment : Segment) → track.edits ≡ Some (before ++ (segment ∷ behind)) → total before * d ≤ n * movie
        → media_time (explicit movie track d) (n * (movie * track.scale)) ≡ media_time (map (in_unit (movie * d) (scale * d)) (segment ∷ behind)) (n * (movie * scale) - total before * (scale * d))
    to_segment before behind segment edits le =
        let fine = in_unit (movie * d) (scale * d) in
        let all = total-in_unit (movie * d) (scale * d) before in
        rw (edits, scale_is) (ap (λ (segments : List Segment). media_time segments (n * (movie * scale))) (map-both fine before (segment ∷ behind))
        ∙ (time-behind (map fine before) (map fine (segment ∷ behind)) (n * (movie * scale)) (omega (arith, all, begun-unit n (total before) le)) ∙ ap (λ (x : ℕ). media_time (map fine (segment ∷ behind)) (n * (movie * scale) - x)) all))

pub shown_by_fractions : (movie : ℕ) (track : TrackRecord) (n d : ℕ) → 0 < movie → 0 < track.scale → 0 < d → IsShownByFractions movie track n d
shown_by_fractions movie track n d some_movie some some_d = record {
  media = λ before behind start dur edits at sample.
      let le = ltb-false (n * movie) (total before * d) at.begun in
      let lt = lasts-unit movie track.scale d some_movie some some_d n (total before) dur le (ltb-true (n * movie) ((total before + dur) * d) at.lasts) in
      let time = to_segment movie track.scale d some_movie some some_d track refl n before behind (Media start dur) edits le in
      let rest = n * (movie * track.scale) - total before * (track.scale * d) in
      let here : media_time (map (in_unit (movie * d) (track.scale * d)) (Media start dur ∷ behind)) rest ≡ Some (start * (movie * d) + rest) = rw (lt-ltb _ _ lt) refl in
      ap (λ (time : Option ℕ). is_at_some (movie * d) time sample) (time ∙ here)
      ∙ (sym (holds-unit movie track.scale d some_movie some some_d sample (start * (movie * d) + (n * (movie * track.scale) - total before * (track.scale * d))))
      ∙ ap (λ (z : ℤ). holds track.scale sample (record { n = z; d = track.scale * (movie * d) })) (sym (numerator movie track.scale d some_movie some some_d n start (total before) le)));
  empty = λ before behind dur edits at sample.
      let le = ltb-false (n * movie) (total before * d) at.begun in
      let lt = lasts-unit movie track.scale d some_movie some some_d n (total before) dur le (ltb-true (n * movie) ((total before + dur) * d) at.lasts) in
      let time = to_segment movie track.scale d some_movie some some_d track refl n before behind (Empty dur) edits le in
      let rest = n * (movie * track.scale) - total before * (track.scale * d) in
      let here : media_time (map (in_unit (movie * d) (track.scale * d)) (Empty dur ∷ behind)) rest ≡ None = rw (lt-ltb _ _ lt) refl in
      ap (λ (time : Option ℕ). is_at_some (movie * d) time sample) (time ∙ here);
  after = λ edits is passed sample.
      let fine = in_unit (movie * d) (track.scale * d) in
      let le = begun-unit movie track.scale d some_movie some some_d n (total edits) (ltb-false (n * movie) (total edits * d) passed) in
      let all = total-in_unit (movie * d) (track.scale * d) edits in
      let late : media_time (map fine edits) (n * (movie * track.scale)) ≡ None =
      ap (λ (segments : List Segment). media_time segments (n * (movie * track.scale))) (sym (append_none (map fine edits))) ∙ time-behind (map fine edits) [] (n * (movie * track.scale)) (omega (arith, all, le)) in
      let time : media_time (explicit movie track d) (n * (movie * track.scale)) ≡ None = rw is late in
      ap (λ (time : Option ℕ). is_at_some (movie * d) time sample) time;
  whole = λ is sample. whole_is is sample;
}
  where
    append_none : (xs : List Segment) → xs ++ [] ≡ xs
    append_none [] = refl
    append_none (x ∷ xs) = ap (λ (ys : List Segment). x ∷ ys) (append_none xs)

    media-cond : (length moment : ℕ) → media_time (whole_media length) moment ≡ cond (ltb moment length) (Some moment) None
    media-cond length moment = elim (cases_lt 0 length) [
      | inl lt ↦ let front : 0 + moment ≡ moment = omega arith in rw (lt-ltb 0 length lt, front) refl
      | inr le ↦ rw (le-ltb 0 length le, le-ltb moment length (omega (arith, le))) refl
    ]

    whole_time : track.edits ≡ None → media_time (explicit movie track d) (n * (movie * track.scale)) ≡ cond (ltb (n * track.scale) (extent track.samples * d)) (Some (n * track.scale * movie)) None
    whole_time is =
        let moment : n * (movie * track.scale) ≡ n * track.scale * movie = turn n movie track.scale in
        let end : extent track.samples * (movie * d) ≡ extent track.samples * d * movie = turn (extent track.samples) movie d in
        rw is (media-cond (extent track.samples * (movie * d)) (n * (movie * track.scale)) ∙ rw (moment, end, ltb-times (n * track.scale) (extent track.samples * d) movie some_movie) refl)
      where
        turn : (a b c : ℕ) → a * (b * c) ≡ a * c * b
        turn a b c = omega arith

    at_whole : (sample : SampleRecord) → is_at (movie * d) sample (n * track.scale * movie) ≡ holds track.scale sample (in_ticks (pos n) d)
    at_whole sample =
        ap (λ (tick : ℕ). is_at tick sample (n * track.scale * movie)) (mul_comm movie d)
        ∙ rw (finer-lt (n * track.scale) d movie sample.comp some_movie, finer-lt (n * track.scale) d movie (sample.comp +ℤ pos sample.dur) some_movie) refl

    whole_is : track.edits ≡ None → (sample : SampleRecord) → is_shown movie track n d sample ≡ is_before (in_ticks (pos n) d) (in_ticks (pos (extent track.samples)) track.scale) && holds track.scale sample (in_ticks (pos n) d)
    whole_is is sample = ap (λ (time : Option ℕ). is_at_some (movie * d) time sample) (whole_time is) ∙ by (ltb (n * track.scale) (extent track.samples * d))
      where
        by : (b : Bool) → is_at_some (movie * d) (cond b (Some (n * track.scale * movie)) None) sample ≡ b && holds track.scale sample (in_ticks (pos n) d)
        by true = at_whole sample
        by false = refl
