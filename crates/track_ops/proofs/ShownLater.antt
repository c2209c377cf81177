-- A track whose segments stand behind an empty one, or are what is left behind a time, shows the same later, or sooner.
use Rattle.std.proofs.Common.{◌≡◌, ℕ, zero, suc, ◌+◌, ◌-◌, ◌*◌, ◌/◌, ◌<◌, ◌≤◌, min, nat_lt, Bool, true, false, List, [], ◌∷◌, length, map, filter, Option, Some, None, ℤ, pos, ◌+ℤ◌, ◌*ℤ◌, refl, sym, ap, ◌∙◌, subst, arith, inl, inr}
use Rattle.std.specs.Prelude.{if◌then◌else◌, option_map, unsigned_abs}
use Rattle.std.specs.List.{AllZip}
use Rattle.std.specs.Int.{◌∣◌}
use Rattle.std.proofs.Math.Nat.{add-mul, div-mul_cancel, dvd-mul_left_of_dvd, le_of_mul-le-mul_right, mul-div_cancel, mul-le-mul_right, mul-pos, mul_assoc}
use Rattle.std.proofs.lemmas.Bool.{cases_lt, lt-ltb, le-ltb}
use Rattle.std.proofs.lemmas.Int.{ints}
use Rattle.std.proofs.lemmas.List.Sums.{sum_by-cons}
use Rattle.mp_timeline.specs.declared.segment.Segment.{Segment}
use Rattle.mp_timeline.specs.declared.segment.Segment.TheVariants.{Empty, Media}
use Rattle.mp_timeline.specs.Movie.{SampleRecord, TrackRecord}
use Rattle.mp_timeline.specs.Same.{IsSameSample, IsSameSegment, IsSameTicks}
use Rattle.mp_edits.specs.Segments.{duration, total}
use Rattle.mp_movie.specs.Durations.{extent}
use Rattle.mp_shown.specs.Law.{PiecesShow, ShowsByTimes, ShowsTheSame, finer_sample, finer_track}
use Rattle.mp_shown.specs.Segments.{explicit, in_unit, part, pieces, segments_of, whole_media}
use Rattle.mp_shown.specs.Shown.{Seen, is_at_some, media_time, seen, shown}
use Rattle.mp_clip.specs.Clipped.{Tells}
use Rattle.track_ops.specs.Delay.{unit}
use Rattle.track_ops.specs.Scales.{in_scale}
use Rattle.track_ops.specs.Ticks.{in_track_scale, sample_in_scale, signed_in_scale}
use Rattle.track_ops.proofs.Retimed.{signed_exact}

-- ---- products

times_cancel : (x y k : ℕ) → 0 < k → x * k ≡ y * k → x ≡ y
times_cancel x y k some same =
    let low : x ≤ y = le_of_mul-le-mul_right (omega (arith, same)) some in
    let high : y ≤ x = le_of_mul-le-mul_right (omega (arith, same)) some in
    omega (arith, low, high)

pos_injective : (a b : ℕ) → pos a ≡ pos b → a ≡ b
pos_injective a b e = omega (arith, ints, e)

lt-times : (a b k : ℕ) → 0 < k → a < b → a * k < b * k
lt-times a b k some lt = grind arith

sub-times : (a b k : ℕ) → (a - b) * k ≡ a * k - b * k
sub-times a b k = elim (cases_lt a b) [
  | inl lt ↦
      let le = mul-le-mul_right k (below lt) in
      let none : a - b ≡ 0 = omega (arith, lt) in
      ap (λ (n : ℕ). n * k) none ∙ omega (arith, le)
  | inr ge ↦ let whole : a - b + b ≡ a = omega (arith, ge) in let sum = sym (add-mul (a - b) b k) ∙ ap (λ (n : ℕ). n * k) whole in omega (arith, sum)
]
  where
    below : a < b → a ≤ b
    below lt = omega (arith, lt)

min-times : (a b k : ℕ) → min a b * k ≡ min (a * k) (b * k)
min-times a b k = elim (cases_lt a b) [
  | inl lt ↦ let le = mul-le-mul_right k (below lt) in let m : min a b ≡ a = omega (arith, lt) in ap (λ (n : ℕ). n * k) m ∙ omega (arith, le)
  | inr ge ↦ let le = mul-le-mul_right k ge in let m : min a b ≡ b = omega (arith, ge) in ap (λ (n : ℕ). n * k) m ∙ omega (arith, le)
]
  where
    below : a < b → a ≤ b
    below lt = omega (arith, lt)

lt-finer : (a b k : ℕ) → 0 < k → nat_lt (a * k) (b * k) ≡ nat_lt a b
lt-finer a b k some = elim (cases_lt a b) [
  | inl lt ↦ lt-ltb (a * k) (b * k) (lt-times a b k some lt) ∙ sym (lt-ltb a b lt)
  | inr ge ↦ le-ltb (a * k) (b * k) (mul-le-mul_right k ge) ∙ sym (le-ltb a b ge)
]

-- ---- segments in a finer unit

duration-finer : (k : ℕ) (segment : Segment) → duration (in_unit k k segment) ≡ duration segment * k
duration-finer k (Empty dur) = refl
duration-finer k (Media start dur) = refl

part-finer : (k from to : ℕ) (segment : Segment) → in_unit k k (part segment from to) ≡ part (in_unit k k segment) (from * k) (to * k)
part-finer k from to (Empty dur) = ap (λ (n : ℕ). Empty n) (sub-times to from k)
part-finer k from to (Media start dur) = ap (λ (n : ℕ). Media n ((to - from) * k)) (add-mul start from k) ∙ ap (λ (n : ℕ). Media (start * k + from * k) n) (sub-times to from k)

pieces-finer : (k : ℕ) → 0 < k → (from to : ℕ) (segments : List Segment) → map (in_unit k k) (pieces from to segments) ≡ pieces (from * k) (to * k) (map (in_unit k k) segments)
pieces-finer k some from to [] = refl
pieces-finer k some from to (segment ∷ segments) =
    rw (
      duration-finer k segment,
      sym (min-times from (duration segment) k),
      sym (min-times to (duration segment) k),
      sym (sub-times from (duration segment) k),
      sym (sub-times to (duration segment) k),
      lt-finer (min from (duration segment)) (min to (duration segment)) k some,
      sym (pieces-finer k some (from - duration segment) (to - duration segment) segments),
      sym (part-finer k (min from (duration segment)) (min to (duration segment)) segment),
    ) (by (nat_lt (min from (duration segment)) (min to (duration segment))))
  where
    piece : Segment
    piece = part segment (min from (duration segment)) (min to (duration segment))

    rest : List Segment
    rest = pieces (from - duration segment) (to - duration segment) segments

    by : (b : Bool) → map (in_unit k k) (if b then piece ∷ rest else rest) ≡ (if b then in_unit k k piece ∷ map (in_unit k k) rest else map (in_unit k k) rest)
    by true = refl
    by false = refl

total-finer : (a k : ℕ) (segments : List Segment) → total (map (in_unit a k) segments) ≡ total segments * k
total-finer a k [] = omega arith
total-finer a k (segment ∷ segments) =
    let rest = total-finer a k segments in
    sum_by-cons duration (in_unit a k segment) (map (in_unit a k) segments)
    ∙ (ap (λ (n : ℕ). n + total (map (in_unit a k) segments)) (one segment) ∙ (ap (λ (n : ℕ). duration segment * k + n) rest
    ∙ (sym (add-mul (duration segment) (total segments) k) ∙ ap (λ (n : ℕ). n * k) (sym (sum_by-cons duration segment segments)))))
  where
    one : (segment : Segment) → duration (in_unit a k segment) ≡ duration segment * k
    one (Empty dur) = refl
    one (Media start dur) = refl

-- past the end of all segments nothing is shown
time-past : (segments : List Segment) (moment : ℕ) → total segments ≤ moment → media_time segments moment ≡ None
time-past [] moment past = refl
time-past (Empty dur ∷ segments) moment past =
    let all = sum_by-cons duration (Empty dur) segments in
    rw (le-ltb moment dur (omega (arith, all, past))) (time-past segments (moment - dur) (omega (arith, all, past)))
time-past (Media start dur ∷ segments) moment past =
    let all = sum_by-cons duration (Media start dur) segments in
    rw (le-ltb moment dur (omega (arith, all, past))) (time-past segments (moment - dur) (omega (arith, all, past)))

media-in : (a b length all : ℕ) → 0 < b → all ≡ length * b → map (in_unit a b) (whole_media length) ≡ whole_media all
media-in a b length all some is = elim (cases_lt 0 length) [
  | inl lt ↦ let front : 0 * a ≡ 0 = omega arith in rw (is, lt-ltb 0 length lt, lt-ltb 0 (length * b) (mul-pos lt some), front) refl
  | inr le ↦ let none : length ≡ 0 = omega (arith, le) in let empty : 0 * b ≡ 0 = omega arith in rw (is, none, empty) refl
]

in_unit-in_unit : (a b p q : ℕ) (segments : List Segment) → map (in_unit p q) (map (in_unit a b) segments) ≡ map (in_unit (a * p) (b * q)) segments
in_unit-in_unit a b p q [] = refl
in_unit-in_unit a b p q (Empty dur ∷ segments) = rw (mul_assoc dur b q, in_unit-in_unit a b p q segments) refl
in_unit-in_unit a b p q (Media start dur ∷ segments) = rw (mul_assoc start a p, mul_assoc dur b q, in_unit-in_unit a b p q segments) refl

-- ---- samples in multiples of their scale, and in another one

in_multiple : (old by ticks : ℕ) → 0 < old → in_scale old (old * by) ticks ≡ ticks * by
in_multiple old by ticks some = ap (λ (n : ℕ). n / old) (turn ticks) ∙ mul-div_cancel (ticks * by) some
  where
    turn : (t : ℕ) → t * (old * by) ≡ t * by * old
    turn t = omega arith

scaled : (scale p q ticks other : ℕ) → 0 < scale * p → 0 < scale * q → other ≡ ticks * q → IsSameTicks (scale * p) (scale * q) (pos (ticks * p)) (pos other)
scaled scale p q ticks other some some_other is = record { positive = some; other_positive = some_other; crosswise = ap pos (turn ticks p q ∙ ap (λ (n : ℕ). n * (scale * p)) (sym is)) }
  where
    turn : (t p q : ℕ) → t * p * (scale * q) ≡ t * q * (scale * p)
    turn t p q = omega arith

times_times : (z : ℤ) (a b : ℕ) → z *ℤ pos a *ℤ pos b ≡ z *ℤ pos (a * b)
times_times z a zero = omega (arith, ints)
times_times z a (suc b) =
    let h = times_times z a b in
    let p : z *ℤ pos a *ℤ pos (suc b) ≡ z *ℤ pos a *ℤ pos b +ℤ z *ℤ pos a = omega (arith, ints) in
    let q : z *ℤ pos (a * suc b) ≡ z *ℤ pos (a * b) +ℤ z *ℤ pos a = omega (arith, ints) in
    omega (arith, ints)

scaled_z : (scale p q : ℕ) (ticks other : ℤ) → 0 < scale * p → 0 < scale * q → other *ℤ pos scale ≡ ticks *ℤ pos (scale * q) → IsSameTicks (scale * p) (scale * q) (ticks *ℤ pos p) other
scaled_z scale p q ticks other some some_other is = record {
  positive = some;
  other_positive = some_other;
  crosswise =
      times_times ticks p (scale * q)
      ∙ (ap (λ (n : ℕ). ticks *ℤ pos n) (turn p (scale * q)) ∙ (sym (times_times ticks (scale * q) p) ∙ (ap (λ (z : ℤ). z *ℤ pos p) (sym is) ∙ times_times other scale p)));
}
  where
    turn : (p s : ℕ) → p * s ≡ s * p
    turn p s = omega arith

-- ---- a track, and the same with other segments

module _ (law : ShowsByTimes) (pieces_law : PiecesShow) (movie : ℕ) (track : TrackRecord) (some_movie : 0 < movie) (some_track : 0 < track.scale) where
  -- the scales of the movie and of the track in which milliseconds and all times are whole
  abbrev wide_movie : ℕ
  wide_movie = movie * (track.scale * 1000)

  abbrev wide_scale : ℕ
  wide_scale = track.scale * (movie * 1000)

  abbrev fine : TrackRecord
  fine = finer_track (movie * 1000) (track.scale * 1000) track

  -- the segments of the track in that unit
  abbrev own : List Segment
  own = explicit movie track 1000

  some_unit : 0 < wide_movie
  some_unit = mul-pos some_movie (mul-pos some_track (omega arith))

  some_scale : 0 < wide_scale
  some_scale = mul-pos some_track (mul-pos some_movie (omega arith))

  same_unit : wide_movie ≡ wide_scale
  same_unit = omega arith

  fine_is : ShowsTheSame movie wide_movie track fine
  fine_is = law.same movie wide_movie track fine (law.finer movie track (movie * 1000) (track.scale * 1000) some_movie some_track (mul-pos some_movie (omega arith)) (mul-pos some_track (omega arith)))

  -- its segments in the unit of a moment
  fine_own : (d : ℕ) → 0 < d → map (in_unit (wide_movie * d) (wide_scale * d)) own ≡ explicit wide_movie fine d
  fine_own d some = by track.edits
    where
      lengths : extent fine.samples * (wide_movie * d) ≡ extent track.samples * (movie * 1000) * (wide_scale * d)
      lengths =
          let same = pos_injective _ _ fine_is.extent.crosswise in
          turn (extent fine.samples) track.scale ∙ (ap (λ (n : ℕ). n * (movie * 1000 * d)) (sym same) ∙ turn_back (extent track.samples))
        where
          turn : (e s : ℕ) → e * (movie * (s * 1000) * d) ≡ e * s * (movie * 1000 * d)
          turn e s = omega arith

          turn_back : (e : ℕ) → e * (track.scale * (movie * 1000)) * (movie * 1000 * d) ≡ e * (movie * 1000) * (track.scale * (movie * 1000) * d)
          turn_back e = omega arith

      by : (edits : Option (List Segment)) → map (in_unit (wide_movie * d) (wide_scale * d)) (segments_of (movie * 1000) (track.scale * 1000) (extent track.samples) edits)
          ≡ segments_of (wide_movie * d) (wide_scale * d) (extent fine.samples) (option_map (map (in_unit (movie * 1000) (track.scale * 1000))) edits)
      by None = media-in (wide_movie * d) (wide_scale * d) (extent track.samples * (movie * 1000)) (extent fine.samples * (wide_movie * d)) (mul-pos some_scale some) lengths
      by (Some edits) = refl

  -- the time of the media that segments of the unit show at m / e seconds
  abbrev pub time_at : List Segment → (m e : ℕ) → Option ℕ
  time_at segments m e = media_time (map (in_unit (wide_movie * e) (wide_scale * e)) segments) (m * (wide_movie * wide_scale))

  -- what is shown at that time
  abbrev pub shown_at : (e : ℕ) → Option ℕ → List Seen
  shown_at e time = map (seen track.entries) (filter (is_at_some (wide_movie * e) time) fine.samples)

  own_shown : (m e : ℕ) → 0 < e → shown wide_movie fine m e ≡ shown_at e (time_at own m e)
  own_shown m e some = ap (λ (segments : List Segment). shown_at e (media_time segments (m * (wide_movie * wide_scale)))) (sym (fine_own e some))

  own_total : total (explicit wide_movie fine 1) ≡ total own * (wide_scale * 1)
  own_total = ap total (sym (fine_own 1 (omega arith))) ∙ total-finer (wide_movie * 1) (wide_scale * 1) own

  pub own_lasts : total (explicit movie track 1) * 1000 ≡ total own
  own_lasts =
      times_cancel (total (explicit movie track 1) * 1000) (total own) (movie * track.scale * wide_scale) (mul-pos (mul-pos some_movie some_track) some_scale)
      (turn (total (explicit movie track 1)) movie track.scale wide_scale ∙ (pos_injective _ _ fine_is.total.crosswise ∙ (ap (λ (n : ℕ). n * (movie * track.scale)) own_total ∙ turn_back (total own) (movie * track.scale) wide_scale)))
    where
      turn : (b m t w : ℕ) → b * 1000 * (m * t * w) ≡ b * (m * (t * 1000) * w)
      turn b m t w = omega arith

      turn_back : (v p w : ℕ) → v * (w * 1) * p ≡ v * (p * w)
      turn_back v p w = omega arith

  -- moments of the unit: a second has so many of it
  unit_of : wide_movie ≡ movie * track.scale * 1000
  unit_of = omega arith

  module _ (scale media : ℕ) (segments edits : List Segment) (some_new : 0 < scale) (some_media : 0 < media) (multiple : track.scale ∣ media) (tells : Tells (unit movie track.scale) media scale segments edits) where
    abbrev wide : TrackRecord
    wide = record fine { edits = Some segments }

    abbrev other : TrackRecord
    other = record (in_track_scale media track) { edits = Some edits }

    by_parts : track.scale * (media / track.scale) ≡ media
    by_parts = let e = div-mul_cancel track.scale multiple in let turn : track.scale * (media / track.scale) ≡ media / track.scale * track.scale = omega arith in turn ∙ e

    one_tick : (ticks : ℕ) → IsSameTicks wide_scale media (pos (ticks * (movie * 1000))) (pos (in_scale track.scale media ticks))
    one_tick ticks =
        subst (λ (m : ℕ). IsSameTicks wide_scale m (pos (ticks * (movie * 1000))) (pos (in_scale track.scale m ticks))) by_parts
        (scaled track.scale (movie * 1000) (media / track.scale) ticks (in_scale track.scale (track.scale * (media / track.scale)) ticks) some_scale (subst (λ (m : ℕ). 0 < m) (sym by_parts) some_media)
        (in_multiple track.scale (media / track.scale) ticks some_track))

    one_signed : (ticks : ℤ) → IsSameTicks wide_scale media (ticks *ℤ pos (movie * 1000)) (signed_in_scale track.scale media ticks)
    one_signed ticks =
        subst (λ (m : ℕ). IsSameTicks wide_scale m (ticks *ℤ pos (movie * 1000)) (signed_in_scale track.scale media ticks)) by_parts
        (scaled_z track.scale (movie * 1000) (media / track.scale) ticks (signed_in_scale track.scale media ticks) some_scale (subst (λ (m : ℕ). 0 < m) (sym by_parts) some_media)
        (signed_exact track.scale media ticks (dvd-mul_left_of_dvd track.scale multiple (unsigned_abs ticks)) ∙ ap (λ (m : ℕ). ticks *ℤ pos m) (sym by_parts)))

    samples_same : (samples : List SampleRecord) → AllZip (IsSameSample wide_scale media) (map (finer_sample (movie * 1000)) samples) (map (sample_in_scale track.scale media) samples)
    samples_same [] = tt
    samples_same (sample ∷ samples) = (
      record { bytes = refl; decode = one_tick sample.decode; dur = one_tick sample.dur; comp = one_signed sample.comp; sync = refl; entry = refl },
      samples_same samples,
    )

    segments_same : AllZip (IsSameSegment wide_movie scale wide_scale media) segments edits
    segments_same =
        subst (λ (u : ℕ). AllZip (IsSameSegment u scale wide_scale media) segments edits) (sym unit_of)
        (subst (λ (u : ℕ). AllZip (IsSameSegment (unit movie track.scale) scale u media) segments edits) (sym unit_of ∙ same_unit) tells)

    pub wide_is : ShowsTheSame wide_movie scale wide other
    wide_is =
        law.same wide_movie scale wide other
        (record {
          some_movie = some_unit;
          some_other_movie = some_new;
          some_scale = some_scale;
          some_other_scale = some_media;
          entries = refl;
          samples = samples_same track.samples;
          edits = segments_same;
        })

    wide_total : total (explicit wide_movie wide 1) ≡ total segments * (wide_scale * 1)
    wide_total = total-finer (wide_movie * 1) (wide_scale * 1) segments

    -- how long the other track is shown: as long as the segments last
    pub other_lasts : total (explicit scale other 1) * (movie * track.scale * 1000) ≡ total segments * (scale * media)
    other_lasts =
        times_cancel (total (explicit scale other 1) * (movie * track.scale * 1000)) (total segments * (scale * media)) wide_scale some_scale
        (turn (total (explicit scale other 1)) movie track.scale wide_scale
        ∙ (sym (pos_injective _ _ wide_is.total.crosswise) ∙ (ap (λ (n : ℕ). n * (scale * media)) wide_total ∙ turn_back (total segments) (scale * media) wide_scale)))
      where
        turn : (a m t w : ℕ) → a * (m * t * 1000) * w ≡ a * (m * (t * 1000) * w)
        turn a m t w = omega arith

        turn_back : (v p w : ℕ) → v * (w * 1) * p ≡ v * p * w
        turn_back v p w = omega arith

    -- at equal moments, in the unit of milliseconds of the one
    pub wide_shown : (m e k d : ℕ) → 0 < d → 0 < e → k * e ≡ m * (d * 1000) → shown scale other m e ≡ shown_at (d * 1000) (time_at segments k (d * 1000))
    wide_shown m e k d some_d some_e same =
        sym (wide_is.shown k (d * 1000) m e (record { positive = mul-pos some_d (omega arith); other_positive = some_e; crosswise = ap pos same }))

    pub track_shown : (n d : ℕ) → 0 < d → shown movie track n d ≡ shown_at (d * 1000) (time_at own (n * 1000) (d * 1000))
    track_shown n d some_d =
        fine_is.shown n d (n * 1000) (d * 1000) (record { positive = some_d; other_positive = mul-pos some_d (omega arith); crosswise = ap pos (turn n d) })
        ∙ own_shown (n * 1000) (d * 1000) (mul-pos some_d (omega arith))
      where
        turn : (n d : ℕ) → n * (d * 1000) ≡ n * 1000 * d
        turn n d = omega arith

    -- so many milliseconds, at a moment of that unit
    ms_moment : (n ms d : ℕ) → (n + ms * d) * (wide_movie * wide_scale) ≡ n * (wide_movie * wide_scale) + ms * (movie * track.scale) * (wide_scale * (d * 1000))
    ms_moment n ms d = turn n ms d movie track.scale wide_scale
      where
        turn : (n ms d m t w : ℕ) → (n + ms * d) * (m * (t * 1000) * w) ≡ n * (m * (t * 1000) * w) + ms * (m * t) * (w * (d * 1000))
        turn n ms d m t w = omega arith

    pub none_shown : (e : ℕ) → shown_at e None ≡ []
    none_shown e = ap (map (seen track.entries)) (nothing fine.samples)
      where
        nothing : (samples : List SampleRecord) → filter (is_at_some (wide_movie * e) None) samples ≡ []
        nothing [] = refl
        nothing (sample ∷ samples) = nothing samples

    -- ---- an empty segment in front
    module _ (ms : ℕ) (is : segments ≡ Empty (ms * (movie * track.scale)) ∷ own) where
      pub time_later : (n d : ℕ) → time_at segments (n + ms * d) (d * 1000) ≡ time_at own n (d * 1000)
      time_later n d =
          ap (λ (ss : List Segment). time_at ss (n + ms * d) (d * 1000)) is
          ∙ (ap (media_time (map (in_unit (wide_movie * (d * 1000)) (wide_scale * (d * 1000))) (Empty (ms * (movie * track.scale)) ∷ own))) (ms_moment n ms d)
          ∙ past (n * (wide_movie * wide_scale)) (ms * (movie * track.scale) * (wide_scale * (d * 1000))) (map (in_unit (wide_movie * (d * 1000)) (wide_scale * (d * 1000))) own))
        where
          past : (moment empty : ℕ) (ss : List Segment) → media_time (Empty empty ∷ ss) (moment + empty) ≡ media_time ss moment
          past moment empty ss = rw (le-ltb (moment + empty) empty (omega arith)) (ap (media_time ss) (omega arith))

      pub time_before : (n d : ℕ) → 0 < d → n * 1000 < ms * d → time_at segments (n * 1000) (d * 1000) ≡ None
      time_before n d some less =
          ap (λ (ss : List Segment). time_at ss (n * 1000) (d * 1000)) is
          ∙ front (n * 1000 * (wide_movie * wide_scale)) (ms * (movie * track.scale) * (wide_scale * (d * 1000))) (map (in_unit (wide_movie * (d * 1000)) (wide_scale * (d * 1000))) own)
          (subst (λ (x : ℕ). n * 1000 * (wide_movie * wide_scale) < x) (turn ms d movie track.scale wide_scale) (lt-times (n * 1000) (ms * d) (wide_movie * wide_scale) (mul-pos some_unit some_scale) less))
        where
          front : (moment empty : ℕ) (ss : List Segment) → moment < empty → media_time (Empty empty ∷ ss) moment ≡ None
          front moment empty ss lt = rw (lt-ltb moment empty lt) refl

          turn : (ms d m t w : ℕ) → ms * d * (m * (t * 1000) * w) ≡ ms * (m * t) * (w * (d * 1000))
          turn ms d m t w = omega arith

    -- ---- what is left behind a time
    module _ (ms : ℕ) (less : ms * (movie * track.scale) < total own) (is : segments ≡ pieces (ms * (movie * track.scale)) (total own) own) where
      in_one_unit : (e : ℕ) (ss : List Segment) → map (in_unit (wide_movie * e) (wide_scale * e)) ss ≡ map (in_unit (wide_scale * e) (wide_scale * e)) ss
      in_one_unit e ss = ap (λ (u : ℕ). map (in_unit (u * e) (wide_scale * e)) ss) same_unit

      pub time_sooner : (n d : ℕ) → 0 < d → time_at segments n (d * 1000) ≡ time_at own (n + ms * d) (d * 1000)
      time_sooner n d some =
          ap (λ (ss : List Segment). time_at ss n (d * 1000)) is
          ∙ (ap (λ (ss : List Segment). media_time ss (n * (wide_movie * wide_scale))) (in_one_unit (d * 1000) (pieces from (total own) own) ∙ pieces-finer k (mul-pos some_scale (mul-pos some (omega arith))) from (total own) own)
          ∙ (shows (n * (wide_movie * wide_scale))
          ∙ (ap (media_time (map (in_unit k k) own)) (turn (n * (wide_movie * wide_scale)) (from * k) ∙ sym (ms_moment n ms d)) ∙ ap (λ (ss : List Segment). media_time ss ((n + ms * d) * (wide_movie * wide_scale))) (sym (in_one_unit (d * 1000) own)))))
        where
          k : ℕ
          k = wide_scale * (d * 1000)

          from : ℕ
          from = ms * (movie * track.scale)

          turn : (a b : ℕ) → b + a ≡ a + b
          turn a b = omega arith

          shows : (moment : ℕ) → media_time (pieces (from * k) (total own * k) (map (in_unit k k) own)) moment ≡ media_time (map (in_unit k k) own) (from * k + moment)
          shows moment = elim (cases_lt (from * k + moment) (total own * k)) [
            | inl lt ↦ pieces_law.within (map (in_unit k k) own) (from * k) (total own * k) moment lt
            | inr past ↦
                pieces_law.after (map (in_unit k k) own) (from * k) (total own * k) moment past
                ∙ sym (time-past (map (in_unit k k) own) (from * k + moment) (subst (λ (n : ℕ). n ≤ from * k + moment) (sym (total-finer k k own)) past))
          ]

      pub left_lasts : total segments + ms * (movie * track.scale) ≡ total own
      left_lasts =
          let all = ap total is ∙ pieces_law.total own (ms * (movie * track.scale)) (total own) (low less) in
          omega (arith, all, less)
        where
          low : ms * (movie * track.scale) < total own → ms * (movie * track.scale) ≤ total own
          low lt = omega (arith, lt)
