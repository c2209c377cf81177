-- The scales in which segments of a unit are told, by common divisors.
use Rattle.std.proofs.Common.{◌≡◌, ℕ, ◌-◌, ◌*◌, ◌/◌, ◌^◌, ◌<◌, min, ◌||◌, nat_le, nat_lt, pos, Bool, true, false, List, [], ◌∷◌, length, map, Option, Some, None, refl, sym, ap, ◌∙◌, subst, arith}
use Rattle.std.specs.Prelude.{if◌then◌else◌, Ok, Err}
use Rattle.std.specs.List.{AllByRecursion, list_any}
use Rattle.std.specs.Int.{◌∣◌}
use Rattle.std.proofs.Math.Nat.{div-mul_cancel, dvd-mul_right, mul-div_cancel, mul-div_cancel', mul-pos, pos_of_dvd_of_pos}
use Rattle.std.proofs.lemmas.Bool.{leb-false}
use Rattle.std.proofs.lemmas.List.{length-map}
use Rattle.std.proofs.lemmas.List.Sums.{sum_by-cons}
use Rattle.std.proofs.lemmas.Option.{none-some, same_Some}
use Rattle.mp_frac.specs.Divisors.{IsGreatestCommon, most, up_to}
use Rattle.mp_frac.specs.Law.{WholenessIsDivision}
use Rattle.mp_ports.specs.declared.code.Code.{Code}
use Rattle.mp_ports.specs.declared.code.Code.TheVariants.{DeltaLimit, DurationLimit, OffsetLimit, ScaleLimit, SegmentLimit, StartLimit}
use Rattle.mp_ports.specs.declared.fault.Bad.{Bad}
use Rattle.mp_ports.specs.Checks.{bad_at, first_code, placed, unless}
use Rattle.mp_timeline.specs.declared.segment.Segment.{Segment}
use Rattle.mp_timeline.specs.declared.segment.Segment.TheVariants.{Empty, Media}
use Rattle.mp_timeline.specs.Same.{IsSameTicks}
use Rattle.mp_edits.specs.Segments.{duration, most_segments, starts_late, total}
use Rattle.mp_movie.specs.Placed.{PlacedTrack, PlacedMovie}
use Rattle.mp_movie.specs.PartsFit.{first_limit}
use Rattle.mp_movie.specs.Settling.{Settles}
use Rattle.mp_clip.specs.Clipped.{Tells, as_times, starts}
use Rattle.mp_clip.specs.Law.{DivisorsGiveScales}
use Rattle.track_ops.specs.Delay.{told, unit}
use Rattle.track_ops.specs.KeptShown.{capped_in, kept_reshown, kept_shown, kept_shown_in, kept_within, others_last_long, shown_limit}
use Rattle.track_ops.specs.Scales.{in_scale, settled}
use Rattle.track_ops.specs.Summed.{within}
use Rattle.track_ops.proofs.LeastScales.{AreTimes, settles}
use Rattle.track_ops.proofs.Lists.{neither}
use Rattle.track_ops.proofs.LongEdits.{same_le}
use Rattle.track_ops.proofs.ShownLimits.{limit_shown}
use Rattle.track_ops.proofs.TrackIsSet.{IsThere, same_five}

are_times : (unit : ℕ) (numbers : List ℕ) → 0 < unit → AreTimes (as_times unit numbers)
are_times unit [] some = tt
are_times unit (number ∷ numbers) some = (some, are_times unit numbers some)

-- ---- segments in ticks that have so many of the unit, whatever 64 bits hold

abbrev exact_in : (of_start of_length : ℕ) → Segment → Segment
exact_in of_start of_length (Empty length) = Empty (length / of_length)
exact_in of_start of_length (Media start length) = Media (start / of_start) (length / of_length)

-- whole numbers of such ticks
abbrev AreWholeTicks : (of_start of_length : ℕ) → Segment → Type 0
AreWholeTicks of_start of_length (Empty length) = of_length ∣ length
AreWholeTicks of_start of_length (Media start length) = (of_start ∣ start) × (of_length ∣ length)

all_whole_ticks : (of_start of_length : ℕ) (segments : List Segment) → AllByRecursion (λ n. of_start ∣ n) (starts segments) → AllByRecursion (λ n. of_length ∣ n) (map duration segments)
    → AllByRecursion (AreWholeTicks of_start of_length) segments
all_whole_ticks of_start of_length [] firsts lengths = tt
all_whole_ticks of_start of_length (Empty length ∷ segments) firsts lengths = (lengths.0, all_whole_ticks of_start of_length segments firsts lengths.1)
all_whole_ticks of_start of_length (Media start length ∷ segments) firsts lengths = ((firsts.0, lengths.0), all_whole_ticks of_start of_length segments firsts.1 lengths.1)

abbrev exact : (of_start of_length : ℕ) → List Segment → List Segment
exact of_start of_length segments = map (exact_in of_start of_length) segments

abbrev capped : (of_start of_length : ℕ) → List Segment → List Segment
capped of_start of_length segments = map (capped_in of_start of_length) segments

total_capped : (of_start of_length : ℕ) (segments : List Segment) → min (total (capped of_start of_length segments)) (2 ^ 62) ≡ min (total (exact of_start of_length segments)) (2 ^ 62)
total_capped of_start of_length [] = refl
total_capped of_start of_length (segment ∷ segments) =
    let rest = total_capped of_start of_length segments in
    let first = one segment in
    let a = sum_by-cons duration (capped_in of_start of_length segment) (capped of_start of_length segments) in
    let b = sum_by-cons duration (exact_in of_start of_length segment) (exact of_start of_length segments) in
    omega (arith, rest, first, a, b)
  where
    one : (segment : Segment) → duration (capped_in of_start of_length segment) ≡ min (duration (exact_in of_start of_length segment)) (2 ^ 64 - 1)
    one (Empty length) = refl
    one (Media start length) = refl

long_capped : (of_start of_length : ℕ) (segments : List Segment) → nat_le (2 ^ 62) (total (exact of_start of_length segments)) ≡ nat_le (2 ^ 62) (total (capped of_start of_length segments))
long_capped of_start of_length segments =
    let same = total_capped of_start of_length segments in
    same_le (2 ^ 62) (total (exact of_start of_length segments)) (2 ^ 62) (total (capped of_start of_length segments)) (λ le. omega (arith, same, le)) (λ le. omega (arith, same, le))

late_capped : (of_start of_length : ℕ) (segments : List Segment) → list_any starts_late (exact of_start of_length segments) ≡ list_any starts_late (capped of_start of_length segments)
late_capped of_start of_length [] = refl
late_capped of_start of_length (Empty length ∷ segments) = late_capped of_start of_length segments
late_capped of_start of_length (Media start length ∷ segments) =
    rw (
      same_le (2 ^ 62) (start / of_start) (2 ^ 62) (within (start / of_start)) (λ le. omega (arith, le)) (λ le. omega (arith, le)),
      late_capped of_start of_length segments,
    ) refl

many_capped : (of_start of_length : ℕ) (segments : List Segment) → length (exact of_start of_length segments) ≡ length (capped of_start of_length segments)
many_capped of_start of_length segments = length-map segments (exact_in of_start of_length) ∙ sym (length-map segments (capped_in of_start of_length))

-- numbers that 64 bits hold are as they are
small_capped : (of_start of_length : ℕ) (segments : List Segment) → total (exact of_start of_length segments) < 2 ^ 62 → list_any starts_late (exact of_start of_length segments) ≡ false
    → exact of_start of_length segments ≡ capped of_start of_length segments
small_capped of_start of_length [] short early = refl
small_capped of_start of_length (Empty length ∷ segments) short early =
    let all = sum_by-cons duration (Empty (length / of_length)) (exact of_start of_length segments) in
    let dur : length / of_length ≡ within (length / of_length) = omega (arith, all, short) in
    cons (ap (λ (n : ℕ). Empty n) dur) (small_capped of_start of_length segments (omega (arith, all, short)) early)
  where
    cons : {a b : Segment} {xs ys : List Segment} → a ≡ b → xs ≡ ys → a ∷ xs ≡ b ∷ ys
    cons p q = λ i. p i ∷ q i
small_capped of_start of_length (Media start length ∷ segments) short early =
    let all = sum_by-cons duration (Media (start / of_start) (length / of_length)) (exact of_start of_length segments) in
    let both = neither (starts_late (Media (start / of_start) (length / of_length))) (list_any starts_late (exact of_start of_length segments)) early in
    let low = leb-false (2 ^ 62) (start / of_start) both.0 in
    let first : start / of_start ≡ within (start / of_start) = omega (arith, low) in
    let dur : length / of_length ≡ within (length / of_length) = omega (arith, all, short) in
    cons (ap (λ (n : ℕ). Media n (length / of_length)) first ∙ ap (λ (n : ℕ). Media (within (start / of_start)) n) dur) (small_capped of_start of_length segments (omega (arith, all, short)) both.1)
  where
    cons : {a b : Segment} {xs ys : List Segment} → a ≡ b → xs ≡ ys → a ∷ xs ≡ b ∷ ys
    cons p q = λ i. p i ∷ q i

-- the limits know nothing of the numbers above 64 bits
limit_capped : (movie : PlacedMovie) (track : PlacedTrack) (media scale of_start of_length : ℕ) (segments : List Segment)
    → shown_limit movie track media (exact of_start of_length segments) scale ≡ shown_limit movie track media (capped of_start of_length segments) scale
limit_capped movie track media scale of_start of_length segments =
    same_five _ _ _ _ _ _ _ _ _ _ refl refl (ap (λ (b : Bool). b || others_last_long track.number movie.scale scale movie.tracks) (long_capped of_start of_length segments)) (late_capped of_start of_length segments)
    (ap (λ (n : ℕ). nat_lt most_segments n) (many_capped of_start of_length segments))

third : (a b c d e : Bool) → first_code ((a, DeltaLimit) ∷ (b, OffsetLimit) ∷ (c, DurationLimit) ∷ (d, StartLimit) ∷ (e, SegmentLimit) ∷ []) ≡ None → (c ≡ false) × (d ≡ false)
third true b c d e none = cc
third false true c d e none = cc
third false false true d e none = cc
third false false false true e none = cc
third false false false false e none = (refl, refl)

within_limit : (movie : PlacedMovie) (track : PlacedTrack) (media scale of_start of_length : ℕ) (segments : List Segment) → shown_limit movie track media (capped of_start of_length segments) scale ≡ None
    → exact of_start of_length segments ≡ capped of_start of_length segments
within_limit movie track media scale of_start of_length segments none =
    let both = third _ _ _ _ _ (limit_capped movie track media scale of_start of_length segments ∙ none) in
    small_capped of_start of_length segments (let long = leb-false (2 ^ 62) (total (exact of_start of_length segments)) (neither _ (others_last_long track.number movie.scale scale movie.tracks) both.0).0 in omega (arith, long)) both.1

-- ---- in the scales

-- a number of the unit, of which a tick of the old scale has `parts * divisor`, in ticks of the new one
exact_ticks : (scale divisor parts number : ℕ) → 0 < scale * (divisor * parts) → divisor ∣ number → in_scale (scale * (divisor * parts)) (scale * parts) number ≡ number / divisor
exact_ticks scale divisor parts number some h =
    ap (λ (n : ℕ). n / (scale * (divisor * parts))) (ap (λ (n : ℕ). n * (scale * parts)) (sym (div-mul_cancel divisor h)) ∙ turn (number / divisor)) ∙ mul-div_cancel (number / divisor) some
  where
    turn : (n : ℕ) → n * divisor * (scale * parts) ≡ n * (scale * (divisor * parts))
    turn n = omega arith

same_ticks : (scale divisor parts number : ℕ) → 0 < scale * (divisor * parts) → 0 < scale * parts → divisor ∣ number → IsSameTicks (scale * (divisor * parts)) (scale * parts) (pos number) (pos (number / divisor))
same_ticks scale divisor parts number some some_new h = record {
  positive = some;
  other_positive = some_new;
  crosswise = ap pos (ap (λ (n : ℕ). n * (scale * parts)) (sym (div-mul_cancel divisor h)) ∙ turn (number / divisor));
}
  where
    turn : (n : ℕ) → n * divisor * (scale * parts) ≡ n * (scale * (divisor * parts))
    turn n = omega arith

-- segments of a unit whose starts and durations have these divisors, with those of a tick of each scale
module _ (movie track : ℕ) (segments : List Segment) (first long : ℕ) (some_movie : 0 < movie) (some_track : 0 < track) (firsts : IsGreatestCommon (movie * 1000 ∷ starts segments) first) (longs : IsGreatestCommon (track * 1000 ∷ map duration segments) long) where
  abbrev pub media : ℕ
  media = track * (movie * 1000 / first)

  abbrev pub scale : ℕ
  scale = movie * (track * 1000 / long)

  some_unit : 0 < unit movie track
  some_unit = mul-pos (mul-pos some_movie some_track) (omega arith)

  by_media : track * (first * (movie * 1000 / first)) ≡ unit movie track
  by_media = let whole : first * (movie * 1000 / first) ≡ movie * 1000 = mul-div_cancel' first firsts.divides.0 in ap (λ (n : ℕ). track * n) whole ∙ turn movie track
    where
      turn : (m t : ℕ) → t * (m * 1000) ≡ m * t * 1000
      turn m t = omega arith

  by_scale : movie * (long * (track * 1000 / long)) ≡ unit movie track
  by_scale = let whole : long * (track * 1000 / long) ≡ track * 1000 = mul-div_cancel' long longs.divides.0 in ap (λ (n : ℕ). movie * n) whole ∙ turn movie track
    where
      turn : (m t : ℕ) → m * (t * 1000) ≡ m * t * 1000
      turn m t = omega arith

  pub some_media : 0 < media
  some_media = mul-pos some_track (pos_of_dvd_of_pos (subst (λ (n : ℕ). movie * 1000 / first ∣ n) (div-mul_cancel first firsts.divides.0) (dvd-mul_right (movie * 1000 / first) first)) (mul-pos some_movie (omega arith)))

  pub some_scale : 0 < scale
  some_scale = mul-pos some_movie (pos_of_dvd_of_pos (subst (λ (n : ℕ). track * 1000 / long ∣ n) (div-mul_cancel long longs.divides.0) (dvd-mul_right (track * 1000 / long) long)) (mul-pos some_track (omega arith)))

  pub media_settled : WholenessIsDivision → DivisorsGiveScales → settled track (as_times (unit movie track) (starts segments)) ≡ up_to most media
  media_settled law give =
      settles law track (as_times (unit movie track) (starts segments)) (up_to most media) some_track (are_times (unit movie track) (starts segments) some_unit)
      (subst (λ (u : ℕ). Settles track (as_times u (starts segments)) (up_to most media)) (turn movie track) (give track (movie * 1000) first (starts segments) some_track (mul-pos some_movie (omega arith)) firsts))
    where
      turn : (m t : ℕ) → t * (m * 1000) ≡ m * t * 1000
      turn m t = omega arith

  pub scale_settled : WholenessIsDivision → DivisorsGiveScales → settled movie (as_times (unit movie track) (map duration segments)) ≡ up_to most scale
  scale_settled law give =
      settles law movie (as_times (unit movie track) (map duration segments)) (up_to most scale) some_movie (are_times (unit movie track) (map duration segments) some_unit)
      (subst (λ (u : ℕ). Settles movie (as_times u (map duration segments)) (up_to most scale)) (turn movie track) (give movie (track * 1000) long (map duration segments) some_movie (mul-pos some_track (omega arith)) longs))
    where
      turn : (m t : ℕ) → m * (t * 1000) ≡ m * t * 1000
      turn m t = omega arith

  whole : AllByRecursion (AreWholeTicks first long) segments
  whole = all_whole_ticks first long segments firsts.divides.1 longs.divides.1

  start_is : (start : ℕ) → first ∣ start → in_scale (unit movie track) media start ≡ start / first
  start_is start h =
      ap (λ (u : ℕ). in_scale u media start) (sym by_media) ∙ exact_ticks track first (movie * 1000 / first) start (subst (λ (u : ℕ). 0 < u) (sym by_media) some_unit) h

  length_is : (length : ℕ) → long ∣ length → in_scale (unit movie track) scale length ≡ length / long
  length_is length h =
      ap (λ (u : ℕ). in_scale u scale length) (sym by_scale) ∙ exact_ticks movie long (track * 1000 / long) length (subst (λ (u : ℕ). 0 < u) (sym by_scale) some_unit) h

  told_exactly : (segments : List Segment) → AllByRecursion (AreWholeTicks first long) segments → map (told (unit movie track) media scale) segments ≡ exact first long segments
  told_exactly [] all = refl
  told_exactly (Empty length ∷ segments) all = rw (length_is length all.0, told_exactly segments all.1) refl
  told_exactly (Media start length ∷ segments) all = rw (start_is start all.0.0, length_is length all.0.1, told_exactly segments all.1) refl

  start_same : (start : ℕ) → first ∣ start → IsSameTicks (unit movie track) media (pos start) (pos (start / first))
  start_same start h =
      subst (λ (u : ℕ). IsSameTicks u media (pos start) (pos (start / first))) by_media (same_ticks track first (movie * 1000 / first) start (subst (λ (u : ℕ). 0 < u) (sym by_media) some_unit) some_media h)

  length_same : (length : ℕ) → long ∣ length → IsSameTicks (unit movie track) scale (pos length) (pos (length / long))
  length_same length h =
      subst (λ (u : ℕ). IsSameTicks u scale (pos length) (pos (length / long))) by_scale (same_ticks movie long (track * 1000 / long) length (subst (λ (u : ℕ). 0 < u) (sym by_scale) some_unit) some_scale h)

  tells_exactly : (segments : List Segment) → AllByRecursion (AreWholeTicks first long) segments → Tells (unit movie track) media scale segments (exact first long segments)
  tells_exactly [] all = tt
  tells_exactly (Empty length ∷ segments) all = (length_same length all.0, tells_exactly segments all.1)
  tells_exactly (Media start length ∷ segments) all = ((start_same start all.0.0, length_same length all.0.1), tells_exactly segments all.1)

  pub told_is : map (told (unit movie track) media scale) segments ≡ exact first long segments
  told_is = told_exactly segments whole

  pub tells : Tells (unit movie track) media scale segments (exact first long segments)
  tells = tells_exactly segments whole

some_of : (limit number found : ℕ) → Some found ≡ up_to limit number → found ≡ number
some_of limit number found is = by (nat_le number limit) is
  where
    by : (small : Bool) → Some found ≡ (if small then Some number else None) → found ≡ number
    by true e = same_Some found number e
    by false e = absurd (none-some found (sym e))

unless_none : (code : Option Code) (movie : PlacedMovie) → code ≡ None → unless code movie ≡ Ok movie
unless_none code movie none = rw none refl

unless_some : (limit : Option Code) (code : Code) (movie : PlacedMovie) → limit ≡ Some code → unless limit movie ≡ Err code
unless_some limit code movie some = rw some refl

in_none : (movie : ℕ → ℕ → PlacedMovie) (media scale : Option ℕ) → media ≡ None → kept_shown_in movie media scale ≡ Err ScaleLimit
in_none movie media scale none = rw none refl

in_no_scale : (movie : ℕ → ℕ → PlacedMovie) (media scale : Option ℕ) (found : ℕ) → media ≡ Some found → scale ≡ None → kept_shown_in movie media scale ≡ Err ScaleLimit
in_no_scale movie media scale found some none = rw (some, none) refl

in_some : (movie : ℕ → ℕ → PlacedMovie) (media scale : Option ℕ) (m s : ℕ) → media ≡ Some m → scale ≡ Some s → kept_shown_in movie media scale ≡ kept_within (movie m s)
in_some movie media scale m s some_m some_s = rw (some_m, some_s) refl

-- ---- the movie where a track shows these segments, by divisors that were found
module _ (law : WholenessIsDivision) (give : DivisorsGiveScales) (number at : ℕ) (track : PlacedTrack) (movie : PlacedMovie) (h : IsThere number at track movie) (some_track : 0 < track.scale) (segments : List Segment) (first long : ℕ) (firsts : IsGreatestCommon (movie.scale * 1000 ∷ starts segments) first) (longs : IsGreatestCommon (track.scale * 1000 ∷ map duration segments) long) where
  some_movie : 0 < movie.scale
  some_movie = h.whole.bare.header.some_scale

  abbrev made : ℕ → ℕ → PlacedMovie
  made media scale = kept_shown at track media (map (told (unit movie.scale track.scale) media scale) segments) scale movie

  found_media : settled track.scale (as_times (unit movie.scale track.scale) (starts segments)) ≡ up_to most (track.scale * (movie.scale * 1000 / first))
  found_media = media_settled movie.scale track.scale segments first long some_movie some_track firsts longs law give

  found_scale : settled movie.scale (as_times (unit movie.scale track.scale) (map duration segments)) ≡ up_to most (movie.scale * (track.scale * 1000 / long))
  found_scale = scale_settled movie.scale track.scale segments first long some_movie some_track firsts longs law give

  pub no_media : (bad : Bad) → None ≡ up_to most (track.scale * (movie.scale * 1000 / first)) → bad ≡ bad_at ScaleLimit 0 → placed 0 (kept_reshown at movie track segments) ≡ Err bad
  no_media bad none is = ap (placed 0) (in_none made _ (settled movie.scale (as_times (unit movie.scale track.scale) (map duration segments))) (found_media ∙ sym none)) ∙ ap (λ (b : Bad). Err b) (sym is)

  pub no_scale : (media : ℕ) (bad : Bad) → Some media ≡ up_to most (track.scale * (movie.scale * 1000 / first)) → None ≡ up_to most (movie.scale * (track.scale * 1000 / long)) → bad ≡ bad_at ScaleLimit 0
      → placed 0 (kept_reshown at movie track segments) ≡ Err bad
  no_scale media bad some none is = ap (placed 0) (in_no_scale made _ _ media (found_media ∙ sym some) (found_scale ∙ sym none)) ∙ ap (λ (b : Bad). Err b) (sym is)

  module _ (media scale : ℕ) (edits : List Segment) (is_media : Some media ≡ up_to most (track.scale * (movie.scale * 1000 / first))) (is_scale : Some scale ≡ up_to most (movie.scale * (track.scale * 1000 / long))) (is_edits : edits ≡ map (capped_in first long) segments) where
    media_is : media ≡ track.scale * (movie.scale * 1000 / first)
    media_is = some_of most _ media is_media

    scale_is : scale ≡ movie.scale * (track.scale * 1000 / long)
    scale_is = some_of most _ scale is_scale

    pub media_multiple : track.scale ∣ media
    media_multiple = subst (λ (n : ℕ). track.scale ∣ n) (sym media_is) (dvd-mul_right track.scale (movie.scale * 1000 / first))

    pub scale_multiple : movie.scale ∣ scale
    scale_multiple = subst (λ (n : ℕ). movie.scale ∣ n) (sym scale_is) (dvd-mul_right movie.scale (track.scale * 1000 / long))

    pub media_some : 0 < media
    media_some = subst (λ (n : ℕ). 0 < n) (sym media_is) (some_media movie.scale track.scale segments first long some_movie some_track firsts longs)

    pub scale_some : 0 < scale
    scale_some = subst (λ (n : ℕ). 0 < n) (sym scale_is) (some_scale movie.scale track.scale segments first long some_movie some_track firsts longs)

    told_so : map (told (unit movie.scale track.scale) media scale) segments ≡ exact first long segments
    told_so =
        ap (λ (m : ℕ). map (told (unit movie.scale track.scale) m scale) segments) media_is
        ∙ (ap (λ (s : ℕ). map (told (unit movie.scale track.scale) (track.scale * (movie.scale * 1000 / first)) s) segments) scale_is ∙ told_is movie.scale track.scale segments first long some_movie some_track firsts longs)

    reshown_is : kept_reshown at movie track segments ≡ kept_within (kept_shown at track media (exact first long segments) scale movie)
    reshown_is =
        in_some made _ _ media scale (found_media ∙ sym is_media) (found_scale ∙ sym is_scale)
        ∙ ap (λ (es : List Segment). kept_within (kept_shown at track media es scale movie)) told_so

    limit_is : first_limit (kept_shown at track media (exact first long segments) scale movie) ≡ shown_limit movie track media edits scale
    limit_is =
        limit_shown number at media scale (exact first long segments) track movie h scale_multiple
        ∙ (limit_capped movie track media scale first long segments ∙ ap (λ (es : List Segment). shown_limit movie track media es scale) (sym is_edits))

    pub limited : (code : Code) (bad : Bad) → Some code ≡ shown_limit movie track media edits scale → bad ≡ bad_at code 0 → placed 0 (kept_reshown at movie track segments) ≡ Err bad
    limited code bad found is =
        ap (placed 0) (reshown_is ∙ unless_some (first_limit (kept_shown at track media (exact first long segments) scale movie)) code _ (limit_is ∙ sym found)) ∙ ap (λ (b : Bad). Err b) (sym is)

    edits_exact : None ≡ shown_limit movie track media edits scale → exact first long segments ≡ edits
    edits_exact none =
        within_limit movie track media scale first long segments (ap (λ (es : List Segment). shown_limit movie track media es scale) (sym is_edits) ∙ sym none) ∙ sym is_edits

    pub reshown : None ≡ shown_limit movie track media edits scale → placed 0 (kept_reshown at movie track segments) ≡ Ok (kept_shown at track media edits scale movie)
    reshown none =
        ap (placed 0) (reshown_is ∙ unless_none (first_limit (kept_shown at track media (exact first long segments) scale movie)) _ (limit_is ∙ sym none))
        ∙ ap (λ (es : List Segment). Ok (kept_shown at track media es scale movie)) (edits_exact none)

    pub fits : None ≡ shown_limit movie track media edits scale → first_limit (kept_shown at track media edits scale movie) ≡ None
    fits none = subst (λ (es : List Segment). first_limit (kept_shown at track media es scale movie) ≡ None) (edits_exact none) (limit_is ∙ sym none)

    pub told_exact : None ≡ shown_limit movie track media edits scale → Tells (unit movie.scale track.scale) media scale segments edits
    told_exact none =
        subst (λ (es : List Segment). Tells (unit movie.scale track.scale) media scale segments es) (edits_exact none)
        (subst (λ (m : ℕ). Tells (unit movie.scale track.scale) m scale segments (exact first long segments)) (sym media_is)
        (subst (λ (s : ℕ). Tells (unit movie.scale track.scale) (track.scale * (movie.scale * 1000 / first)) s segments (exact first long segments)) (sym scale_is)
        (tells movie.scale track.scale segments first long some_movie some_track firsts longs)))
