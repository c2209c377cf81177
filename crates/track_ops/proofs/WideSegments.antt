-- Segments in one unit, one after another.
use Rattle.std.proofs.Common.{◌≡◌, ℕ, zero, suc, ◌+◌, ◌-◌, ◌*◌, ◌^◌, ◌<◌, ◌≤◌, min, false, List, [], ◌∷◌, ◌++◌, length, map, drop, get_or, Option, Some, None, refl, sym, ap, ◌∙◌, subst, arith, inl, inr}
use Rattle.std.specs.Prelude.{IfSome}
use Rattle.std.specs.List.{AllByRecursion, list_any}
use Rattle.std.proofs.Math.Nat.{mul-le-mul_left, mul-le-mul_right}
use Rattle.std.proofs.lemmas.Bool.{cases_lt, lt-ltb, le-ltb, leb-false}
use Rattle.std.proofs.lemmas.List.{append_assoc, append-nil, drop_all, drop_more, map-append}
use Rattle.std.proofs.lemmas.List.Sums.{sum_by-cons}
use Rattle.mp_timeline.specs.declared.segment.Segment.{Segment}
use Rattle.mp_timeline.specs.declared.segment.Segment.TheVariants.{Empty, Media}
use Rattle.mp_edits.specs.EditBox.{segments_in}
use Rattle.mp_edits.specs.Segments.{duration, starts_late, total}
use Rattle.mp_movie.specs.Durations.{extent}
use Rattle.mp_movie.specs.Placed.{PlacedTrack}
use Rattle.mp_movie.specs.StandsFor.{samples_of, track_for}
use Rattle.mp_shown.specs.Segments.{explicit, in_unit, part, pieces, segments_of, whole_media}
use Rattle.mp_clip.specs.Clipped.{starts}
use Rattle.track_ops.specs.declared.wide.Wide.{Wide}
use Rattle.track_ops.specs.Wide.{CanStartBehind, CanWiden, as_segment, as_segments}
use Rattle.track_ops.proofs.Lists.{neither}

pub as_duration : (wide : Wide) → duration (as_segment wide) ≡ wide.length
as_duration wide = by wide.start
  where
    by : (start : Option ℕ) → duration (as_segment (record wide { start = start })) ≡ wide.length
    by None = refl
    by (Some start) = refl

-- one more is told
pub told_next : {A : Type 0} (f : A → Segment) (done : List Wide) (wide : Wide) (xs : List A) (i : ℕ) (d : A) → i < length xs → as_segment wide ≡ f (get_or xs i d)
    → as_segments (done ++ wide ∷ []) ++ map f (drop (i + 1) xs) ≡ as_segments done ++ map f (drop i xs)
told_next f done wide xs i d lt is =
    ap (λ (front : List Segment). front ++ map f (drop (i + 1) xs)) (map-append as_segment done (wide ∷ []))
    ∙ (append_assoc (as_segments done) (as_segment wide ∷ []) (map f (drop (i + 1) xs))
    ∙ ap (λ (behind : List Segment). as_segments done ++ behind) (ap (λ (s : Segment). s ∷ map f (drop (i + 1) xs)) is ∙ sym (ap (map f) (drop_more xs i d lt))))

-- at the end all are
pub told_all : {A : Type 0} (f : A → Segment) (done : List Segment) (xs : List A) (i : ℕ) → length xs ≤ i → done ≡ done ++ map f (drop i xs)
told_all f done xs i past = sym (ap (λ (rest : List Segment). done ++ rest) (ap (map f) (drop_all i xs past)) ∙ append-nil done)

-- how long those are that are left
pub total_next : (wides : List Wide) (i : ℕ) (d : Wide) → i < length wides → total (as_segments (drop i wides)) ≡ (get_or wides i d).length + total (as_segments (drop (i + 1) wides))
total_next wides i d lt =
    ap (λ (ws : List Wide). total (as_segments ws)) (drop_more wides i d lt)
    ∙ (sum_by-cons duration (as_segment (get_or wides i d)) (as_segments (drop (i + 1) wides)) ∙ ap (λ (n : ℕ). n + total (as_segments (drop (i + 1) wides))) (as_duration (get_or wides i d)))

pub total_end : (wides : List Wide) (i : ℕ) → length wides ≤ i → total (as_segments (drop i wides)) ≡ 0
total_end wides i past = ap (λ (ws : List Wide). total (as_segments ws)) (drop_all i wides past)

-- ---- what is left behind a time

left_some : (time : ℕ) (segment : Segment) (segments : List Segment) → time < duration segment
    → pieces time (total (segment ∷ segments)) (segment ∷ segments) ≡ part segment time (duration segment) ∷ pieces (time - duration segment) (total segments) segments
left_some time segment segments lt =
    let all = sum_by-cons duration segment segments in
    let low : min time (duration segment) ≡ time = omega (arith, lt) in
    let high : min (total (segment ∷ segments)) (duration segment) ≡ duration segment = omega (arith, all) in
    let rest : total (segment ∷ segments) - duration segment ≡ total segments = omega (arith, all) in
    rw (low, high, rest) (rw (lt-ltb time (duration segment) lt) refl)

left_none : (time : ℕ) (segment : Segment) (segments : List Segment) → duration segment ≤ time
    → pieces time (total (segment ∷ segments)) (segment ∷ segments) ≡ pieces (time - duration segment) (total segments) segments
left_none time segment segments le =
    let all = sum_by-cons duration segment segments in
    let low : min time (duration segment) ≡ duration segment = omega (arith, le) in
    let high : min (total (segment ∷ segments)) (duration segment) ≡ duration segment = omega (arith, all) in
    let rest : total (segment ∷ segments) - duration segment ≡ total segments = omega (arith, all) in
    rw (low, high, rest) (rw (le-ltb (duration segment) (duration segment) (omega arith)) refl)

-- what is left of the segments from a place on
abbrev pub left_of : ℕ → List Wide → List Segment
left_of time wides = pieces time (total (as_segments wides)) (as_segments wides)

pub behind_some : (done wides : List Wide) (piece : Wide) (time i : ℕ) (d : Wide) → i < length wides → time < (get_or wides i d).length
    → as_segment piece ≡ part (as_segment (get_or wides i d)) time (get_or wides i d).length
    → as_segments (done ++ piece ∷ []) ++ left_of (time - (get_or wides i d).length) (drop (i + 1) wides) ≡ as_segments done ++ left_of time (drop i wides)
behind_some done wides piece time i d lt less is =
    let wide = get_or wides i d in
    let rest = drop (i + 1) wides in
    let long = as_duration wide in
    ap (λ (front : List Segment). front ++ left_of (time - wide.length) rest) (map-append as_segment done (piece ∷ []))
    ∙ (append_assoc (as_segments done) (as_segment piece ∷ []) (left_of (time - wide.length) rest)
    ∙ ap (λ (behind : List Segment). as_segments done ++ behind)
    (ap (λ (s : Segment). s ∷ left_of (time - wide.length) rest) is
    ∙ (ap (λ (n : ℕ). part (as_segment wide) time n ∷ pieces (time - n) (total (as_segments rest)) (as_segments rest)) (sym long)
    ∙ (sym (left_some time (as_segment wide) (as_segments rest) (subst (λ (n : ℕ). time < n) (sym long) less)) ∙ sym (ap (left_of time) (drop_more wides i d lt))))))

pub behind_none : (done : List Segment) (wides : List Wide) (time i : ℕ) (d : Wide) → i < length wides → (get_or wides i d).length ≤ time
    → done ++ left_of (time - (get_or wides i d).length) (drop (i + 1) wides) ≡ done ++ left_of time (drop i wides)
behind_none done wides time i d lt le =
    let wide = get_or wides i d in
    let rest = drop (i + 1) wides in
    let long = as_duration wide in
    ap (λ (behind : List Segment). done ++ behind)
    (ap (λ (n : ℕ). pieces (time - n) (total (as_segments rest)) (as_segments rest)) (sym long)
    ∙ (sym (left_none time (as_segment wide) (as_segments rest) (subst (λ (n : ℕ). n ≤ time) (sym long) le)) ∙ sym (ap (left_of time) (drop_more wides i d lt))))

pub behind_all : (done : List Segment) (wides : List Wide) (time i : ℕ) → length wides ≤ i → done ≡ done ++ left_of time (drop i wides)
behind_all done wides time i past = sym (ap (λ (rest : List Segment). done ++ rest) (ap (left_of time) (drop_all i wides past)) ∙ append-nil done)

-- a start that can be so much later can be less later
pub start_room : (wides : List Wide) (time left i : ℕ) (d : Wide) → i < length wides → left ≤ time → CanStartBehind time wides → IfSome (get_or wides i d).start (λ start. start + left < 2 ^ 128)
start_room [] time left i d lt le room = absurd (omega (arith, lt))
start_room (wide ∷ wides) time left zero d lt le room = by wide.start room
  where
    by : (start : Option ℕ) → AllByRecursion (λ start. start + time < 2 ^ 128) (starts (as_segment (record wide { start = start }) ∷ as_segments wides)) → IfSome start (λ start. start + left < 2 ^ 128)
    by None room = tt
    by (Some start) room = let small = room.0 in omega (arith, small, le)
start_room (wide ∷ wides) time left (suc i) d lt le room = start_room wides time left i d (omega (arith, lt)) le (later wide.start room)
  where
    later : (start : Option ℕ) → AllByRecursion (λ start. start + time < 2 ^ 128) (starts (as_segment (record wide { start = start }) ∷ as_segments wides)) → CanStartBehind time wides
    later None room = room
    later (Some start) room = room.1

-- ---- how great the numbers of a track are in the unit

total_in_unit : (of_start of_length : ℕ) (segments : List Segment) → total (map (in_unit of_start of_length) segments) ≡ total segments * of_length
total_in_unit of_start of_length [] = omega arith
total_in_unit of_start of_length (segment ∷ segments) =
    let rest = total_in_unit of_start of_length segments in
    let first = one segment in
    let mine = sum_by-cons duration segment segments in
    let wide = sum_by-cons duration (in_unit of_start of_length segment) (map (in_unit of_start of_length) segments) in
    wide ∙ (omega (arith, rest, first) ∙ (sym (distribute (duration segment) (total segments)) ∙ ap (λ (n : ℕ). n * of_length) (sym mine)))
  where
    one : (segment : Segment) → duration (in_unit of_start of_length segment) ≡ duration segment * of_length
    one (Empty dur) = refl
    one (Media start dur) = refl

    distribute : (a b : ℕ) → (a + b) * of_length ≡ a * of_length + b * of_length
    distribute a b = omega arith

product_short : (a b p q : ℕ) → a < p → b ≤ q → a * b ≤ p * q
product_short a b p q less le =
    let first = mul-le-mul_right b (below a p less) in
    let second = mul-le-mul_left p le in
    omega (arith, first, second)
  where
    below : (a p : ℕ) → a < p → a ≤ p
    below a p less = omega (arith, less)

starts_in_unit : (of_start of_length time : ℕ) (segments : List Segment) → of_start < 2 ^ 42 → time ≤ 2 ^ 96 → list_any starts_late segments ≡ false
    → AllByRecursion (λ start. start + time < 2 ^ 128) (starts (map (in_unit of_start of_length) segments))
starts_in_unit of_start of_length time [] unit short early = tt
starts_in_unit of_start of_length time (Empty dur ∷ segments) unit short early = starts_in_unit of_start of_length time segments unit short early
starts_in_unit of_start of_length time (Media start dur ∷ segments) unit short early =
    let both = neither (starts_late (Media start dur)) (list_any starts_late segments) early in
    let small = leb-false (2 ^ 62) start both.0 in
    let product = product_short start of_start (2 ^ 62) (2 ^ 42) small (omega (arith, unit)) in
    (omega (arith, product, short), starts_in_unit of_start of_length time segments unit short both.1)

whole_total : (length : ℕ) → total (whole_media length) ≡ length
whole_total length = elim (cases_lt 0 length) [
  | inl lt ↦ rw (lt-ltb 0 length lt) (sum_by-cons duration (Media 0 length) [] ∙ omega arith)
  | inr le ↦ let none : length ≡ 0 = omega (arith, le) in rw none refl
]

whole_starts : (length time : ℕ) → time ≤ 2 ^ 96 → AllByRecursion (λ start. start + time < 2 ^ 128) (starts (whole_media length))
whole_starts length time short = elim (cases_lt 0 length) [
  | inl lt ↦ rw (lt-ltb 0 length lt) ((omega (arith, short), tt))
  | inr le ↦ let none : length ≡ 0 = omega (arith, le) in rw none tt
]

-- 128 bits hold them
pub wide_fits : (files : List (List ℕ)) (movie time : ℕ) (track : PlacedTrack) → movie < 2 ^ 32 → track.scale < 2 ^ 32 → time ≤ 2 ^ 96 → CanWiden track
    → (total (explicit movie (track_for files track) 1000) < 2 ^ 128) × AllByRecursion (λ start. start + time < 2 ^ 128) (starts (explicit movie (track_for files track) 1000))
wide_fits files movie time track below small short can = by track.edits can.short can.early
  where
    by : (edits : Option (List Segment)) → total (segments_in edits) < 2 ^ 62 → list_any starts_late (segments_in edits) ≡ false
        → (total (segments_of (movie * 1000) (track.scale * 1000) (extent (samples_of files track)) edits) < 2 ^ 128)
        × AllByRecursion (λ start. start + time < 2 ^ 128) (starts (segments_of (movie * 1000) (track.scale * 1000) (extent (samples_of files track)) edits))
    by None long early =
        let product = product_short (extent (samples_of files track)) (movie * 1000) (2 ^ 64) (2 ^ 42) (can.media files) (omega (arith, below)) in
        let all = whole_total (extent (samples_of files track) * (movie * 1000)) in
        (omega (arith, product, all), whole_starts (extent (samples_of files track) * (movie * 1000)) time short)
    by (Some edits) long early =
        let product = product_short (total edits) (track.scale * 1000) (2 ^ 62) (2 ^ 42) long (omega (arith, small)) in
        let all = total_in_unit (movie * 1000) (track.scale * 1000) edits in
        (omega (arith, product, all), starts_in_unit (movie * 1000) (track.scale * 1000) time edits (omega (arith, below)) short early)
