-- The limits of a film's movie, by what is kept of it.
use Rattle.std.proofs.Common.{◌≡◌, ℕ, zero, suc, ◌+◌, ◌-◌, ◌*◌, ◌^◌, ◌<◌, ◌≤◌, ◌==◌, ◌&&◌, ◌||◌, nat_lt, nat_le, Bool, true, false, List, [], ◌∷◌, length, map, drop, Option, None, Some, refl, sym, ap, ◌∙◌, arith, zero-add}
use Rattle.std.proofs.lemmas.Bool.{lt-ltb, le-ltb, ne_eqb}
use Rattle.std.specs.Prelude.{get_or, slice_index, sum_by, if◌then◌else◌}
use Rattle.std.specs.List.{list_any, range_with_len}
use Rattle.std.proofs.lemmas.List.FromFn.{length-map-range_with_len, get_or-map-range_with_len}
use Rattle.std.proofs.lemmas.List.Sums.{sum_by-cons}
use Rattle.mp_frac.specs.Divisors.{most}
use Rattle.mp_ports.specs.Checks.{first_code}
use Rattle.mp_ports.specs.declared.code.Code.TheVariants.{ScaleLimit, DeltaLimit, OffsetLimit, DurationLimit, StartLimit, SizeLimit}
use Rattle.mp_edits.specs.EditBox.{segments_in}
use Rattle.mp_edits.specs.Segments.{starts_late, total}
use Rattle.mp_timeline.specs.declared.segment.Segment.TheVariants.{Media}
use Rattle.mp_pieces.specs.declared.piece.Piece.{Piece}
use Rattle.mp_pieces.specs.Piece.{piece_len}
use Rattle.avc_units.specs.declared.reader.UnitSpan.{UnitSpan}
use Rattle.avc_import.specs.declared.rate.Rate.{Rate}
use Rattle.avc_import.specs.declared.film.Shots.{Shots}
use Rattle.avc_import.specs.declared.schedule.Schedule.{Schedule}
use Rattle.avc_import.specs.Ranking.{shown_at}
use Rattle.avc_import.specs.Film.{Film, edits, is_long, limit_checks, offset, part_len, schedule}
use Rattle.avc_import.specs.Pictures.{piece_of}
use Rattle.avc_import.specs.Movie.{AreShots}
use Rattle.avc_import.proofs.Showing.{latest_ge}

-- ---- the order of showing

-- a picture's number, as it is kept
pub shown_is : (file size : ℕ) (rate : Option Rate) (film : Film) (shots : Shots) (k : ℕ) → AreShots file size rate film shots → k < length film.counts
    → slice_index shots.order.shown.items k ≡ shown_at film.counts film.syncs k
shown_is file size rate film shots k are inside =
    ap (λ (shown : List ℕ). slice_index shown k) are.shown ∙ get_or-map-range_with_len (shown_at film.counts film.syncs) 0 (length film.counts) k k 0 inside (zero-add k)

-- there are as many
pub shown_len : (file size : ℕ) (rate : Option Rate) (film : Film) (shots : Shots) → AreShots file size rate film shots → length shots.order.shown.items ≡ length film.counts
shown_len file size rate film shots are = ap length are.shown ∙ length-map-range_with_len (shown_at film.counts film.syncs) 0 (length film.counts)

-- none is shown before it is decoded
pub not_early : (film : Film) (rate : Option Rate) (k : ℕ) → k < length film.counts → k ≤ shown_at film.counts film.syncs k + (schedule rate film).delay
not_early film rate k inside =
    let late = latest_ge film.counts film.syncs (length film.counts) k inside in
    omega (arith, late)

pub shown_late : (file size : ℕ) (rate : Option Rate) (film : Film) (shots : Shots) (k : ℕ) → AreShots file size rate film shots → k < length film.counts
    → k ≤ slice_index shots.order.shown.items k + shots.schedule.delay
shown_late file size rate film shots k are inside =
    rw (shown_is file size rate film shots k are inside, are.schedule_is) (not_early film rate k inside)

-- ---- one picture after another

-- a picture is shown later behind its decoding than 32 bits say
abbrev pub late_at : List ℕ → Schedule → ℕ → Bool
late_at shown s k = nat_lt most ((slice_index shown k + s.delay - k) * s.ticks)

pub late_none : (f : ℕ → Bool) (n : ℕ) → list_any f (range_with_len 0 (n - 0)) ≡ list_any f (range_with_len 0 n)
late_none f n = let same : n - 0 ≡ n = omega arith in ap (λ (m : ℕ). list_any f (range_with_len 0 m)) same

pub late_on : (f : ℕ → Bool) (k n : ℕ) → k < n → f k ≡ false → list_any f (range_with_len (k + 1) (n - (k + 1))) ≡ list_any f (range_with_len k (n - k))
late_on f k n inside plain =
    let more : n - k ≡ suc (n - (k + 1)) = omega (arith, inside) in
    rw (more, plain) refl

pub late_here : (f : ℕ → Bool) (k n : ℕ) → k < n → f k ≡ true → list_any f (range_with_len k (n - k)) ≡ true
late_here f k n inside is =
    let more : n - k ≡ suc (n - (k + 1)) = omega (arith, inside) in
    rw (more, is) refl

pub late_end : (f : ℕ → Bool) (k n : ℕ) → n ≤ k → list_any f (range_with_len k (n - k)) ≡ false
late_end f k n past =
    let none : n - k ≡ 0 = omega (arith, past) in
    rw none refl

pub late_is_so : (shown : List ℕ) (s : Schedule) (k x : ℕ) → x ≡ (slice_index shown k + s.delay - k) * s.ticks → most < x → late_at shown s k ≡ true
late_is_so shown s k x is less = rw (← is) (lt-ltb most x less)

pub late_is_not : (shown : List ℕ) (s : Schedule) (k x : ℕ) → x ≡ (slice_index shown k + s.delay - k) * s.ticks → x ≤ most → late_at shown s k ≡ false
late_is_not shown s k x is few = rw (← is) (le-ltb most x few)

-- ---- each test

any-range : (f g : ℕ → Bool) (a n : ℕ) → ((k : ℕ) → a ≤ k → k < a + n → f k ≡ g k) → list_any f (range_with_len a n) ≡ list_any g (range_with_len a n)
any-range f g a zero same = refl
any-range f g a (suc n) same =
    rw (same a (omega arith) (omega arith), any-range f g (a + 1) n (λ k from before. same k (omega (arith, from)) (omega (arith, before)))) refl

late_is : (file size : ℕ) (rate : Option Rate) (film : Film) (shots : Shots) → AreShots file size rate film shots
    → list_any (λ k. nat_lt most ((slice_index shots.order.shown.items k + shots.schedule.delay - k) * shots.schedule.ticks)) (range_with_len 0 (length shots.order.shown.items))
    ≡ list_any (λ k. nat_lt most (offset film (schedule rate film) k)) (range_with_len 0 (length film.counts))
late_is file size rate film shots are =
    rw (shown_len file size rate film shots are, are.schedule_is)
    (any-range _ _ 0 (length film.counts) (λ k from before.
    ap (λ (number : ℕ). nat_lt most ((number + (schedule rate film).delay - k) * (schedule rate film).ticks)) (shown_is file size rate film shots k are (omega (arith, before)))))

suc_some : (n : ℕ) → (suc n == 0) ≡ false
suc_some n = ne_eqb (suc n) 0 (λ is. absurd (omega (arith, is)))

or_none : (b : Bool) → (b || false) ≡ b
or_none true = refl
or_none false = refl

pub lasts_is : (s : Schedule) → nat_le (2 ^ 62) (total (segments_in (edits s))) ≡ (nat_lt 0 s.delay && nat_le (2 ^ 62) s.lasts)
lasts_is s = by_delay s.delay
  where
    by_delay : (delay : ℕ) → nat_le (2 ^ 62) (total (segments_in (if delay == 0 then None else Some (Media (s.delay * s.ticks) s.lasts ∷ [])))) ≡ (nat_lt 0 delay && nat_le (2 ^ 62) s.lasts)
    by_delay zero = refl
    by_delay (suc delay) = rw (suc_some delay, lt-ltb 0 (suc delay) (omega arith)) (ap (nat_le (2 ^ 62)) (zero-add s.lasts))

pub starts_is : (s : Schedule) → list_any starts_late (segments_in (edits s)) ≡ nat_le (2 ^ 62) (s.delay * s.ticks)
starts_is s = by_delay s.delay
  where
    none : (t : ℕ) → 0 * t ≡ 0
    none t = omega arith

    by_delay : (delay : ℕ) → list_any starts_late (segments_in (if delay == 0 then None else Some (Media (delay * s.ticks) s.lasts ∷ []))) ≡ nat_le (2 ^ 62) (delay * s.ticks)
    by_delay zero = sym (ap (nat_le (2 ^ 62)) (none s.ticks))
    by_delay (suc delay) = rw (suc_some delay) (or_none (nat_le (2 ^ 62) (suc delay * s.ticks)))

-- ---- all of them

limits_by : (film : Film) (s : Schedule) (a b c d e f : Bool) → nat_lt most s.movie_scale ≡ a → nat_lt most s.ticks ≡ b → list_any (λ k. nat_lt most (offset film s k)) (range_with_len 0 (length film.counts)) ≡ c
    → nat_le (2 ^ 62) (total (segments_in (edits s))) ≡ d → list_any starts_late (segments_in (edits s)) ≡ e → list_any is_long film.parts ≡ f
    → first_code ((a, ScaleLimit) ∷ (b, DeltaLimit) ∷ (c, OffsetLimit) ∷ (d, DurationLimit) ∷ (e, StartLimit) ∷ (f, SizeLimit) ∷ []) ≡ first_code (limit_checks film s)
limits_by film s a b c d e f scale ticks offsets lasts starts sizes =
    rw (← scale, ← ticks, ← offsets, ← lasts, ← starts, ← sizes) refl

-- as they are tested
pub limits_are : (file size : ℕ) (rate : Option Rate) (film : Film) (shots : Shots) (late large : Bool) → AreShots file size rate film shots → nat_lt most shots.schedule.movie_scale ≡ false
    → late ≡ list_any (λ k. nat_lt most ((slice_index shots.order.shown.items k + shots.schedule.delay - k) * shots.schedule.ticks)) (range_with_len 0 (length shots.order.shown.items))
    → large ≡ list_any is_long film.parts
    → first_code ((false, ScaleLimit) ∷ (nat_lt most shots.schedule.ticks, DeltaLimit) ∷ (late, OffsetLimit) ∷ (nat_lt 0 shots.schedule.delay && nat_le (2 ^ 62) shots.schedule.lasts, DurationLimit)
    ∷ (nat_le (2 ^ 62) (shots.schedule.delay * shots.schedule.ticks), StartLimit) ∷ (large, SizeLimit) ∷ [])
    ≡ first_code (limit_checks film (schedule rate film))
limits_are file size rate film shots late large are fits late_so large_so =
    let s = shots.schedule in
    limits_by film s false (nat_lt most s.ticks) late (nat_lt 0 s.delay && nat_le (2 ^ 62) s.lasts) (nat_le (2 ^ 62) (s.delay * s.ticks)) large fits refl
    (sym (late_so ∙ late_is file size rate film shots are ∙ ap (λ (t : Schedule). list_any (λ k. nat_lt most (offset film t k)) (range_with_len 0 (length film.counts))) (sym are.schedule_is)))
    (lasts_is s) (starts_is s) (sym large_so) ∙ ap (λ (t : Schedule). first_code (limit_checks film t)) are.schedule_is

-- ---- sizes

pub length-piece : (file : ℕ) (part : List UnitSpan) → sum_by piece_len (map (piece_of file) part) ≡ part_len part
length-piece file [] = refl
length-piece file (u ∷ part) =
    let rest = length-piece file part in
    let pieces : sum_by piece_len (map (piece_of file) (u ∷ part)) ≡ (u.len + 4) + sum_by piece_len (map (piece_of file) part) = sum_by-cons piece_len (piece_of file u) (map (piece_of file) part) in
    let units : part_len (u ∷ part) ≡ (4 + u.len) + part_len part = sum_by-cons (λ (u : UnitSpan). 4 + u.len) u part in
    omega (arith, rest, pieces, units)

or_is : (a b : Bool) → (a || b) ≡ (if a then true else b)
or_is true b = refl
or_is false b = refl

-- one picture's sample after another
pub large_on : (file : ℕ) (parts : List (List UnitSpan)) (k : ℕ) (pieces : List Piece) (long : Bool) → k < length parts → pieces ≡ map (piece_of file) (get_or parts k [])
    → long ≡ nat_lt most (sum_by piece_len pieces) → list_any is_long (drop k parts) ≡ (if long then true else list_any is_long (drop (k + 1) parts))
large_on file [] k pieces long inside is so = absurd (omega arith)
large_on file (part ∷ parts) zero pieces long inside is so = rw (so, is, length-piece file part) (or_is (is_long part) (list_any is_long parts))
large_on file (part ∷ parts) (suc k) pieces long inside is so =
    let next : suc k + 1 ≡ suc (k + 1) = omega arith in
    rw next (large_on file parts k pieces long (omega (arith, inside)) is so)

pub large_end : (parts : List (List UnitSpan)) (k : ℕ) → length parts ≤ k → list_any is_long (drop k parts) ≡ false
large_end [] zero past = refl
large_end [] (suc k) past = refl
large_end (part ∷ parts) zero past = absurd (omega arith)
large_end (part ∷ parts) (suc k) past = large_end parts k (omega (arith, past))

-- the first limit, where the tests before it aren't passed
pub limit_by : (file size : ℕ) (rate : Option Rate) (film : Film) (shots : Shots) (a b c d e : Bool) → AreShots file size rate film shots → shots.schedule.movie_scale ≤ most
    → nat_lt most shots.schedule.ticks ≡ a
    → b ≡ list_any (λ k. nat_lt most ((slice_index shots.order.shown.items k + shots.schedule.delay - k) * shots.schedule.ticks)) (range_with_len 0 (length shots.order.shown.items))
    → (nat_lt 0 shots.schedule.delay && nat_le (2 ^ 62) shots.schedule.lasts) ≡ c → nat_le (2 ^ 62) (shots.schedule.delay * shots.schedule.ticks) ≡ d → e ≡ list_any is_long film.parts
    → first_code ((false, ScaleLimit) ∷ (a, DeltaLimit) ∷ (b, OffsetLimit) ∷ (c, DurationLimit) ∷ (d, StartLimit) ∷ (e, SizeLimit) ∷ []) ≡ first_code (limit_checks film (schedule rate film))
limit_by file size rate film shots a b c d e are few ticks late lasts starts large =
    rw (← ticks, ← lasts, ← starts) (limits_are file size rate film shots b e are (le-ltb most shots.schedule.movie_scale few) late large)

pub late_given : (shown given : List ℕ) (s : Schedule) (late : Bool) → given ≡ shown → late ≡ list_any (late_at given s) (range_with_len 0 (length given))
    → late ≡ list_any (late_at shown s) (range_with_len 0 (length shown))
late_given shown given s late same is = is ∙ ap (λ (t : List ℕ). list_any (late_at t s) (range_with_len 0 (length t))) same

pub late_room : (file size : ℕ) (rate : Option Rate) (film : Film) (shots : Shots) (given : List ℕ) → AreShots file size rate film shots → given ≡ shots.order.shown.items
    → (k : ℕ) → k < length given → k ≤ slice_index given k + shots.schedule.delay
late_room file size rate film shots given are same k inside =
    let number = ap length same ∙ shown_len file size rate film shots are in
    rw same (shown_late file size rate film shots k are (omega (arith, inside, number)))
