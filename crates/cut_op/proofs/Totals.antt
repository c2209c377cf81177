-- How long a cut track lasts.
use Rattle.std.proofs.Common.{◌≡◌, ℕ, ◌+◌, ◌-◌, ◌*◌, ◌<◌, ◌≤◌, min, true, ltb, List, [], ◌∷◌, map, ℤ, pos, ◌-ℤ◌, ◌*ℤ◌, refl, sym, ap, ◌∙◌, arith, inl, inr, true≢false}
use Rattle.std.specs.Prelude.{int_lt, unsigned_abs}
use Rattle.std.proofs.Math.Nat.{mul_assoc, add-mul, eq_of_mul-eq-mul_right}
use Rattle.std.proofs.lemmas.Bool.{cases_lt, le-ltb}
use Rattle.std.proofs.lemmas.List.Sums.{sum_by-cons}
use Rattle.mp_frac.specs.declared.time.Frac.{Frac}
use Rattle.mp_timeline.specs.declared.segment.Segment.{Segment}
use Rattle.mp_timeline.specs.declared.segment.Segment.TheVariants.{Empty, Media}
use Rattle.mp_timeline.specs.Movie.{TrackRecord}
use Rattle.mp_edits.specs.Segments.{duration, shifted, total}
use Rattle.mp_shown.specs.Fractions.{is_before}
use Rattle.mp_shown.specs.Segments.{explicit, in_unit}
use Rattle.mp_shown.specs.Law.{PiecesShow}
use Rattle.mp_clip.specs.Clipped.{IsRange, unit}
use Rattle.track_ops.specs.Told.{or_empty}
use Rattle.cut_op.specs.Needed.{kept_samples}
use Rattle.cut_op.specs.Track.{cut_track, first_decode, late_by, track_pieces, track_samples}
use Rattle.cut_op.specs.Shows.{length_in}
use Rattle.cut_op.proofs.Units.{le-times}
use Rattle.cut_op.proofs.Shows.{natural}

pub total-in_unit : (a b : ℕ) (segments : List Segment) → total (map (in_unit a b) segments) ≡ total segments * b
total-in_unit a b [] = omega arith
total-in_unit a b (segment ∷ segments) =
    sum_by-cons duration (in_unit a b segment) (map (in_unit a b) segments)
    ∙ (ap (λ (x : ℕ). x + total (map (in_unit a b) segments)) (one segment) ∙ (ap (λ (x : ℕ). duration segment * b + x) (total-in_unit a b segments)
    ∙ (sym (add-mul (duration segment) (total segments) b) ∙ ap (λ (x : ℕ). x * b) (sym (sum_by-cons duration segment segments)))))
  where
    one : (segment : Segment) → duration (in_unit a b segment) ≡ duration segment * b
    one (Empty dur) = refl
    one (Media start dur) = refl

pub total-empty : (segments : List Segment) → total (or_empty segments) ≡ total segments
total-empty [] = refl
total-empty (segment ∷ segments) = refl

total-shifted : (by : ℤ) (segments : List Segment) → total (map (shifted by) segments) ≡ total segments
total-shifted by [] = refl
total-shifted by (segment ∷ segments) =
    sum_by-cons duration (shifted by segment) (map (shifted by) segments)
    ∙ (ap (λ (x : ℕ). x + total (map (shifted by) segments)) (one segment) ∙ (ap (λ (x : ℕ). duration segment + x) (total-shifted by segments) ∙ sym (sum_by-cons duration segment segments)))
  where
    one : (segment : Segment) → duration (shifted by segment) ≡ duration segment
    one (Empty dur) = refl
    one (Media start dur) = refl

total-moved : (by : ℤ) (u : ℕ) (segments : List Segment) → total (map (in_unit u u) (or_empty (map (shifted by) segments))) ≡ total segments * u
total-moved by u segments = total-in_unit u u (or_empty (map (shifted by) segments)) ∙ ap (λ (x : ℕ). x * u) (total-empty (map (shifted by) segments) ∙ total-shifted by segments)

pub lt-from-ltb : (a b : ℕ) → ltb a b ≡ true → a < b
lt-from-ltb a b test = elim (cases_lt a b) [
  | inl lt ↦ lt
  | inr le ↦ absurd (true≢false (sym test ∙ le-ltb a b le))
]

-- the range's begin, in the unit, comes before its end
in_order : (movie scale : ℕ) (from to : Frac) → IsRange from to → is_before from to ≡ true → unsigned_abs from.n * movie * (to.d * scale) ≤ unsigned_abs to.n * movie * (from.d * scale)
in_order movie scale from to range test =
    let naturals : int_lt (from.n *ℤ pos to.d) (to.n *ℤ pos from.d) ≡ ltb (unsigned_abs from.n * to.d) (unsigned_abs to.n * from.d) =
    ap (λ (z : ℤ). int_lt (z *ℤ pos to.d) (to.n *ℤ pos from.d)) (natural from.n range.begin) ∙ ap (λ (z : ℤ). int_lt (pos (unsigned_abs from.n) *ℤ pos to.d) (z *ℤ pos from.d)) (natural to.n range.end) in
    let lt = lt-from-ltb _ _ (sym naturals ∙ test) in
    let le = le-times (unsigned_abs from.n * to.d) (unsigned_abs to.n * from.d) (movie * scale) (omega (arith, lt)) in
    omega (arith, le, turn (unsigned_abs from.n) movie to.d scale, turn (unsigned_abs to.n) movie from.d scale)
  where
    turn : (a m d s : ℕ) → a * m * (d * s) ≡ a * d * (m * s)
    turn a m d s = omega arith

pub exact_total : PiecesShow → (movie : ℕ) (track : TrackRecord) (from to : Frac) → IsRange from to → is_before from to ≡ true
    → total (explicit (unit track.scale movie from to) (cut_track movie from to track) 1)
    ≡ (min (length_in movie from to track) (unsigned_abs to.n * movie * (from.d * track.scale)) - unsigned_abs from.n * movie * (to.d * track.scale)) * unit track.scale movie from to
exact_total law movie track from to range test =
    let u = unit track.scale movie from to in
    let from_at = unsigned_abs from.n * movie * (to.d * track.scale) in
    let to_at = unsigned_abs to.n * movie * (from.d * track.scale) in
    let whole = explicit movie track (from.d * to.d) in
    let one : u * 1 ≡ u = omega arith in
    let lasts = law.total whole from_at to_at (in_order movie track.scale from to range test) in
    let difference : min to_at (total whole) - min from_at (total whole) ≡ min (total whole) to_at - from_at = omega (arith, in_order movie track.scale from to range test) in
    let segments = track_pieces movie from to track in
    let kept = kept_samples segments (track_samples movie from to track) in
    total-moved (pos (late_by segments kept) -ℤ pos (first_decode kept)) (u * 1) segments
    ∙ (ap (λ (x : ℕ). x * (u * 1)) (lasts ∙ difference) ∙ ap (λ (x : ℕ). (min (total whole) to_at - from_at) * x) one)

-- a product that the unit is taken out of
pub without_unit : (lasts new unit scales : ℕ) → 0 < unit → lasts * unit * scales ≡ new * (unit * unit) → new * unit ≡ lasts * scales
without_unit lasts new unit scales some e = eq_of_mul-eq-mul_right unit some (new * unit) (lasts * scales) (mul_assoc new unit unit ∙ (sym e ∙ turn lasts unit scales))
  where
    turn : (a b c : ℕ) → a * b * c ≡ a * c * b
    turn a b c = omega arith
