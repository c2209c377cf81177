-- A track that is cut, in its unit, shows what the track shows in the range.
use Rattle.std.proofs.Common.{◌≡◌, ℕ, ◌+◌, ◌*◌, ◌<◌, Bool, true, false, cond, ltb, List, [], ◌∷◌, map, filter, Option, Some, None, ℤ, pos, ◌+ℤ◌, ◌*ℤ◌, ◌≤ℤ◌, refl, sym, ap, ◌∙◌, arith}
use Rattle.std.specs.Prelude.{int_lt, unsigned_abs}
use Rattle.std.proofs.lemmas.Int.{ints}
use Rattle.mp_frac.specs.declared.time.Frac.{Frac}
use Rattle.mp_timeline.specs.Movie.{SampleRecord, TrackRecord}
use Rattle.mp_movie.specs.Durations.{extent}
use Rattle.mp_shown.specs.Fractions.{is_before}
use Rattle.mp_shown.specs.Segments.{explicit, segments_of, pieces, in_unit}
use Rattle.mp_shown.specs.Shown.{Seen, media_time, is_at_some, seen, shown}
use Rattle.mp_shown.specs.Law.{PiecesShow, ShowsByTimes, finer_sample}
use Rattle.mp_clip.specs.Clipped.{IsRange, unit}
use Rattle.cut_op.specs.Needed.{kept_samples}
use Rattle.cut_op.specs.Track.{cut_track, track_samples}
use Rattle.cut_op.specs.Shows.{behind}
use Rattle.cut_op.proofs.Units.{add-times, ltb-times, segments_of-finer, times_some, times_times}
use Rattle.cut_op.proofs.Moving.{seen_at}
use Rattle.cut_op.proofs.Moments.{seen-cut}

-- ---- samples in a finer unit

seen-finer : (entries : List (List ℕ)) (a k : ℕ) (time : Option ℕ) (samples : List SampleRecord) → seen_at entries k time (map (finer_sample a) samples) ≡ seen_at entries (a * k) time samples
seen-finer entries a k time [] = refl
seen-finer entries a k time (sample ∷ samples) = rw (at time) (by (is_at_some (a * k) time sample) (seen-finer entries a k time samples))
  where
    ends : (comp : ℤ) (u : ℕ) → (comp *ℤ pos a +ℤ pos (u * a)) *ℤ pos k ≡ (comp +ℤ pos u) *ℤ pos (a * k)
    ends comp u = ap (λ (z : ℤ). z *ℤ pos k) (sym (add-times comp (pos u) a)) ∙ times_times (comp +ℤ pos u) a k

    at : (time : Option ℕ) → is_at_some k time (finer_sample a sample) ≡ is_at_some (a * k) time sample
    at None = refl
    at (Some t) = rw (times_times sample.comp a k, ends sample.comp sample.dur) refl

    by : (b : Bool) → seen_at entries k time (map (finer_sample a) samples) ≡ seen_at entries (a * k) time samples
        → map (seen entries) (cond b (finer_sample a sample ∷ filter (is_at_some k time) (map (finer_sample a) samples)) (filter (is_at_some k time) (map (finer_sample a) samples)))
        ≡ map (seen entries) (cond b (sample ∷ filter (is_at_some (a * k) time) samples) (filter (is_at_some (a * k) time) samples))
    by true rest = ap (λ (xs : List Seen). seen entries sample ∷ xs) rest
    by false rest = rest

-- ---- moments

-- what a track shows at a moment, by the numbers of its unit
shown-by : (movie : ℕ) (track : TrackRecord) (n d a b at : ℕ) → a ≡ movie * d → b ≡ track.scale * d → at ≡ n * (movie * track.scale)
    → seen_at track.entries a (media_time (segments_of a b (extent track.samples) track.edits) at) track.samples ≡ shown movie track n d
shown-by movie track n d a b at p q r = rw (p, q, r) refl

pub natural : (z : ℤ) → pos 0 ≤ℤ z → z ≡ pos (unsigned_abs z)
natural z le = omega (arith, ints, le)

-- how far the moment is behind the range's begin, in the unit, and the range's end
module _ (movie scale c g s e n d : ℕ) where
  moment-is : s * movie * (g * scale) * (movie * scale * (c * g) * d) + n * (movie * scale * (c * g) * (movie * scale * (c * g))) ≡ movie * scale * (c * g) * g * (s * d + n * c) * (movie * scale)
  moment-is = omega arith

  begin-is : s * movie * (g * scale) * (movie * scale * (c * g) * d) + n * (movie * scale * (c * g) * (movie * scale * (c * g))) ≡ (s * d + n * c) * g * (movie * scale * (c * g) * (movie * scale))
  begin-is = omega arith

  end-is : e * movie * (c * scale) * (movie * scale * (c * g) * d) ≡ e * (c * d) * (movie * scale * (c * g) * (movie * scale))
  end-is = omega arith

  same-moment : movie * scale * (c * g) * g * (s * d + n * c) * (c * d) ≡ (s * d + n * c) * (c * g * (movie * scale * (c * g) * d))
  same-moment = omega arith

before-is : (x c g : ℕ) (to : ℤ) → pos 0 ≤ℤ to → ltb (x * g) (unsigned_abs to * c) ≡ int_lt (pos x *ℤ pos g) (to *ℤ pos c)
before-is x c g to le = sym (ap (λ (z : ℤ). int_lt (pos x *ℤ pos g) (z *ℤ pos c)) (natural to le))

pub some_unit : (movie scale c g : ℕ) → 0 < movie → 0 < scale → 0 < c → 0 < g → 0 < movie * scale * (c * g)
some_unit movie scale c g p q r t = times_some (movie * scale) (c * g) (times_some movie scale p q) (times_some c g r t)

-- a track cut to the range, in its unit, shows what the track shows
pub exact_shows : PiecesShow → ShowsByTimes → (movie : ℕ) (track : TrackRecord) (from to : Frac) (n d : ℕ) → 0 < movie → 0 < track.scale → IsRange from to → 0 < d
    → shown (unit track.scale movie from to) (cut_track movie from to track) n d
    ≡ cond (is_before (behind from n d) to) (shown movie track (unsigned_abs from.n * d + n * from.d) (from.d * d)) []
exact_shows law times movie track from to n d some_movie some range some_d =
    let scale = track.scale in
    let c = from.d in
    let g = to.d in
    let s = unsigned_abs from.n in
    let e = unsigned_abs to.n in
    let u = movie * scale * (c * g) in
    let k = u * d in
    let at = n * (u * u) in
    let some_u = some_unit movie scale c g some_movie some range.some_begin.some range.some_end.some in
    let some_k = times_some u d some_u some_d in
    let from_at = s * movie * (g * scale) in
    let to_at = e * movie * (c * scale) in
    let segments = explicit movie track (c * g) in
    let samples = track_samples movie from to track in
    seen-cut law track.entries k from_at to_at at segments samples some_k (kept_samples (pieces from_at to_at segments) samples) refl
    ∙ (ap (λ (b : Bool). cond b (seen_at track.entries k (media_time (map (in_unit k k) segments) (from_at * k + at)) samples) []) test
    ∙ ap (λ (xs : List Seen). cond (is_before (behind from n d) to) xs []) inside)
  where
    test : ltb (unsigned_abs from.n * movie * (to.d * track.scale) * (movie * track.scale * (from.d * to.d) * d) + n * (movie * track.scale * (from.d * to.d) * (movie * track.scale * (from.d * to.d))))
        (unsigned_abs to.n * movie * (from.d * track.scale) * (movie * track.scale * (from.d * to.d) * d))
        ≡ is_before (behind from n d) to
    test =
        let factor = movie * track.scale * (from.d * to.d) * (movie * track.scale) in
        let some_factor = times_some (movie * track.scale * (from.d * to.d)) (movie * track.scale) (some_unit movie track.scale from.d to.d some_movie some range.some_begin.some range.some_end.some) (times_some movie track.scale some_movie some) in
        rw (begin-is movie track.scale from.d to.d (unsigned_abs from.n) (unsigned_abs to.n) n d, end-is movie track.scale from.d to.d (unsigned_abs from.n) (unsigned_abs to.n) n d)
        (ltb-times ((unsigned_abs from.n * d + n * from.d) * to.d) (unsigned_abs to.n * (from.d * d)) factor some_factor
        ∙ before-is (unsigned_abs from.n * d + n * from.d) (from.d * d) to.d to.n range.end)

    inside : seen_at track.entries (movie * track.scale * (from.d * to.d) * d)
        (media_time (map (in_unit (movie * track.scale * (from.d * to.d) * d) (movie * track.scale * (from.d * to.d) * d)) (explicit movie track (from.d * to.d)))
        (unsigned_abs from.n * movie * (to.d * track.scale) * (movie * track.scale * (from.d * to.d) * d) + n * (movie * track.scale * (from.d * to.d) * (movie * track.scale * (from.d * to.d)))))
        (track_samples movie from to track)
        ≡ shown movie track (unsigned_abs from.n * d + n * from.d) (from.d * d)
    inside =
        let scale = track.scale in
        let c = from.d in
        let g = to.d in
        let s = unsigned_abs from.n in
        let u = movie * scale * (c * g) in
        let k = u * d in
        let moment = s * movie * (g * scale) * k + n * (u * u) in
        let n' = u * g * (s * d + n * c) in
        let some_k = times_some u d (some_unit movie scale c g some_movie some range.some_begin.some range.some_end.some) some_d in
        let some_w = times_some c g range.some_begin.some range.some_end.some in
        seen-finer track.entries (movie * (c * g)) k (media_time (map (in_unit k k) (explicit movie track (c * g))) moment) track.samples
        ∙ (ap (λ (segments : List _). seen_at track.entries (movie * (c * g) * k) (media_time segments moment) track.samples) (segments_of-finer (movie * (c * g)) (scale * (c * g)) (extent track.samples) k track.edits some_k)
        ∙ (shown-by movie track n' (c * g * k) (movie * (c * g) * k) (scale * (c * g) * k) moment (omega arith) (omega arith) (moment-is movie scale c g s 0 n d)
        ∙ (times.same movie movie track track (times.itself movie track some_movie some)).shown n' (c * g * k) (s * d + n * c) (c * d)
        (record { positive = times_some (c * g) k some_w some_k; other_positive = times_some c d range.some_begin.some some_d; crosswise = ap pos (same-moment movie scale c g s 0 n d) })))
