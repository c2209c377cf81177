-- The whole media as a segment in ticks of the track has the pieces of the whole media in the unit of the movie.
use Rattle.std.proofs.Common.{◌≡◌, ℕ, zero, suc, ◌+◌, ◌-◌, ◌*◌, ◌<◌, ◌≤◌, min, Bool, true, false, cond, ltb, ◌&&◌, ◌||◌, List, [], ◌∷◌, map, Option, Some, None, pos, refl, sym, ap, subst, ◌∙◌, arith, inl, inr}
use Rattle.std.specs.Prelude.{unsigned_abs}
use Rattle.std.specs.List.{list_any}
use Rattle.std.proofs.lemmas.Bool.{cases_lt, lt-ltb, le-ltb}
use Rattle.mp_frac.specs.declared.time.Frac.{Frac}
use Rattle.mp_timeline.specs.declared.segment.Segment.{Segment}
use Rattle.mp_timeline.specs.declared.segment.Segment.TheVariants.{Empty, Media}
use Rattle.mp_timeline.specs.Movie.{TrackRecord}
use Rattle.mp_movie.specs.Durations.{extent}
use Rattle.mp_shown.specs.Segments.{explicit, in_unit, pieces, whole_media}
use Rattle.mp_clip.specs.declared.touching.Span.{Span}
use Rattle.mp_clip.specs.Clipped.{clipped}
use Rattle.mp_clip.specs.Touched.{AreTouched, shows_some, touches}
use Rattle.cut_op.specs.Between.{media_pieces}
use Rattle.cut_op.specs.Explicit.{shown_edits, shown_scale}
use Rattle.cut_op.specs.Track.{track_pieces}
use Rattle.cut_op.proofs.Units.{ltb-times, media-finer, pieces-finer}

-- a segment of no time has no pieces
one_or_none : (from to start length : ℕ) → start ≡ 0 → pieces from to (Media start length ∷ []) ≡ pieces from to (whole_media length)
one_or_none from to start length is = elim (cases_lt 0 length) [
  | inl lt ↦ rw (is, lt-ltb 0 length lt) refl
  | inr le ↦
      let none : length ≡ 0 = omega (arith, le) in
      let low : min from 0 ≡ 0 = omega arith in
      let high : min to 0 ≡ 0 = omega arith in
      rw (none, low, high) refl
]

pub same_pieces : (movie : ℕ) (from to : Frac) (track : TrackRecord) → track.edits ≡ None → 0 < movie → 0 < track.scale
    → map (in_unit movie movie) (clipped track.scale track.scale from to (Media 0 (extent track.samples) ∷ [])) ≡ map (in_unit track.scale track.scale) (track_pieces movie from to track)
same_pieces movie from to track none some_movie some =
    let scale = track.scale in
    let c = from.d in
    let g = to.d in
    let length = extent track.samples in
    let f = unsigned_abs from.n in
    let t = unsigned_abs to.n in
    let whole : explicit movie track (c * g) ≡ whole_media (length * (movie * (c * g))) = rw (none) refl in
    sym (pieces-finer movie (f * scale * (g * scale)) (t * scale * (c * scale)) (Media (0 * (scale * (c * g))) (length * (scale * (c * g))) ∷ []) some_movie)
    ∙ (one_or_none (f * scale * (g * scale) * movie) (t * scale * (c * scale) * movie) (0 * (scale * (c * g)) * movie) (length * (scale * (c * g)) * movie) (omega arith)
    ∙ (ap (λ (x : ℕ). pieces (f * scale * (g * scale) * movie) (t * scale * (c * scale) * movie) (whole_media x)) (turn length scale (c * g) movie)
    ∙ (ap (λ (x : ℕ). pieces x (t * scale * (c * scale) * movie) (whole_media (length * (movie * (c * g)) * scale))) (turn_end f scale g movie)
    ∙ (ap (λ (x : ℕ). pieces (f * movie * (g * scale) * scale) x (whole_media (length * (movie * (c * g)) * scale))) (turn_end t scale c movie)
    ∙ (ap (pieces (f * movie * (g * scale) * scale) (t * movie * (c * scale) * scale)) (sym (media-finer (length * (movie * (c * g))) scale some))
    ∙ (pieces-finer scale (f * movie * (g * scale)) (t * movie * (c * scale)) (whole_media (length * (movie * (c * g)))) some
    ∙ ap (λ (segments : List Segment). map (in_unit scale scale) (pieces (f * movie * (g * scale)) (t * movie * (c * scale)) segments)) (sym whole)))))))
  where
    turn : (l s w m : ℕ) → l * (s * w) * m ≡ l * (m * w) * s
    turn l s w m = omega arith

    turn_end : (f s g m : ℕ) → f * s * (g * s) * m ≡ f * m * (g * s) * s
    turn_end f s g m = omega arith

-- spans touch the same of segments in a finer unit
any-finer : (k start end : ℕ) (segments : List Segment) → 0 < k → list_any (shows_some (start * k) (end * k)) (map (in_unit k k) segments) ≡ list_any (shows_some start end) segments
any-finer k start end [] some = refl
any-finer k start end (Empty dur ∷ segments) some = any-finer k start end segments some
any-finer k start end (Media from dur ∷ segments) some =
    let sum : from * k + dur * k ≡ (from + dur) * k = omega arith in
    rw (sum, ltb-times from end k some, ltb-times start (from + dur) k some, any-finer k start end segments some) refl

finer_touched : (tick k : ℕ) (segments : List Segment) (spans : List Span) → 0 < k → AreTouched tick segments spans → AreTouched (tick * k) (map (in_unit k k) segments) spans
finer_touched tick k segments spans some touched = λ a b.
    let left : a * (tick * k) ≡ a * tick * k = omega arith in
    let right : b * (tick * k) ≡ b * tick * k = omega arith in
    rw (left, right, any-finer k (a * tick) (b * tick) segments some) (touched a b)

touched_finer : (tick k : ℕ) (segments : List Segment) (spans : List Span) → 0 < k → AreTouched (tick * k) (map (in_unit k k) segments) spans → AreTouched tick segments spans
touched_finer tick k segments spans some touched = λ a b.
    let left : a * (tick * k) ≡ a * tick * k = omega arith in
    let right : b * (tick * k) ≡ b * tick * k = omega arith in
    sym (any-finer k (a * tick) (b * tick) segments some)
    ∙ (ap (λ (x : ℕ). list_any (shows_some x (b * tick * k)) (map (in_unit k k) segments)) (sym left)
    ∙ (ap (λ (x : ℕ). list_any (shows_some (a * (tick * k)) x) (map (in_unit k k) segments)) (sym right) ∙ touched a b))

pub explicit_touched : (movie : ℕ) (from to : Frac) (track : TrackRecord) (spans : List Span) → 0 < movie → 0 < track.scale
    → AreTouched (shown_scale track.edits movie track.scale * (from.d * to.d)) (clipped track.scale (shown_scale track.edits movie track.scale) from to (shown_edits track.edits (Media 0 (extent track.samples) ∷ []))) spans
    → AreTouched (movie * (from.d * to.d)) (track_pieces movie from to track) spans
explicit_touched movie from to track spans some_movie some touched = by track.edits refl touched
  where
    by : (edits : Option (List Segment)) → track.edits ≡ edits
        → AreTouched (shown_scale edits movie track.scale * (from.d * to.d)) (clipped track.scale (shown_scale edits movie track.scale) from to (shown_edits edits (Media 0 (extent track.samples) ∷ []))) spans
        → AreTouched (movie * (from.d * to.d)) (track_pieces movie from to track) spans
    by (Some edits) is touched = rw (is) touched
    by None is touched =
        let tick : track.scale * (from.d * to.d) * movie ≡ movie * (from.d * to.d) * track.scale = omega arith in
        let finer = finer_touched (track.scale * (from.d * to.d)) movie (clipped track.scale track.scale from to (Media 0 (extent track.samples) ∷ [])) spans some_movie touched in
        touched_finer (movie * (from.d * to.d)) track.scale (track_pieces movie from to track) spans some
        (subst (λ (x : ℕ). AreTouched x (map (in_unit track.scale track.scale) (track_pieces movie from to track)) spans) tick
        (subst (λ (segments : List Segment). AreTouched (track.scale * (from.d * to.d) * movie) segments spans) (same_pieces movie from to track is some_movie some) finer))

-- the pieces of a track are those of its edit list, or of its whole media
pub pieces_of_list : (movie : ℕ) (from to : Frac) (track : TrackRecord) (edits : List Segment) → track.edits ≡ Some edits → track_pieces movie from to track ≡ clipped track.scale movie from to edits
pieces_of_list movie from to track edits is = rw (is) refl

pub pieces_of_media : (movie : ℕ) (from to : Frac) (track : TrackRecord) → track.edits ≡ None → track_pieces movie from to track ≡ media_pieces track.scale movie from to (extent track.samples)
pieces_of_media movie from to track is = rw (is) refl
