-- A movie that was cut is seen as the cut says.
use Rattle.std.proofs.Common.{◌≡◌, ℕ, ◌+◌, ◌-◌, ◌*◌, ◌<◌, ◌≤◌, min, Bool, true, false, cond, ltb, List, [], ◌∷◌, Some, ℤ, pos, ◌+ℤ◌, ◌-ℤ◌, ◌*ℤ◌, refl, sym, ap, ◌∙◌, arith, inl, inr, true≢false}
use Rattle.std.specs.Prelude.{int_lt, unsigned_abs}
use Rattle.std.specs.List.{AllByRecursion, AllZip}
use Rattle.std.proofs.lemmas.Bool.{cases_lt, lt-ltb}
use Rattle.std.proofs.lemmas.Int.{ints}
use Rattle.std.proofs.Math.IntN.{pos-*ℤ-pos}
use Rattle.mp_frac.specs.declared.time.Frac.{Frac}
use Rattle.mp_frac.specs.Time.{IsSameTime, in_ticks}
use Rattle.mp_timeline.specs.Movie.{TrackRecord}
use Rattle.mp_edits.specs.Segments.{total}
use Rattle.mp_movie.specs.Durations.{extent}
use Rattle.mp_shown.specs.Fractions.{is_before}
use Rattle.mp_shown.specs.Law.{PiecesShow, ShowsByTimes}
use Rattle.mp_shown.specs.Segments.{explicit, segments_of}
use Rattle.mp_shown.specs.Shown.{Seen, shown}
use Rattle.mp_clip.specs.Clipped.{IsRange}
use Rattle.track_ops.specs.CutAndJoined.{minus, plus, shown_cut, with_cut}
use Rattle.track_ops.specs.Later.{lasting_time}
use Rattle.track_ops.specs.Moments.{AreSeenAs, IsSeenAs, View}
use Rattle.track_ops.specs.Told.{SettledTimesAreKept}
use Rattle.cut_op.specs.Cut.{cut_settled}
use Rattle.cut_op.specs.Law.{CutsAreSeen}
use Rattle.cut_op.specs.Shows.{ShowsRange, behind, length_in}
use Rattle.cut_op.proofs.CutTimes.{before_less, difference_of, lasts_before_end, lasts_none, lasts_to_end, natural_of, plus_is}
use Rattle.cut_op.proofs.Movies.{each_some, made_shows, of_made, pos_injective, some_scale}
use Rattle.cut_op.proofs.Shows.{natural}
use Rattle.cut_op.proofs.Totals.{lt-from-ltb, total-in_unit}
use Rattle.cut_op.proofs.Units.{segments_of-finer, times_some}

le-from-ltb : (a b : ℕ) → ltb a b ≡ false → b ≤ a
le-from-ltb a b test = elim (cases_lt a b) [
  | inl lt ↦ absurd (true≢false (sym (lt-ltb a b lt) ∙ test))
  | inr le ↦ le
]

-- one time less another, neither below 0
less_is : (a b : Frac) (x y : ℕ) → a.n ≡ pos x → b.n ≡ pos y → (minus a b).n ≡ pos (x * b.d) -ℤ pos (y * a.d)
less_is a b x y p q =
    ap (λ (z : ℤ). z *ℤ pos b.d -ℤ b.n *ℤ pos a.d) p
    ∙ (ap (λ (z : ℤ). z -ℤ b.n *ℤ pos a.d) (pos-*ℤ-pos x b.d) ∙ (ap (λ (z : ℤ). pos (x * b.d) -ℤ z *ℤ pos a.d) q ∙ ap (λ (z : ℤ). pos (x * b.d) -ℤ z) (pos-*ℤ-pos y a.d)))

-- which of two such times comes first
before_is : (a b : Frac) (x y : ℕ) → a.n ≡ pos x → b.n ≡ pos y → is_before a b ≡ ltb (x * b.d) (y * a.d)
before_is a b x y p q = ap (λ (z : ℤ). int_lt (z *ℤ pos b.d) (b.n *ℤ pos a.d)) p ∙ ap (λ (z : ℤ). int_lt (pos x *ℤ pos b.d) (z *ℤ pos a.d)) q

module _ (from to : Frac) (range : IsRange from to) (test : is_before from to ≡ true) (movie new_movie : ℕ) (track new : TrackRecord) (view : View)
    (some_new : 0 < new_movie * new.scale) (shows : ShowsRange from to movie new_movie track new) (is : IsSeenAs movie track view) where
  from_is : from.n ≡ pos (unsigned_abs from.n)
  from_is = natural from.n range.begin

  to_is : to.n ≡ pos (unsigned_abs to.n)
  to_is = natural to.n range.end

  -- ---- moments

  moment_is : (n d : ℕ) → plus from (in_ticks (pos n) d) ≡ behind from n d
  moment_is n d = ap (λ (z : ℤ). in_ticks z (from.d * d)) (ap (λ (z : ℤ). z *ℤ pos d +ℤ pos n *ℤ pos from.d) from_is ∙ plus_is (unsigned_abs from.n) from.d n d)

  test_is : (n d : ℕ) → is_before (behind from n d) to ≡ is_before (in_ticks (pos n) d) (minus to from)
  test_is n d =
      let c = from.d in
      let g = to.d in
      let s = unsigned_abs from.n in
      let e = unsigned_abs to.n in
      ap (λ (z : ℤ). int_lt (pos (s * d + n * c) *ℤ pos g) (z *ℤ pos (c * d))) to_is
      ∙ (before_less s c e g n d
      ∙ (ap (λ (z : ℤ). int_lt (pos n *ℤ pos (g * c)) ((z *ℤ pos c -ℤ pos s *ℤ pos g) *ℤ pos d)) (sym to_is)
      ∙ ap (λ (z : ℤ). int_lt (pos n *ℤ pos (g * c)) ((to.n *ℤ pos c -ℤ z *ℤ pos g) *ℤ pos d)) (sym from_is)))

  shown_is : (n d : ℕ) → 0 < d → shown new_movie new n d ≡ (shown_cut from to view).show (in_ticks (pos n) d)
  shown_is n d some =
      let at = unsigned_abs from.n * d + n * from.d in
      shows.shown n d some
      ∙ (ap (λ (b : Bool). cond b (shown movie track at (from.d * d)) []) (test_is n d)
      ∙ ap (λ (xs : List Seen). cond (is_before (in_ticks (pos n) d) (minus to from)) xs [])
      (is.shown at (from.d * d) (times_some from.d d range.some_begin.some some) ∙ ap view.show (sym (moment_is n d))))

  -- ---- how long it is shown

  lasted : ℕ
  lasted = total (explicit movie track 1)

  lasts : ℕ
  lasts = total (explicit new_movie new 1)

  lasted_is : length_in movie from to track ≡ lasted * (from.d * to.d)
  unfolding lasted
  lasted_is =
      let k = from.d * to.d in
      let some_k = times_some from.d to.d range.some_begin.some range.some_end.some in
      finer movie track.scale k
      ∙ (sym (ap total (segments_of-finer (movie * 1) (track.scale * 1) (extent track.samples) k track.edits some_k)) ∙ total-in_unit k k (explicit movie track 1))
    where
      finer : (m s k : ℕ) → total (segments_of (m * k) (s * k) (extent track.samples) track.edits) ≡ total (segments_of (m * 1 * k) (s * 1 * k) (extent track.samples) track.edits)
      finer m s k =
          let p : m * k ≡ m * 1 * k = omega arith in
          let q : s * k ≡ s * 1 * k = omega arith in
          ap (λ (a : ℕ). total (segments_of a (s * k) (extent track.samples) track.edits)) p ∙ ap (λ (b : ℕ). total (segments_of (m * 1 * k) b (extent track.samples) track.edits)) q

  length_is : view.length.n ≡ pos (unsigned_abs view.length.n)
  unfolding lasted
  length_is = natural_of view.length.n (movie * track.scale) (lasted * view.length.d) is.length.positive (sym is.length.crosswise ∙ pos-*ℤ-pos lasted view.length.d)

  same : lasted * view.length.d ≡ unsigned_abs view.length.n * (movie * track.scale)
  unfolding lasted
  same =
      pos_injective _ _
      (sym (pos-*ℤ-pos lasted view.length.d) ∙ (is.length.crosswise ∙ (ap (λ (z : ℤ). z *ℤ pos (movie * track.scale)) length_is ∙ pos-*ℤ-pos (unsigned_abs view.length.n) (movie * track.scale))))

  total_is : lasts * (movie * track.scale * (from.d * to.d))
      ≡ (min (lasted * (from.d * to.d)) (unsigned_abs to.n * from.d * (movie * track.scale)) - unsigned_abs from.n * to.d * (movie * track.scale)) * (new_movie * new.scale)
  unfolding lasts
  total_is =
      let scales = new_movie * new.scale in
      let e = unsigned_abs to.n in
      let s = unsigned_abs from.n in
      shows.total
      ∙ (ap (λ (x : ℕ). (min x (e * movie * (from.d * track.scale)) - s * movie * (to.d * track.scale)) * scales) lasted_is
      ∙ (ap (λ (x : ℕ). (min (lasted * (from.d * to.d)) x - s * movie * (to.d * track.scale)) * scales) (turn e movie from.d track.scale)
      ∙ ap (λ (x : ℕ). (min (lasted * (from.d * to.d)) (e * from.d * (movie * track.scale)) - x) * scales) (turn s movie to.d track.scale)))
    where
      turn : (a m d s : ℕ) → a * m * (d * s) ≡ a * d * (m * s)
      turn a m d s = omega arith

  -- a time less the range's begin, where the track lasts so long
  lasts_less : (time : Frac) (x : ℕ) → 0 < time.d → time.n ≡ pos x → unsigned_abs from.n * time.d ≤ x * from.d → lasts * (time.d * from.d) ≡ (x * from.d - unsigned_abs from.n * time.d) * (new_movie * new.scale)
      → IsSameTime (lasting_time new_movie new) (minus time from)
  unfolding lasts
  lasts_less time x some time_is le lasts_so = record {
    positive = some_new;
    other_positive = times_some time.d from.d some range.some_begin.some;
    crosswise =
        pos-*ℤ-pos lasts (time.d * from.d)
        ∙ (difference_of (x * from.d) (unsigned_abs from.n * time.d) (new_movie * new.scale) (lasts * (time.d * from.d)) le lasts_so
        ∙ ap (λ (z : ℤ). z *ℤ pos (new_movie * new.scale)) (sym (less_is time from x (unsigned_abs from.n) time_is from_is)));
  }

  order_is : unsigned_abs from.n * to.d ≤ unsigned_abs to.n * from.d
  order_is = let lt = lt-from-ltb _ _ (sym (before_is from to (unsigned_abs from.n) (unsigned_abs to.n) from_is to_is) ∙ test) in omega (arith, lt)

  some_scale_of : 0 < movie * track.scale
  some_scale_of = is.length.positive

  by_end : (b : Bool) → is_before to view.length ≡ b → unsigned_abs from.n * view.length.d ≤ unsigned_abs view.length.n * from.d
      → IsSameTime (lasting_time new_movie new) (minus (cond b to view.length) from)
  by_end true ends le =
      let s = unsigned_abs from.n in
      let e = unsigned_abs to.n in
      let l = unsigned_abs view.length.n in
      let lt = lt-from-ltb _ _ (sym (before_is to view.length e l to_is length_is) ∙ ends) in
      lasts_less to e range.some_end.some to_is order_is
      (lasts_to_end s from.d e to.d l view.length.d lasted (movie * track.scale) lasts (new_movie * new.scale) is.length.other_positive some_scale_of range.some_begin.some range.some_end.some same total_is (omega (arith, lt)))
  by_end false ends le =
      let s = unsigned_abs from.n in
      let e = unsigned_abs to.n in
      let l = unsigned_abs view.length.n in
      lasts_less view.length l is.length.other_positive length_is le
      (lasts_before_end s from.d e to.d l view.length.d lasted (movie * track.scale) lasts (new_movie * new.scale) is.length.other_positive some_scale_of range.some_begin.some range.some_end.some same total_is
      (le-from-ltb _ _ (sym (before_is to view.length e l to_is length_is) ∙ ends)))

  by_begin : (b : Bool) → is_before from view.length ≡ b
      → IsSameTime (lasting_time new_movie new) (cond b (minus (cond (is_before to view.length) to view.length) from) (in_ticks (pos 0) 1))
  unfolding lasts
  by_begin true begins =
      let lt = lt-from-ltb _ _ (sym (before_is from view.length (unsigned_abs from.n) (unsigned_abs view.length.n) from_is length_is) ∙ begins) in
      by_end (is_before to view.length) refl (omega (arith, lt))
  by_begin false begins =
      let s = unsigned_abs from.n in
      let l = unsigned_abs view.length.n in
      let none = lasts_none s from.d (unsigned_abs to.n) to.d l view.length.d lasted (movie * track.scale) lasts (new_movie * new.scale) is.length.other_positive some_scale_of range.some_begin.some range.some_end.some same total_is
      (le-from-ltb _ _ (sym (before_is from view.length s l from_is length_is) ∙ begins)) in
      nothing none
    where
      zero : (k : ℕ) → pos 0 *ℤ pos 1 ≡ pos 0 *ℤ pos k
      zero k = omega (arith, ints)

      nothing : lasts ≡ 0 → IsSameTime (lasting_time new_movie new) (in_ticks (pos 0) 1)
      nothing none = record {
        positive = some_new;
        other_positive = omega arith;
        crosswise = ap (λ (x : ℕ). pos x *ℤ pos 1) none ∙ zero (new_movie * new.scale);
      }

  -- a track that was cut is seen as the cut says
  pub track_seen : IsSeenAs new_movie new (shown_cut from to view)
  track_seen = record {
    number = shows.number ∙ is.number;
    handler = ap (λ head. head.handler) shows.head ∙ is.handler;
    length = by_begin (is_before from view.length) refl;
    shown = shown_is;
  }

-- ---- all tracks

module _ (from to : Frac) (range : IsRange from to) (test : is_before from to ≡ true) (movie new_movie : ℕ) (some_movie : 0 < new_movie) where
  tracks_seen : (tracks news : List TrackRecord) (views : List View) → AllByRecursion (λ new. 0 < new.scale) news → AllZip (ShowsRange from to movie new_movie) tracks news
      → AllZip (IsSeenAs movie) tracks views → AllZip (IsSeenAs new_movie) news (with_cut from to views)
  tracks_seen [] [] [] scales shows seen = tt
  tracks_seen [] [] (view ∷ views) scales shows seen = absurd seen
  tracks_seen [] (new ∷ news) views scales shows seen = absurd shows
  tracks_seen (track ∷ tracks) [] views scales shows seen = absurd shows
  tracks_seen (track ∷ tracks) (new ∷ news) [] scales shows seen = absurd seen
  tracks_seen (track ∷ tracks) (new ∷ news) (view ∷ views) scales shows seen = (
    track_seen from to range test movie new_movie track new view (times_some new_movie new.scale some_movie scales.0) shows.0 seen.0,
    tracks_seen tracks news views scales.1 shows.1 seen.1,
  )

scales_of : SettledTimesAreKept → (movie new_movie : ℕ) (from to : Frac) (tracks news : List TrackRecord) → AllByRecursion (λ track. 0 < track.scale) tracks
    → AllZip (λ track new. cut_settled movie new_movie from to track ≡ Some new) tracks news → AllByRecursion (λ new. 0 < new.scale) news
scales_of settling movie new_movie from to [] [] scales are = tt
scales_of settling movie new_movie from to [] (new ∷ news) scales are = absurd are
scales_of settling movie new_movie from to (track ∷ tracks) [] scales are = absurd are
scales_of settling movie new_movie from to (track ∷ tracks) (new ∷ news) scales are = (
  some_scale settling movie new_movie from to track new scales.0 are.0,
  scales_of settling movie new_movie from to tracks news scales.1 are.1,
)

-- ---- the movie

pub cut_seen : PiecesShow → ShowsByTimes → SettledTimesAreKept → CutsAreSeen
cut_seen law times settling from to movie made views range scales is seen =
    of_made (λ made. AreSeenAs made (with_cut from to views)) from to movie made
    (λ scale tracks test found are.
    let fits = settling.serves movie.scale _ scale scales.whole found in
    let shows = made_shows law times settling from to movie range scales scale tracks test found are in
    tracks_seen from to range test movie.scale scale fits.some movie.tracks tracks views
    (scales_of settling movie.scale scale from to movie.tracks tracks scales.tracks (each_some (cut_settled movie.scale scale from to) movie.tracks tracks are)) shows.tracks seen)
    is
