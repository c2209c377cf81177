-- What each track shows where one is shown later or earlier.
use Rattle.std.proofs.Common.{◌≡◌, ◌≢◌, ℕ, zero, suc, ◌+◌, ◌*◌, ◌/◌, ◌<◌, nat_le, ◌==◌, Bool, true, false, List, [], ◌∷◌, length, map, get_or, set, Option, Some, None, ℤ, pos, negsuc, neg_ℤ, ◌+ℤ◌, ◌*ℤ◌, refl, sym, ap, ◌∙◌, subst, arith}
use Rattle.std.specs.Prelude.{Ok, int_lt, option_map}
use Rattle.std.specs.List.{AllByRecursion, AllZip}
use Rattle.std.specs.Int.{◌∣◌}
use Rattle.std.specs.Ordering.{int_eq}
use Rattle.std.proofs.Math.Nat.{div-mul_cancel, dvd-mul_left_of_dvd, mul-pos}
use Rattle.std.proofs.Math.IntN.{negsuc-*ℤ-pos, pos-*ℤ-pos}
use Rattle.std.proofs.lemmas.Bool.{eq-eqb, leb-false, ltb-true}
use Rattle.std.proofs.lemmas.Int.{ints}
use Rattle.std.proofs.lemmas.List.{length-map}
use Rattle.std.proofs.lemmas.List.Sums.{sum_by-cons}
use Rattle.mp_frac.specs.Time.{IsSameTime, in_ticks}
use Rattle.mp_ports.specs.Checks.{placed}
use Rattle.mp_timeline.specs.declared.segment.Segment.{Segment}
use Rattle.mp_timeline.specs.declared.segment.Segment.TheVariants.{Empty, Media}
use Rattle.mp_timeline.specs.Movie.{TrackRecord}
use Rattle.mp_timeline.specs.Same.{IsSameEdits, IsSameSegment, IsSameTicks}
use Rattle.mp_edits.specs.Segments.{duration, total}
use Rattle.mp_movie.specs.Placed.{PlacedTrack, PlacedMovie}
use Rattle.mp_movie.specs.StandsFor.{stands_for, track_for}
use Rattle.mp_movie.specs.WellFormed.{AreDistinct, IsWellFormedTrack}
use Rattle.mp_movie.specs.WholeParts.{AreParts, bare_track}
use Rattle.mp_shown.specs.Fractions.{is_before}
use Rattle.mp_shown.specs.Law.{PiecesShow, ShowsByTimes, ShowsTheSame}
use Rattle.mp_shown.specs.Segments.{explicit, pieces}
use Rattle.mp_shown.specs.Shown.{shown}
use Rattle.mp_clip.specs.Clipped.{Tells}
use Rattle.track_ops.specs.Delay.{delayed, unit}
use Rattle.track_ops.specs.Later.{DelaysShown, ShowsDelayed, ShowsLater, later, lasting_time}
use Rattle.track_ops.specs.KeptShown.{IsShowing, kept_shown}
use Rattle.track_ops.specs.KeptTimes.{kept_retimed}
use Rattle.track_ops.specs.Kept.{kept_in_scale}
use Rattle.track_ops.specs.Scales.{in_movie_scale, lasting}
use Rattle.track_ops.specs.Ticks.{in_track_scale}
use Rattle.track_ops.proofs.PartsStay.{numbers_distinct}
use Rattle.track_ops.proofs.Retimed.{stands_retimed}
use Rattle.track_ops.proofs.ShownLater.{left_lasts, none_shown, other_lasts, own_lasts, shown_at, time_at, time_before, time_later, time_sooner, track_shown, wide_shown}
use Rattle.track_ops.proofs.ShownLimits.{unequal}
use Rattle.track_ops.proofs.ShownStands.{all_whole, same_Ok}
use Rattle.track_ops.proofs.StandsForTracks.{stands_changed}
use Rattle.track_ops.proofs.TrackIsSet.{IsThere}
use Rattle.track_ops.proofs.TracksAt.{all_at, map_at}

pos_injective : (a b : ℕ) → pos a ≡ pos b → a ≡ b
pos_injective a b e = omega (arith, ints, e)

not_negative : (a b : ℕ) → 0 < b → pos a ≡ neg_ℤ (pos b) → ⊥
not_negative a zero some e = absurd (omega (arith, some))
not_negative a (suc b) some e = cc

-- the ticks of a time that is the same as one at or behind 0
natural : (m d e : ℕ) (z : ℤ) → 0 < e → pos m *ℤ pos d ≡ z *ℤ pos e → (k : ℕ) × (z ≡ pos k) × (k * e ≡ m * d)
natural m d e (pos k) some same = (k, refl, sym (pos_injective (m * d) (k * e) same))
natural m d e (negsuc k) some same = absurd (not_negative (m * d) (suc k * e) (mul-pos (omega arith) some) (sym (pos-*ℤ-pos m d) ∙ (same ∙ negsuc-*ℤ-pos k e)))

-- ---- later by so many milliseconds, or sooner
module _ (law : ShowsByTimes) (pieces_law : PiecesShow) (movie : ℕ) (track : TrackRecord) (some_movie : 0 < movie) (some_track : 0 < track.scale) (scale media : ℕ) (segments edits : List Segment) (some_new : 0 < scale) (some_media : 0 < media) (multiple : track.scale ∣ media) (tells : Tells (unit movie track.scale) media scale segments edits) where
  abbrev other : TrackRecord
  other = record (in_track_scale media track) { edits = Some edits }

  lasts : total (explicit scale other 1) * (movie * track.scale * 1000) ≡ total segments * (scale * media)
  lasts = other_lasts law pieces_law movie track some_movie some_track scale media segments edits some_new some_media multiple tells

  was : total (explicit movie track 1) * 1000 ≡ total (explicit movie track 1000)
  was = own_lasts law pieces_law movie track some_movie some_track

  some_product : 0 < movie * track.scale
  some_product = mul-pos some_movie some_track

  shows_later : (ms : ℕ) → segments ≡ Empty (ms * (movie * track.scale)) ∷ explicit movie track 1000 → ShowsLater (pos ms) movie scale track other
  shows_later ms is = record { before = before; after = after; total = all }
    where
      before : (n d : ℕ) → 0 < d → is_before (in_ticks (pos n) d) (in_ticks (pos ms) 1000) ≡ true → shown scale other n d ≡ []
      before n d some less =
          wide_shown law pieces_law movie track some_movie some_track scale media segments edits some_new some_media multiple tells n d (n * 1000) d some some (turn n d)
          ∙ (ap (shown_at law pieces_law movie track some_movie some_track (d * 1000)) (time_before law pieces_law movie track some_movie some_track scale media segments edits some_new some_media multiple tells ms is n d some (ltb-true (n * 1000) (ms * d) less))
          ∙ none_shown law pieces_law movie track some_movie some_track scale media segments edits some_new some_media multiple tells (d * 1000))
        where
          turn : (n d : ℕ) → n * 1000 * d ≡ n * (d * 1000)
          turn n d = omega arith

      after : (n d m e : ℕ) → IsSameTime (in_ticks (pos m) e) (later (pos ms) (in_ticks (pos n) d)) → shown scale other m e ≡ shown movie track n d
      after n d m e same =
          let some_d : 0 < d = omega (arith, same.other_positive) in
          wide_shown law pieces_law movie track some_movie some_track scale media segments edits some_new some_media multiple tells m e (n * 1000 + ms * d) d some_d same.positive (sym (pos_injective (m * (d * 1000)) ((n * 1000 + ms * d) * e) same.crosswise))
          ∙ (ap (shown_at law pieces_law movie track some_movie some_track (d * 1000)) (time_later law pieces_law movie track some_movie some_track scale media segments edits some_new some_media multiple tells ms is (n * 1000) d)
          ∙ sym (track_shown law pieces_law movie track some_movie some_track scale media segments edits some_new some_media multiple tells n d some_d))

      all : IsSameTime (lasting_time scale other) (later (pos ms) (lasting_time movie track))
      all = record {
        positive = mul-pos some_new some_media;
        other_positive = mul-pos some_product (omega arith);
        crosswise = ap pos (lasts ∙ ap (λ (n : ℕ). n * (scale * media)) sum);
      }
        where
          sum : total segments ≡ total (explicit movie track 1) * 1000 + ms * (movie * track.scale)
          sum = ap total is ∙ (sum_by-cons duration (Empty (ms * (movie * track.scale))) (explicit movie track 1000) ∙ omega (arith, was))

  shows_sooner : (ms : ℕ) → suc ms * (movie * track.scale) < total (explicit movie track 1000) → segments ≡ pieces (suc ms * (movie * track.scale)) (total (explicit movie track 1000)) (explicit movie track 1000)
      → ShowsLater (negsuc ms) movie scale track other
  shows_sooner ms short is = record { before = before; after = after; total = all }
    where
      before : (n d : ℕ) → 0 < d → is_before (in_ticks (pos n) d) (in_ticks (negsuc ms) 1000) ≡ true → shown scale other n d ≡ []
      before n d some less = absurd (never (n * 1000) (suc ms * d) (ap (λ (z : ℤ). int_lt (pos (n * 1000)) z) (sym (negsuc-*ℤ-pos ms d)) ∙ less))
        where
          never : (a b : ℕ) → int_lt (pos a) (neg_ℤ (pos b)) ≡ true → ⊥
          never a zero test = let lt = ltb-true a 0 test in omega (arith, lt)
          never a (suc b) test = cc

      moment : (n d k : ℕ) → pos n *ℤ pos 1000 +ℤ negsuc ms *ℤ pos d ≡ pos k → k + suc ms * d ≡ n * 1000
      moment n d k is =
          let product : negsuc ms *ℤ pos d ≡ neg_ℤ (pos (suc ms * d)) = negsuc-*ℤ-pos ms d in
          let sum : pos (n * 1000) +ℤ neg_ℤ (pos (suc ms * d)) ≡ pos k = ap (λ (z : ℤ). pos (n * 1000) +ℤ z) (sym product) ∙ is in
          whole (n * 1000) (suc ms * d) k sum
        where
          whole : (a b k : ℕ) → pos a +ℤ neg_ℤ (pos b) ≡ pos k → k + b ≡ a
          whole a b k e = omega (arith, ints, e)

      after : (n d m e : ℕ) → IsSameTime (in_ticks (pos m) e) (later (negsuc ms) (in_ticks (pos n) d)) → shown scale other m e ≡ shown movie track n d
      after n d m e same =
          let some_d : 0 < d = omega (arith, same.other_positive) in
          let found = natural m (d * 1000) e (pos n *ℤ pos 1000 +ℤ negsuc ms *ℤ pos d) same.positive same.crosswise in
          wide_shown law pieces_law movie track some_movie some_track scale media segments edits some_new some_media multiple tells m e found.0 d some_d same.positive found.2
          ∙ (ap (shown_at law pieces_law movie track some_movie some_track (d * 1000)) (time_sooner law pieces_law movie track some_movie some_track scale media segments edits some_new some_media multiple tells (suc ms) short is found.0 d some_d)
          ∙ (ap (λ (k : ℕ). shown_at law pieces_law movie track some_movie some_track (d * 1000) (time_at law pieces_law movie track some_movie some_track (explicit movie track 1000) k (d * 1000))) (moment n d found.0 found.1) ∙ sym (track_shown law pieces_law movie track some_movie some_track scale media segments edits some_new some_media multiple tells n d some_d)))

      all : IsSameTime (lasting_time scale other) (later (negsuc ms) (lasting_time movie track))
      all = record {
        positive = mul-pos some_new some_media;
        other_positive = mul-pos some_product (omega arith);
        crosswise = ap pos lasts ∙ ap (λ (z : ℤ). z *ℤ pos (scale * media)) (sym sum);
      }
        where
          left : total segments + suc ms * (movie * track.scale) ≡ total (explicit movie track 1000)
          left = left_lasts law pieces_law movie track some_movie some_track scale media segments edits some_new some_media multiple tells (suc ms) short is

          sum : pos (total (explicit movie track 1)) *ℤ pos 1000 +ℤ negsuc ms *ℤ pos (movie * track.scale) ≡ pos (total segments)
          sum =
              ap (λ (z : ℤ). pos (total (explicit movie track 1) * 1000) +ℤ z) (negsuc-*ℤ-pos ms (movie * track.scale))
              ∙ whole (total (explicit movie track 1) * 1000) (suc ms * (movie * track.scale)) (total segments) (left ∙ sym was)
            where
              whole : (a b k : ℕ) → k + b ≡ a → pos a +ℤ neg_ℤ (pos b) ≡ pos k
              whole a b k e = omega (arith, ints, e)

  -- the segments of the command
  pub shows_delayed : (ms : ℤ) → placed 0 (delayed ms movie track) ≡ Ok segments → ShowsLater ms movie scale track other
  shows_delayed (pos ms) is = shows_later ms (same_Ok (placed 0 (delayed (pos ms) movie track)) segments (Empty (ms * (movie * track.scale)) ∷ explicit movie track 1000) is refl)
  shows_delayed (negsuc ms) is = by (nat_le (total (explicit movie track 1000)) (suc ms * (movie * track.scale))) refl
    where
      by : (b : Bool) → nat_le (total (explicit movie track 1000)) (suc ms * (movie * track.scale)) ≡ b → ShowsLater (negsuc ms) movie scale track other
      by true past = let none = rw past at is in cc
      by false past =
          let made : placed 0 (delayed (negsuc ms) movie track) ≡ Ok (pieces (suc ms * (movie * track.scale)) (total (explicit movie track 1000)) (explicit movie track 1000)) = rw past refl in
          shows_sooner ms (leb-false (total (explicit movie track 1000)) (suc ms * (movie * track.scale)) past)
          (same_Ok (placed 0 (delayed (negsuc ms) movie track)) segments (pieces (suc ms * (movie * track.scale)) (total (explicit movie track 1000)) (explicit movie track 1000)) is made)

-- ---- other tracks

duration_same : (old new dur : ℕ) → 0 < old → 0 < new → old ∣ new → IsSameTicks old new (pos dur) (pos (dur * new / old))
duration_same old new dur some some_new multiple = record { positive = some; other_positive = some_new; crosswise = ap pos (sym (div-mul_cancel old (dvd-mul_left_of_dvd old multiple dur))) }

segments_same : (old new track : ℕ) (edits : List Segment) → 0 < old → 0 < new → 0 < track → old ∣ new → AllZip (IsSameSegment old new track track) edits (map (lasting old new) edits)
segments_same old new track [] some some_new some_track multiple = tt
segments_same old new track (Empty dur ∷ edits) some some_new some_track multiple = (duration_same old new dur some some_new multiple, segments_same old new track edits some some_new some_track multiple)
segments_same old new track (Media start dur ∷ edits) some some_new some_track multiple =
    ((record { positive = some_track; other_positive = some_track; crosswise = refl }, duration_same old new dur some some_new multiple), segments_same old new track edits some some_new some_track multiple)

pub shows_as_before : ShowsByTimes → (old new : ℕ) (track : TrackRecord) → 0 < old → 0 < new → 0 < track.scale → old ∣ new → ShowsTheSame old new track (in_movie_scale old new track)
shows_as_before law old new track some some_new some_track multiple =
    let itself = law.itself old track some some_track in
    law.same old new track (in_movie_scale old new track)
    (record {
      some_movie = some;
      some_other_movie = some_new;
      some_scale = some_track;
      some_other_scale = some_track;
      entries = refl;
      samples = itself.samples;
      edits = by track.edits;
    })
  where
    by : (edits : Option (List Segment)) → IsSameEdits old new track.scale track.scale edits (option_map (map (lasting old new)) edits)
    by None = tt
    by (Some edits) = segments_same old new track.scale edits some some_new some_track multiple

-- ---- all tracks

module _ (number : ℕ) (ms : ℤ) (old new : ℕ) (files : List (List ℕ)) where
  abbrev Shows : TrackRecord → TrackRecord → Type 0
  Shows track other = ShowsDelayed (track.number == number) ms old new track other

  delayed_one : (track other : TrackRecord) → track.number ≡ number → ShowsLater ms old new track other → Shows track other
  delayed_one track other is shows = subst (λ (b : Bool). ShowsDelayed b ms old new track other) (sym (eq-eqb track.number number is)) shows

  same_one : (track other : TrackRecord) → track.number ≢ number → ShowsTheSame old new track other → Shows track other
  same_one track other differ shows = subst (λ (b : Bool). ShowsDelayed b ms old new track other) (sym (unequal track.number number differ)) shows

  scaled_one : (track : PlacedTrack) → ShowsTheSame old new (track_for files track) (in_movie_scale old new (track_for files track)) → ShowsTheSame old new (track_for files track) (track_for files (kept_in_scale old new track))
  scaled_one track shows = subst (λ (t : TrackRecord). ShowsTheSame old new (track_for files track) t) (sym (stands_changed files track track.number track.scale track.head (option_map (map (lasting old new)) track.edits))) shows

  module _ (each : (track : PlacedTrack) → 0 < track.scale → ShowsTheSame old new (track_for files track) (in_movie_scale old new (track_for files track))) where
    others : (tracks : List PlacedTrack) → AllByRecursion (λ n. n ≢ number) (map (λ (t : PlacedTrack). t.number) tracks) → AllByRecursion (λ (t : PlacedTrack). 0 < t.scale) tracks
        → AllZip Shows (map (track_for files) tracks) (map (track_for files) (map (kept_in_scale old new) tracks))
    others [] distinct some = tt
    others (track ∷ tracks) distinct some =
        (same_one (track_for files track) (track_for files (kept_in_scale old new track)) distinct.0 (scaled_one track (each track some.0)), others tracks distinct.1 some.1)

    pub all_tracks : (tracks : List PlacedTrack) (at : ℕ) (d made : PlacedTrack) → AreDistinct (map (λ (t : PlacedTrack). t.number) tracks) → AllByRecursion (λ (t : PlacedTrack). 0 < t.scale) tracks → at < length tracks → (get_or tracks at d).number ≡ number
        → ShowsLater ms old new (track_for files (get_or tracks at d)) (track_for files made) → AllZip Shows (map (track_for files) tracks) (map (track_for files) (set (map (kept_in_scale old new) tracks) at made))
    all_tracks [] at d made distinct some lt is shows = absurd (omega (arith, lt))
    all_tracks (track ∷ tracks) zero d made distinct some lt is shows =
        (delayed_one (track_for files track) (track_for files made) is shows, others tracks (subst (λ (n : ℕ). AllByRecursion (λ other. other ≢ n) (map (λ (t : PlacedTrack). t.number) tracks)) is distinct.0) some.1)
    all_tracks (track ∷ tracks) (suc at) d made distinct some lt is shows =
        let differ : track.number ≢ number = λ e. all_at (λ n. n ≢ track.number) (map (λ (t : PlacedTrack). t.number) tracks) at d.number (omega (arith, lt, length-map tracks (λ (t : PlacedTrack). t.number))) distinct.0
        (map_at (λ (t : PlacedTrack). t.number) tracks at d d.number (omega (arith, lt)) ∙ (is ∙ sym e)) in (
          same_one (track_for files track) (track_for files (kept_in_scale old new track)) differ (scaled_one track (each track some.0)),
          all_tracks tracks at d made distinct.1 some.1 (omega (arith, lt)) is shows,
        )

scales_some : (movie : ℕ) (tracks : List PlacedTrack) → AllByRecursion (IsWellFormedTrack movie) (map bare_track tracks) → AllByRecursion (λ (t : PlacedTrack). 0 < t.scale) tracks
scales_some movie [] all = tt
scales_some movie (track ∷ tracks) all = (all.0.media.some_scale, scales_some movie tracks all.1)

pub delay_shows : ShowsByTimes → PiecesShow → (number at : ℕ) (ms : ℤ) (track : PlacedTrack) (movie new : PlacedMovie) (media scale : ℕ) (segments edits : List Segment) → IsThere number at track movie → 0 < track.scale → IsShowing at movie track segments media edits scale
    → ((files : List (List ℕ)) → placed 0 (delayed ms movie.scale (track_for files track)) ≡ Ok segments) → new ≡ kept_shown at track media edits scale movie → DelaysShown number ms movie new
delay_shows law pieces_law number at ms track movie new media scale segments edits h some_track is are same files hold =
    subst (λ (m : PlacedMovie). AllZip (λ (t o : TrackRecord). ShowsDelayed (t.number == number) ms movie.scale m.scale t o) (stands_for files movie).tracks (stands_for files m).tracks) (sym same)
    (all_tracks number ms movie.scale scale files (λ t some. shows_as_before law movie.scale scale (track_for files t) h.whole.bare.header.some_scale is.some_scale some is.scale_multiple) movie.tracks at track (kept_retimed media (Some edits) track)
    (numbers_distinct movie h.whole) (scales_some movie.scale movie.tracks h.whole.bare.tracks) h.inside (ap (λ (t : PlacedTrack). t.number) h.is ∙ h.numbered)
    (subst (λ (t : PlacedTrack). ShowsLater ms movie.scale scale (track_for files t) (track_for files (kept_retimed media (Some edits) track))) (sym h.is)
    (subst (λ (t : TrackRecord). ShowsLater ms movie.scale scale (track_for files track) t)
    (sym (stands_retimed files track media (Some edits) some_track (all_whole track.scale media track.deltas is.multiple) (all_whole track.scale media track.offsets is.multiple)))
    (shows_delayed law pieces_law movie.scale (track_for files track) h.whole.bare.header.some_scale some_track scale media segments edits is.some_scale is.some_media is.multiple is.told ms (are files)))))

-- ---- by no time

same_later : (n d m e : ℕ) → IsSameTime (in_ticks (pos m) e) (later (pos 0) (in_ticks (pos n) d)) → IsSameTime (in_ticks (pos n) d) (in_ticks (pos m) e)
same_later n d m e same = record {
  positive = omega (arith, same.other_positive);
  other_positive = same.positive;
  crosswise = ap pos (cancel (n * e) (m * d) (let is = pos_injective (m * (d * 1000)) ((n * 1000 + 0 * d) * e) same.crosswise in turn n d m e is));
}
  where
    turn : (n d m e : ℕ) → m * (d * 1000) ≡ (n * 1000 + 0 * d) * e → n * e * 1000 ≡ m * d * 1000
    turn n d m e is =
        let left : m * (d * 1000) ≡ m * d * 1000 = omega arith in
        let right : (n * 1000 + 0 * d) * e ≡ n * e * 1000 = omega arith in
        omega (arith, is, left, right)

    cancel : (a b : ℕ) → a * 1000 ≡ b * 1000 → a ≡ b
    cancel a b e = omega (arith, e)

is_zero : (ms : ℤ) → int_eq ms (pos 0) ≡ true → ms ≡ pos 0
is_zero ms test = grind (arith, ints, test)

pub no_delay_shows : ShowsByTimes → (number : ℕ) (ms : ℤ) (movie new : PlacedMovie) → AreParts movie → int_eq ms (pos 0) ≡ true → new ≡ movie → DelaysShown number ms movie new
no_delay_shows law number ms movie new h none same files hold =
    subst (λ (z : ℤ). AllZip (λ (t o : TrackRecord). ShowsDelayed (t.number == number) z movie.scale new.scale t o) (stands_for files movie).tracks (stands_for files new).tracks) (sym (is_zero ms none))
    (subst (λ (m : PlacedMovie). AllZip (λ (t o : TrackRecord). ShowsDelayed (t.number == number) (pos 0) movie.scale m.scale t o) (stands_for files movie).tracks (stands_for files m).tracks) (sym same)
    (each movie.tracks (scales_some movie.scale movie.tracks h.bare.tracks)))
  where
    itself : (track : TrackRecord) → 0 < track.scale → ShowsTheSame movie.scale movie.scale track track
    itself track some = law.same movie.scale movie.scale track track (law.itself movie.scale track h.bare.header.some_scale some)

    now : (track : TrackRecord) → 0 < track.scale → ShowsLater (pos 0) movie.scale movie.scale track track
    now track some = record {
      before = λ n d some_d less. let lt = ltb-true (n * 1000) (0 * d) less in let none : 0 * d ≡ 0 = omega arith in absurd (omega (arith, lt, none));
      after = λ n d m e is. sym ((itself track some).shown n d m e (same_later n d m e is));
      total = record {
        positive = mul-pos h.bare.header.some_scale some;
        other_positive = mul-pos (mul-pos h.bare.header.some_scale some) (omega arith);
        crosswise = ap pos (turn (total (explicit movie.scale track 1)) (movie.scale * track.scale));
      };
    }
      where
        turn : (a b : ℕ) → a * (b * 1000) ≡ (a * 1000 + 0 * b) * b
        turn a b = omega arith

    one : (track : TrackRecord) → 0 < track.scale → (b : Bool) → ShowsDelayed b (pos 0) movie.scale movie.scale track track
    one track some true = now track some
    one track some false = itself track some

    each : (tracks : List PlacedTrack) → AllByRecursion (λ (t : PlacedTrack). 0 < t.scale) tracks
        → AllZip (λ (t o : TrackRecord). ShowsDelayed (t.number == number) (pos 0) movie.scale movie.scale t o) (map (track_for files) tracks) (map (track_for files) tracks)
    each [] some = tt
    each (track ∷ tracks) some = (one (track_for files track) some.0 (track.number == number), each tracks some.1)
