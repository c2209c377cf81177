-- What the movie with added tracks stands for.
use Rattle.std.proofs.Common.{◌≡◌, ℕ, pos, ◌||◌, nat_lt, Bool, true, false, List, [], ◌∷◌, ◌++◌, length, map, option_map, Option, Some, None, refl, sym, ap, ◌∙◌, arith}
use Rattle.std.specs.Prelude.{Result, Ok, Err, if◌then◌else◌}
use Rattle.std.specs.List.{AllByRecursion, flat_map, list_any}
use Rattle.std.proofs.lemmas.List.{length-map, map-append}
use Rattle.std.proofs.lemmas.List.Sums.{sum_by-cons}
use Rattle.mp_frac.specs.declared.time.Frac.{Frac}
use Rattle.mp_frac.specs.Time.{in_ticks}
use Rattle.mp_columns.specs.declared.columns.TheConstants.{MOST_ITEMS}
use Rattle.mp_ports.specs.declared.code.Code.{Code}
use Rattle.mp_ports.specs.declared.code.Code.TheVariants.{DeltaLimit, SizeLimit, EntryLimit, SegmentLimit, OffsetLimit, DurationLimit, StartLimit, SampleLimit, TrackLimit, IdLimit}
use Rattle.mp_ports.specs.Checks.{first_code, unless}
use Rattle.mp_timeline.specs.declared.segment.Segment.{Segment}
use Rattle.mp_timeline.specs.Movie.{TrackRecord, MovieRecord}
use Rattle.mp_edits.specs.EditBox.{segments_in}
use Rattle.mp_edits.specs.Segments.{duration}
use Rattle.mp_movie.specs.Limits.{most_tracks}
use Rattle.mp_movie.specs.Placed.{PlacedTrack, PlacedMovie, sample_count}
use Rattle.mp_movie.specs.PartsFit.{first_limit, is_long, is_wide, passes}
use Rattle.mp_movie.specs.PartsLaw.{ColumnsAreKept}
use Rattle.mp_movie.specs.StandsFor.{Hold, HoldTrack, stands_for, track_for}
use Rattle.mp_movie.specs.WholeParts.{AreColumns}
use Rattle.track_ops.specs.declared.chosen.Choice.{Choice}
use Rattle.track_ops.specs.Adding.{add, add_chosen, chosen, is_above, is_chosen, joined, joined_times, renumbered, unless_empty}
use Rattle.track_ops.specs.Kept.{kept_chosen, kept_durations, kept_in_scale, kept_joined, kept_lead, kept_numbers, kept_renumbered}
use Rattle.track_ops.specs.Limits.{by_columns, limit, settled_to, within_limits}
use Rattle.track_ops.specs.Numbers.{numbers_for, numbers_of}
use Rattle.track_ops.specs.Scales.{edit_times, in_movie_scale, lasting, settled}
use Rattle.track_ops.specs.Summed.{added_scale, kept_scale, kept_times}
use Rattle.track_ops.proofs.Lists.{all_filtered, all_mapped, map_filter, map_map}
use Rattle.track_ops.proofs.AddedParts.{columns_joined, given}
use Rattle.track_ops.proofs.JoinedScales.{all_joined}
use Rattle.track_ops.proofs.StandsForTracks.{numbers_stand, stands_changed}

-- ---- limits of what a movie stands for

same_tests : (test : TrackRecord → Bool) (other : PlacedTrack → Bool) (files : List (List ℕ)) (P : PlacedTrack → Type 0) → ((track : PlacedTrack) → P track → test (track_for files track) ≡ other track) → (tracks : List PlacedTrack) → AllByRecursion P tracks
    → list_any test (map (track_for files) tracks) ≡ list_any other tracks
same_tests test other files P same [] all = refl
same_tests test other files P same (track ∷ tracks) all = rw (same track all.0, same_tests test other files P same tracks all.1) refl

any_by_columns : (code : Code) (tracks : List TrackRecord) → list_any (passes code) (map by_columns tracks) ≡ list_any (λ track. passes code (by_columns track)) tracks
any_by_columns code [] = refl
any_by_columns code (track ∷ tracks) = ap (λ (more : Bool). passes code (by_columns track) || more) (any_by_columns code tracks)

count_by_columns : ColumnsAreKept → (files : List (List ℕ)) (tracks : List PlacedTrack) → AllByRecursion AreColumns tracks → sample_count (map by_columns (map (track_for files) tracks)) ≡ sample_count tracks
count_by_columns law files [] all = refl
count_by_columns law files (track ∷ tracks) all =
    let rest = count_by_columns law files tracks all.1 in
    let first = ap length (law.durations files track all.0) in
    omega (
      arith,
      rest,
      first,
      sum_by-cons (λ (t : PlacedTrack). length t.deltas) track tracks,
      sum_by-cons (λ (t : PlacedTrack). length t.deltas) (by_columns (track_for files track)) (map by_columns (map (track_for files) tracks)),
    )

same_nine : (a b c d e f g h i j k l m n o p q r : Bool) → a ≡ j → b ≡ k → c ≡ l → d ≡ m → e ≡ n → f ≡ o → g ≡ p → h ≡ q → i ≡ r
    → first_code (
    (a, DeltaLimit)
    ∷ (b, OffsetLimit)
    ∷ (c, DurationLimit)
    ∷ (d, StartLimit)
    ∷ (e, SizeLimit)
    ∷ (f, SampleLimit)
    ∷ (g, TrackLimit)
    ∷ (h, EntryLimit)
    ∷ (i, SegmentLimit)
    ∷ []
    )
    ≡ first_code (
    (j, DeltaLimit)
    ∷ (k, OffsetLimit)
    ∷ (l, DurationLimit)
    ∷ (m, StartLimit)
    ∷ (n, SizeLimit)
    ∷ (o, SampleLimit)
    ∷ (p, TrackLimit)
    ∷ (q, EntryLimit)
    ∷ (r, SegmentLimit)
    ∷ []
    )
same_nine a b c d e f g h i j k l m n o p q r s t u v w x y z z' = rw (s, t, u, v, w, x, y, z, z') refl

pub limit_stands : ColumnsAreKept → (files : List (List ℕ)) (movie : PlacedMovie) → AllByRecursion AreColumns movie.tracks → Hold (map length files) movie → limit (stands_for files movie) ≡ first_limit movie
limit_stands law files movie columns hold =
    same_nine _ _ _ _ _ _ _ _ _ _ _ _ _ _ _ _ _ _ (test DeltaLimit AreColumns (λ track h. ap is_long (law.durations files track h)) columns)
    (test OffsetLimit AreColumns (λ track h. ap is_wide (law.offsets files track h)) columns) (test DurationLimit AreColumns (λ track h. refl) columns) (test StartLimit AreColumns (λ track h. refl) columns)
    (test SizeLimit (λ track. AreColumns track × HoldTrack (map length files) track) (λ track h. ap is_long (law.sizes files track h.0 h.1)) (both movie.tracks columns hold))
    (ap (λ (n : ℕ). nat_lt MOST_ITEMS n) (count_by_columns law files movie.tracks columns)) (ap (λ (n : ℕ). nat_lt most_tracks n) (length-map (map (track_for files) movie.tracks) by_columns ∙ length-map movie.tracks (track_for files)))
    (test EntryLimit AreColumns (λ track h. refl) columns) (test SegmentLimit AreColumns (λ track h. refl) columns)
  where
    test : (code : Code) (P : PlacedTrack → Type 0) → ((track : PlacedTrack) → P track → passes code (by_columns (track_for files track)) ≡ passes code track) → AllByRecursion P movie.tracks
        → list_any (passes code) (map by_columns (map (track_for files) movie.tracks)) ≡ list_any (passes code) movie.tracks
    test code P same all = any_by_columns code (map (track_for files) movie.tracks) ∙ same_tests (λ track. passes code (by_columns track)) (passes code) files P same movie.tracks all

    both : (tracks : List PlacedTrack) → AllByRecursion AreColumns tracks → AllByRecursion (HoldTrack (map length files)) tracks → AllByRecursion (λ track. AreColumns track × HoldTrack (map length files) track) tracks
    both [] a b = tt
    both (track ∷ tracks) a b = ((a.0, b.0), both tracks a.1 b.1)

-- ---- tracks that are added

chosen_stand : (files : List (List ℕ)) (choice : Choice) (tracks : List PlacedTrack) → chosen choice (map (track_for files) tracks) ≡ map (track_for files) (kept_chosen choice tracks)
chosen_stand files choice tracks =
    sym (map_filter (track_for files) (λ (t : PlacedTrack). is_chosen choice t.number t.head.handler) (λ (t : TrackRecord). is_chosen choice t.number t.head.handler) (λ track. refl) tracks)

renumbered_stand : (files : List (List ℕ)) (numbers : List ℕ) (tracks : List PlacedTrack) → renumbered numbers (map (track_for files) tracks) ≡ map (track_for files) (kept_renumbered numbers tracks)
renumbered_stand files [] tracks = refl
renumbered_stand files (number ∷ numbers) [] = refl
renumbered_stand files (number ∷ numbers) (track ∷ tracks) =
    cons (sym (stands_changed files track number track.scale track.head track.edits)) (renumbered_stand files numbers tracks)
  where
    cons : {x y : TrackRecord} {xs ys : List TrackRecord} → x ≡ y → xs ≡ ys → x ∷ xs ≡ y ∷ ys
    cons p q = λ i. p i ∷ q i

pub scaled_stand : (files : List (List ℕ)) (old new : ℕ) (tracks : List PlacedTrack) → map (in_movie_scale old new) (map (track_for files) tracks) ≡ map (track_for files) (map (kept_in_scale old new) tracks)
scaled_stand files old new tracks =
    sym (map_map (track_for files) (kept_in_scale old new) (in_movie_scale old new) (λ track. stands_changed files track track.number track.scale track.head (option_map (map (lasting old new)) track.edits)) tracks)

times_of_segments : (scale : ℕ) (segments : List Segment) → map (λ (s : Segment). in_ticks (pos (duration s)) scale) segments ≡ map (λ (t : ℕ). in_ticks (pos t) scale) (map duration segments)
times_of_segments scale [] = refl
times_of_segments scale (segment ∷ segments) = ap (λ (times : List Frac). in_ticks (pos (duration segment)) scale ∷ times) (times_of_segments scale segments)

pub times_stand : (files : List (List ℕ)) (scale : ℕ) (tracks : List PlacedTrack) → flat_map (edit_times scale) (map (track_for files) tracks) ≡ kept_times scale tracks
times_stand files scale [] = refl
times_stand files scale (track ∷ tracks) =
    ap (λ (front : List Frac). front ++ flat_map (edit_times scale) (map (track_for files) tracks)) (times_of_segments scale (segments_in track.edits))
    ∙ (ap (λ (behind : List Frac). map (λ (t : ℕ). in_ticks (pos t) scale) (map duration (segments_in track.edits)) ++ behind) (times_stand files scale tracks)
    ∙ sym (map-append (λ (t : ℕ). in_ticks (pos t) scale) (map duration (segments_in track.edits)) (kept_durations tracks)))

empty_stand : {A : Type 0} (files : List (List ℕ)) (tracks : List PlacedTrack) (a b : A) → unless_empty (map (track_for files) tracks) a b ≡ unless_empty tracks a b
empty_stand files [] a b = refl
empty_stand files (track ∷ tracks) a b = refl

lead_field : {A : Type 0} (f : PlacedMovie → A) (tracks : List PlacedTrack) (movie other : PlacedMovie) → unless_empty tracks (f movie) (f other) ≡ f (unless_empty tracks movie other)
lead_field f [] movie other = refl
lead_field f (track ∷ tracks) movie other = refl

-- the joined movie stands for the joined movies
pub joined_stands : (files : List (List ℕ)) (movie other : PlacedMovie) (tracks : List PlacedTrack) (scale : ℕ)
    → joined (stands_for files movie) (stands_for files other) (map (track_for files) tracks) scale ≡ stands_for files (kept_joined movie other tracks (numbers_for (kept_numbers movie.tracks) (kept_numbers tracks)) scale)
joined_stands files movie other tracks scale =
    rw (empty_stand files movie.tracks movie.head other.head ∙ lead_field (λ (m : PlacedMovie). m.head) movie.tracks movie other, scaled_stand files movie.scale scale movie.tracks, numbers_stand files movie.tracks, numbers_stand files tracks)
    (rw (renumbered_stand files given tracks) (rw (scaled_stand files other.scale scale (kept_renumbered given tracks))
    (ap (λ (all : List TrackRecord). record { scale = scale; head = (kept_lead movie other).head; tracks = all })
    (sym (map-append (track_for files) (map (kept_in_scale movie.scale scale) movie.tracks) (map (kept_in_scale other.scale scale) (kept_renumbered given tracks)))))))
  where
    given : List ℕ
    given = numbers_for (kept_numbers movie.tracks) (kept_numbers tracks)

-- what the command answers, by the scale that was found
abbrev pub stands_at : List (List ℕ) → (ℕ → PlacedMovie) → Result ℕ Code → Result MovieRecord Code
stands_at files kept (Ok scale) = Ok (stands_for files (kept scale))
stands_at files kept (Err code) = Err code

settled_stands : (files : List (List ℕ)) (made : ℕ → MovieRecord) (kept : ℕ → PlacedMovie) → ((scale : ℕ) → made scale ≡ stands_for files (kept scale)) → ((scale : ℕ) → limit (stands_for files (kept scale)) ≡ first_limit (kept scale))
    → (result : Option ℕ) → settled_to made result ≡ stands_at files kept (kept_scale kept result)
settled_stands files made kept same limits None = refl
settled_stands files made kept same limits (Some scale) = ap within_limits (same scale) ∙ (ap (λ (code : Option Code). unless code (stands_for files (kept scale))) (limits scale) ∙ by (first_limit (kept scale)))
  where
    by : (code : Option Code) → unless code (stands_for files (kept scale)) ≡ stands_at files kept (unless code scale)
    by None = refl
    by (Some code) = refl

either_stands : (files : List (List ℕ)) (kept : ℕ → PlacedMovie) (a b : Bool) (x : Result MovieRecord Code) (y : Result ℕ Code) → a ≡ b → x ≡ stands_at files kept y
    → (if a then Err IdLimit else x) ≡ stands_at files kept (if b then Err IdLimit else y)
either_stands files kept a b x y same stands = rw same (by b)
  where
    by : (c : Bool) → (if c then Err IdLimit else x) ≡ stands_at files kept (if c then Err IdLimit else y)
    by true = refl
    by false = stands

held_renumbered : (sizes numbers : List ℕ) (tracks : List PlacedTrack) → AllByRecursion (HoldTrack sizes) tracks → AllByRecursion (HoldTrack sizes) (kept_renumbered numbers tracks)
held_renumbered sizes [] tracks all = tt
held_renumbered sizes (number ∷ numbers) [] all = tt
held_renumbered sizes (number ∷ numbers) (track ∷ tracks) all = (all.0, held_renumbered sizes numbers tracks all.1)

held_scaled : (sizes : List ℕ) (old new : ℕ) (tracks : List PlacedTrack) → AllByRecursion (HoldTrack sizes) tracks → AllByRecursion (HoldTrack sizes) (map (kept_in_scale old new) tracks)
held_scaled sizes old new tracks all = all_mapped (HoldTrack sizes) (HoldTrack sizes) (kept_in_scale old new) (λ track h. h) tracks all

pub held_joined : (sizes : List ℕ) (movie other : PlacedMovie) (tracks : List PlacedTrack) (numbers : List ℕ) (scale : ℕ) → Hold sizes movie → AllByRecursion (HoldTrack sizes) tracks → Hold sizes (kept_joined movie other tracks numbers scale)
held_joined sizes movie other tracks numbers scale hold held =
    all_joined (HoldTrack sizes) (map (kept_in_scale movie.scale scale) movie.tracks) _ (held_scaled sizes movie.scale scale movie.tracks hold)
    (held_scaled sizes other.scale scale (kept_renumbered numbers tracks) (held_renumbered sizes numbers tracks held))

pub held_chosen : (sizes : List ℕ) (choice : Choice) (other : PlacedMovie) → Hold sizes other → AllByRecursion (HoldTrack sizes) (kept_chosen choice other.tracks)
held_chosen sizes choice other hold = all_filtered (HoldTrack sizes) (λ (t : PlacedTrack). is_chosen choice t.number t.head.handler) other.tracks hold

same_above : (a b c d : List ℕ) → a ≡ c → b ≡ d → list_any is_above (numbers_for a b) ≡ list_any is_above (numbers_for c d)
same_above a b c d p q = rw (p, q) refl

same_settled : (a b : ℕ) (xs ys us vs : List Frac) → a ≡ b → xs ≡ us → ys ≡ vs → settled a (xs ++ ys) ≡ settled b (us ++ vs)
same_settled a b xs ys us vs p q r = rw (p, q, r) refl

-- the command on what two movies stand for
pub added_stands : ColumnsAreKept → (files : List (List ℕ)) (choice : Choice) (movie other : PlacedMovie) → AllByRecursion AreColumns movie.tracks → AllByRecursion AreColumns other.tracks → Hold (map length files) movie → Hold (map length files) other
    → add choice (stands_for files other) (stands_for files movie)
    ≡ stands_at files (kept_joined movie other (kept_chosen choice other.tracks) (given movie (kept_chosen choice other.tracks))) (added_scale movie other (kept_chosen choice other.tracks))
added_stands law files choice movie other columns others hold held =
    ap (add_chosen (stands_for files movie) (stands_for files other)) (chosen_stand files choice other.tracks)
    ∙ by (kept_chosen choice other.tracks) (all_filtered AreColumns (λ (t : PlacedTrack). is_chosen choice t.number t.head.handler) other.tracks others) (held_chosen (map length files) choice other held)
  where
    by : (tracks : List PlacedTrack) → AllByRecursion AreColumns tracks → AllByRecursion (HoldTrack (map length files)) tracks
        → add_chosen (stands_for files movie) (stands_for files other) (map (track_for files) tracks) ≡ stands_at files (kept_joined movie other tracks (given movie tracks)) (added_scale movie other tracks)
    by [] each all = refl
    by (track ∷ tracks) each all =
        either_stands files (kept_joined movie other (track ∷ tracks) (given movie (track ∷ tracks))) _ _ _ _ numbers
        (ap (settled_to (joined (stands_for files movie) (stands_for files other) (map (track_for files) (track ∷ tracks)))) scales
        ∙ settled_stands files (joined (stands_for files movie) (stands_for files other) (map (track_for files) (track ∷ tracks))) (kept_joined movie other (track ∷ tracks) (given movie (track ∷ tracks)))
        (joined_stands files movie other (track ∷ tracks)) limits (settled (kept_lead movie other).scale (kept_times movie.scale movie.tracks ++ kept_times other.scale (track ∷ tracks))))
      where
        numbers : list_any is_above (numbers_for (numbers_of (map (track_for files) movie.tracks)) (numbers_of (map (track_for files) (track ∷ tracks)))) ≡ list_any is_above (given movie (track ∷ tracks))
        numbers = same_above _ _ _ _ (numbers_stand files movie.tracks) (numbers_stand files (track ∷ tracks))

        scales : settled (unless_empty (map (track_for files) movie.tracks) movie.scale other.scale) (joined_times (stands_for files movie) (stands_for files other) (map (track_for files) (track ∷ tracks)))
            ≡ settled (kept_lead movie other).scale (kept_times movie.scale movie.tracks ++ kept_times other.scale (track ∷ tracks))
        scales =
            same_settled _ _ _ _ _ _ (empty_stand files movie.tracks movie.scale other.scale ∙ lead_field (λ (m : PlacedMovie). m.scale) movie.tracks movie other) (times_stand files movie.scale movie.tracks)
            (times_stand files other.scale (track ∷ tracks))

        limits : (scale : ℕ) → limit (stands_for files (kept_joined movie other (track ∷ tracks) (given movie (track ∷ tracks)) scale)) ≡ first_limit (kept_joined movie other (track ∷ tracks) (given movie (track ∷ tracks)) scale)
        limits scale =
            limit_stands law files (kept_joined movie other (track ∷ tracks) (given movie (track ∷ tracks)) scale) (columns_joined movie other (track ∷ tracks) (given movie (track ∷ tracks)) scale columns each)
            (held_joined (map length files) movie other (track ∷ tracks) (given movie (track ∷ tracks)) scale hold all)
