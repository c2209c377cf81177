-- What commands make of a movie is seen as they say.
use Rattle.std.proofs.Common.{◌≡◌, ℕ, zero, suc, ◌+◌, ◌*◌, ◌/◌, ◌<◌, ◌≤◌, ◌==◌, Bool, true, false, not, List, [], ◌∷◌, ◌++◌, map, Option, Some, None, refl, ap, subst, ◌∙◌, arith}
use Rattle.std.specs.Prelude.{Ok, Err, if◌then◌else◌}
use Rattle.std.specs.List.{AllByRecursion, AllZip, find, flat_map, list_all, list_any, range_with_len}
use Rattle.std.proofs.Math.Nat.{mul-pos}
use Rattle.mp_frac.specs.declared.time.Frac.{Frac}
use Rattle.mp_frac.specs.Divisors.{most}
use Rattle.mp_ports.specs.declared.code.Code.{Code}
use Rattle.mp_ports.specs.declared.code.Code.TheVariants.{IdLimit, NoTrack}
use Rattle.mp_ports.specs.Checks.{unless}
use Rattle.mp_timeline.specs.Movie.{TrackHeadRecord, TrackRecord, MovieRecord}
use Rattle.mp_timeline.specs.Same.{HasScales}
use Rattle.mp_shown.specs.Law.{ShowsByTimes}
use Rattle.track_ops.specs.declared.chosen.Choice.{Choice}
use Rattle.track_ops.specs.declared.heads.HeadChange.{HeadChange}
use Rattle.track_ops.specs.declared.heads.HeadChange.TheVariants.{Language, Enabled}
use Rattle.track_ops.specs.Adding.{add, add_chosen, chosen, is_above, is_chosen, joined, joined_times, renumbered, unless_empty}
use Rattle.track_ops.specs.Heads.{changed}
use Rattle.track_ops.specs.Limits.{limit, settled_to}
use Rattle.track_ops.specs.Moments.{AreSeenAs, View, IsSeenAs, added_views, view_numbers, view_of, with_added, with_removed}
use Rattle.track_ops.specs.Numbers.{is_taken, numbers_for, numbers_of}
use Rattle.track_ops.specs.Scales.{edit_times, in_movie_scale, is_whole, settled}
use Rattle.track_ops.specs.Tracks.{change_head, changed_at, remove, without}
use Rattle.track_ops.proofs.Lists.{all_filtered}
use Rattle.track_ops.proofs.SameTimes.{some_left}
use Rattle.track_ops.proofs.SeenTracks.{all_split, own_view, seen_in_movie_scale}

-- ---- a track is removed, or its head changes

kept_seen : (scale number : ℕ) (tracks : List TrackRecord) (views : List View) → AllZip (IsSeenAs scale) tracks views → AllZip (IsSeenAs scale) (without number tracks) (with_removed number views)
kept_seen scale number [] [] seen = tt
kept_seen scale number [] (view ∷ views) seen = absurd seen
kept_seen scale number (track ∷ tracks) [] seen = absurd seen
kept_seen scale number (track ∷ tracks) (view ∷ views) seen =
    by (not (track.number == number)) (not (view.number == number)) (ap (λ (n : ℕ). not (n == number)) seen.0.number) (kept_seen scale number tracks views seen.1)
  where
    by : (a b : Bool) → a ≡ b → AllZip (IsSeenAs scale) (without number tracks) (with_removed number views)
        → AllZip (IsSeenAs scale) (if a then track ∷ without number tracks else without number tracks) (if b then view ∷ with_removed number views else with_removed number views)
    by true true same rest = (seen.0, rest)
    by true false same rest = cc
    by false true same rest = cc
    by false false same rest = rest

handler_stays : (change : HeadChange) (head : TrackHeadRecord) → (changed change head).handler ≡ head.handler
handler_stays (Language code) head = refl
handler_stays (Enabled on) head = refl

heads_seen : (scale number : ℕ) (change : HeadChange) (tracks : List TrackRecord) (views : List View) → AllZip (IsSeenAs scale) tracks views
    → AllZip (IsSeenAs scale) (changed_at number (λ track. record track { head = changed change track.head }) tracks) views
heads_seen scale number change [] [] seen = tt
heads_seen scale number change [] (view ∷ views) seen = absurd seen
heads_seen scale number change (track ∷ tracks) [] seen = absurd seen
heads_seen scale number change (track ∷ tracks) (view ∷ views) seen = (by (track.number == number), heads_seen scale number change tracks views seen.1)
  where
    by : (b : Bool) → IsSeenAs scale (if b then record track { head = changed change track.head } else track) view
    by true = record { number = seen.0.number; handler = handler_stays change track.head ∙ seen.0.handler; length = seen.0.length; shown = seen.0.shown }
    by false = seen.0

where_is : (there : Bool) (value made : MovieRecord) → (if there then Ok value else Err NoTrack) ≡ Ok made → value ≡ made
where_is true value made is = cc
where_is false value made is = cc

pub removed : (number : ℕ) (movie made : MovieRecord) (views : List View) → remove number movie ≡ Ok made → AreSeenAs movie views → AreSeenAs made (with_removed number views)
removed number movie made views is seen =
    subst (λ (m : MovieRecord). AreSeenAs m (with_removed number views))
    (where_is (is_taken (numbers_of movie.tracks) number) (record movie { tracks = without number movie.tracks }) made is)
    (kept_seen movie.scale number movie.tracks views seen)

pub head_changed : (number : ℕ) (change : HeadChange) (movie made : MovieRecord) (views : List View) → change_head number change movie ≡ Ok made → AreSeenAs movie views → AreSeenAs made views
head_changed number change movie made views is seen =
    subst (λ (m : MovieRecord). AreSeenAs m views)
    (where_is (is_taken (numbers_of movie.tracks) number) (record movie { tracks = changed_at number (λ track. record track { head = changed change track.head }) movie.tracks }) made is)
    (heads_seen movie.scale number change movie.tracks views seen)

-- ---- scales that serve

find_is : {X : Type 0} (p : X → Bool) (f : ℕ → X) (a n : ℕ) (x : X) → find p (map f (range_with_len a n)) ≡ Some x → (k : ℕ) × (a ≤ k) × (f k ≡ x) × (p x ≡ true)
find_is p f a zero x is = cc
find_is {X} p f a (suc n) x is = by (p (f a)) refl is (find_is p f (a + 1) n x)
  where
    by : (test : Bool) → p (f a) ≡ test → (if test then Some (f a) else find p (map f (range_with_len (a + 1) n))) ≡ Some x
        → (find p (map f (range_with_len (a + 1) n)) ≡ Some x → (k : ℕ) × (a + 1 ≤ k) × (f k ≡ x) × (p x ≡ true))
        → (k : ℕ) × (a ≤ k) × (f k ≡ x) × (p x ≡ true)
    by true passes is later = let first : f a ≡ x = cc in (a, omega arith, first, subst (λ (y : X). p y ≡ true) first passes)
    by false fails is later = let found = later is in (found.0, omega (arith, found.1), found.2, found.3)

settled_is : (scale new : ℕ) (times : List Frac) → 0 < scale → settled scale times ≡ Some new → (0 < new) × (list_all (is_whole new) times ≡ true)
settled_is scale new times some is =
    let found = find_is (λ multiple. list_all (is_whole multiple) times) (λ factor. scale * factor) 1 (most / scale) new is in
    (subst (λ (x : ℕ). 0 < x) found.2 (mul-pos some found.1), found.3)

-- how long the edits of a track last is whole in the new scale
abbrev pub IsWholeTrack : (old new : ℕ) → TrackRecord → Type 0
IsWholeTrack old new track = list_all (is_whole new) (edit_times old track) ≡ true

pub each_whole : (old new : ℕ) (tracks : List TrackRecord) → list_all (is_whole new) (flat_map (edit_times old) tracks) ≡ true → AllByRecursion (IsWholeTrack old new) tracks
each_whole old new [] all = tt
each_whole old new (track ∷ tracks) all =
    let each = all_split (is_whole new) (edit_times old track) (flat_map (edit_times old) tracks) all in
    (each.0, each_whole old new tracks each.1)

-- ---- tracks are added

zip_joined : {A B : Type 0} (R : A → B → Type 0) (xs zs : List A) (ys ws : List B) → AllZip R xs ys → AllZip R zs ws → AllZip R (xs ++ zs) (ys ++ ws)
zip_joined R [] zs [] ws front behind = behind
zip_joined R [] zs (y ∷ ys) ws front behind = absurd front
zip_joined R (x ∷ xs) zs [] ws front behind = absurd front
zip_joined R (x ∷ xs) zs (y ∷ ys) ws front behind = (front.0, zip_joined R xs zs ys ws front.1 behind)

numbers_same : (scale : ℕ) (tracks : List TrackRecord) (views : List View) → AllZip (IsSeenAs scale) tracks views → numbers_of tracks ≡ view_numbers views
numbers_same scale [] [] seen = refl
numbers_same scale [] (view ∷ views) seen = absurd seen
numbers_same scale (track ∷ tracks) [] seen = absurd seen
numbers_same scale (track ∷ tracks) (view ∷ views) seen = λ i. seen.0.number i ∷ numbers_same scale tracks views seen.1 i

module _ (law : ShowsByTimes) (old new : ℕ) (some_new : 0 < new) where
  pub own_seen : (tracks : List TrackRecord) (views : List View) → AllByRecursion (IsWholeTrack old new) tracks → AllZip (IsSeenAs old) tracks views
      → AllZip (IsSeenAs new) (map (in_movie_scale old new) tracks) views
  own_seen [] [] whole seen = tt
  own_seen [] (view ∷ views) whole seen = absurd seen
  own_seen (track ∷ tracks) [] whole seen = absurd seen
  own_seen (track ∷ tracks) (view ∷ views) whole seen = (seen_in_movie_scale law old new track view some_new whole.0 seen.0, own_seen tracks views whole.1 seen.1)

  added_seen : 0 < old → (numbers : List ℕ) (tracks : List TrackRecord) → AllByRecursion (λ track. 0 < track.scale) tracks → AllByRecursion (IsWholeTrack old new) tracks
      → AllZip (IsSeenAs new) (map (in_movie_scale old new) (renumbered numbers tracks)) (map (view_of old) (renumbered numbers tracks))
  added_seen some [] tracks scales whole = tt
  added_seen some (number ∷ numbers) [] scales whole = tt
  added_seen some (number ∷ numbers) (track ∷ tracks) scales whole =
      let given : TrackRecord = record track { number = number } in
      (seen_in_movie_scale law old new given (view_of old given) some_new whole.0 (own_view old given some scales.0), added_seen some numbers tracks scales.1 whole.1)

pub unless_is : (fault : Option Code) (value made : MovieRecord) → unless fault value ≡ Ok made → value ≡ made
unless_is None value made is = cc
unless_is (Some code) value made is = cc

-- the scale that serves, and the movie in it
added_is : (movie other made : MovieRecord) (tracks : List TrackRecord) (above : Bool) (scale : Option ℕ) → settled (unless_empty movie.tracks movie.scale other.scale) (joined_times movie other tracks) ≡ scale
    → (if above then Err IdLimit else settled_to (joined movie other tracks) scale) ≡ Ok made
    → (new : ℕ) × (settled (unless_empty movie.tracks movie.scale other.scale) (joined_times movie other tracks) ≡ Some new) × (joined movie other tracks new ≡ made)
added_is movie other made tracks true scale serves is = cc
added_is movie other made tracks false None serves is = cc
added_is movie other made tracks false (Some new) serves is = (new, serves, unless_is (limit (joined movie other tracks new)) (joined movie other tracks new) made is)

lead_some : (own other : ℕ) (tracks : List TrackRecord) (views : List View) → 0 < other → AllZip (IsSeenAs own) tracks views → 0 < unless_empty tracks own other
lead_some own other [] views some seen = some
lead_some own other (track ∷ tracks) [] some seen = absurd seen
lead_some own other (track ∷ tracks) (view ∷ views) some seen = some_left own track.scale seen.0.length.positive

joined_seen : ShowsByTimes → (movie other : MovieRecord) (tracks : List TrackRecord) (new : ℕ) (views : List View) → 0 < other.scale → AllByRecursion (λ track. 0 < track.scale) tracks
    → settled (unless_empty movie.tracks movie.scale other.scale) (joined_times movie other tracks) ≡ Some new → AreSeenAs movie views
    → AreSeenAs (joined movie other tracks new) (views ++ added_views (view_numbers views) other.scale tracks)
joined_seen law movie other tracks new views some scales serves seen =
    let serving = settled_is (unless_empty movie.tracks movie.scale other.scale) new (joined_times movie other tracks) (lead_some movie.scale other.scale movie.tracks views some seen) serves in
    let whole = all_split (is_whole new) (flat_map (edit_times movie.scale) movie.tracks) (flat_map (edit_times other.scale) tracks) serving.1 in
    zip_joined (IsSeenAs new) (map (in_movie_scale movie.scale new) movie.tracks) _ views _
    (own_seen law movie.scale new serving.0 movie.tracks views (each_whole movie.scale new movie.tracks whole.0) seen)
    (subst
    (λ (taken : List ℕ). AllZip (IsSeenAs new) (map (in_movie_scale other.scale new) (renumbered (numbers_for (numbers_of movie.tracks) (numbers_of tracks)) tracks)) (added_views taken other.scale tracks))
    (numbers_same movie.scale movie.tracks views seen)
    (added_seen law other.scale new serving.0 some (numbers_for (numbers_of movie.tracks) (numbers_of tracks)) tracks scales (each_whole other.scale new tracks whole.1)))

pub added : ShowsByTimes → (choice : Choice) (other movie made : MovieRecord) (views : List View) → HasScales other → add choice other movie ≡ Ok made → AreSeenAs movie views
    → AreSeenAs made (with_added choice other views)
added law choice other movie made views scales is seen =
    by (chosen choice other.tracks) (all_filtered (λ (track : TrackRecord). 0 < track.scale) (λ track. is_chosen choice track.number track.head.handler) other.tracks scales.tracks) is
  where
    by : (tracks : List TrackRecord) → AllByRecursion (λ track. 0 < track.scale) tracks → add_chosen movie other tracks ≡ Ok made
        → AreSeenAs made (views ++ added_views (view_numbers views) other.scale tracks)
    by [] scaled is = cc
    by (track ∷ tracks) scaled is =
        let done = added_is movie other made (track ∷ tracks) (list_any is_above (numbers_for (numbers_of movie.tracks) (numbers_of (track ∷ tracks)))) _ refl is in
        subst (λ (m : MovieRecord). AreSeenAs m (views ++ added_views (view_numbers views) other.scale (track ∷ tracks))) done.2
        (joined_seen law movie other (track ∷ tracks) done.0 views scales.whole scaled done.1 seen)
