-- The limits that two movies pass together: how long edits last, how many samples and how many tracks there are.
use Rattle.std.proofs.Common.{◌≡◌, ℕ, ◌+◌, ◌||◌, nat_lt, Bool, false, List, [], ◌∷◌, ◌++◌, length, map, option_map, Option, Some, None, refl, ap, ◌∙◌, arith}
use Rattle.std.specs.List.{list_any}
use Rattle.std.proofs.lemmas.List.{length-map, length-append}
use Rattle.std.proofs.lemmas.List.Folds.{list_any-append}
use Rattle.std.proofs.lemmas.List.Sums.{sum_by-append}
use Rattle.mp_columns.specs.declared.columns.TheConstants.{MOST_ITEMS}
use Rattle.mp_ports.specs.declared.code.Code.{Code}
use Rattle.mp_ports.specs.declared.code.Code.TheVariants.{DeltaLimit, SizeLimit, EntryLimit, SegmentLimit, OffsetLimit, DurationLimit, StartLimit, SampleLimit, TrackLimit}
use Rattle.mp_ports.specs.Checks.{first_code}
use Rattle.mp_timeline.specs.declared.segment.Segment.{Segment}
use Rattle.mp_timeline.specs.declared.segment.Segment.TheVariants.{Empty, Media}
use Rattle.mp_edits.specs.EditBox.{segments_in}
use Rattle.mp_edits.specs.Segments.{most_segments, starts_late}
use Rattle.mp_movie.specs.Limits.{most_tracks}
use Rattle.mp_movie.specs.Placed.{PlacedTrack, PlacedMovie, sample_count}
use Rattle.mp_movie.specs.PartsFit.{first_limit, limits, passes}
use Rattle.track_ops.specs.declared.chosen.Choice.{Choice}
use Rattle.track_ops.specs.Adding.{is_chosen}
use Rattle.track_ops.specs.Kept.{kept_chosen, kept_in_scale, kept_joined, kept_renumbered}
use Rattle.track_ops.specs.Scales.{lasting}
use Rattle.track_ops.proofs.AddedParts.{any_renumbered, many_renumbered, sum_renumbered}
use Rattle.track_ops.proofs.LimitsStay.{none_holds}
use Rattle.track_ops.proofs.Lists.{any_same, none_kept, sum_same}

pub early : (old new : ℕ) (track : PlacedTrack) → passes StartLimit (kept_in_scale old new track) ≡ passes StartLimit track
early old new track = by track.edits
  where
    one : (segment : Segment) → starts_late (lasting old new segment) ≡ starts_late segment
    one (Empty dur) = refl
    one (Media start dur) = refl

    by : (edits : Option (List Segment)) → list_any starts_late (segments_in (option_map (map (lasting old new)) edits)) ≡ list_any starts_late (segments_in edits)
    by None = refl
    by (Some segments) = any_same starts_late (lasting old new) one segments

pub few : (old new : ℕ) (track : PlacedTrack) → passes SegmentLimit (kept_in_scale old new track) ≡ passes SegmentLimit track
few old new track = by track.edits
  where
    by : (edits : Option (List Segment)) → nat_lt most_segments (length (segments_in (option_map (map (lasting old new)) edits))) ≡ nat_lt most_segments (length (segments_in edits))
    by None = refl
    by (Some segments) = ap (λ (n : ℕ). nat_lt most_segments n) (length-map segments (lasting old new))

three : (delta offset long start size many tracks entry segment : Bool) → delta ≡ false → offset ≡ false → start ≡ false → size ≡ false → entry ≡ false → segment ≡ false
    → first_code (
    (delta, DeltaLimit)
    ∷ (offset, OffsetLimit)
    ∷ (long, DurationLimit)
    ∷ (start, StartLimit)
    ∷ (size, SizeLimit)
    ∷ (many, SampleLimit)
    ∷ (tracks, TrackLimit)
    ∷ (entry, EntryLimit)
    ∷ (segment, SegmentLimit)
    ∷ []
    )
    ≡ first_code ((long, DurationLimit) ∷ (many, SampleLimit) ∷ (tracks, TrackLimit) ∷ [])
three delta offset long start size many tracks entry segment a b c d e f = rw (a, b, c, d, e, f) refl

pub same_three : (a b c d e f : Bool) → a ≡ d → b ≡ e → c ≡ f
    → first_code ((a, DurationLimit) ∷ (b, SampleLimit) ∷ (c, TrackLimit) ∷ []) ≡ first_code ((d, DurationLimit) ∷ (e, SampleLimit) ∷ (f, TrackLimit) ∷ [])
same_three a b c d e f p q r = rw (p, q, r) refl

-- the own tracks, and those that are added
abbrev own : PlacedMovie → ℕ → List PlacedTrack
own movie scale = map (kept_in_scale movie.scale scale) movie.tracks

abbrev added : PlacedMovie → List PlacedTrack → List ℕ → ℕ → List PlacedTrack
added other tracks numbers scale = map (kept_in_scale other.scale scale) (kept_renumbered numbers tracks)

neither : (movie other : PlacedMovie) (tracks : List PlacedTrack) (numbers : List ℕ) (scale : ℕ) (code : Code) → length numbers ≡ length tracks
    → ((old new : ℕ) (track : PlacedTrack) → passes code (kept_in_scale old new track) ≡ passes code track) → ((number : ℕ) (track : PlacedTrack) → passes code (record track { number = number }) ≡ passes code track)
    → list_any (passes code) movie.tracks ≡ false → list_any (passes code) tracks ≡ false → list_any (passes code) (own movie scale ++ added other tracks numbers scale) ≡ false
neither movie other tracks numbers scale code long scaled numbered none other_none =
    list_any-append (passes code) (own movie scale) (added other tracks numbers scale)
    ∙ no (list_any (passes code) (own movie scale)) (list_any (passes code) (added other tracks numbers scale)) (any_same (passes code) (kept_in_scale movie.scale scale) (scaled movie.scale scale) movie.tracks ∙ none)
    (any_same (passes code) (kept_in_scale other.scale scale) (scaled other.scale scale) (kept_renumbered numbers tracks) ∙ (any_renumbered (passes code) numbered numbers tracks long ∙ other_none))
  where
    no : (a b : Bool) → a ≡ false → b ≡ false → (a || b) ≡ false
    no a b p q = rw (p, q) refl

samples_joined : (movie other : PlacedMovie) (tracks : List PlacedTrack) (numbers : List ℕ) (scale : ℕ) → length numbers ≡ length tracks
    → sample_count (own movie scale ++ added other tracks numbers scale) ≡ sample_count movie.tracks + sample_count tracks
samples_joined movie other tracks numbers scale long =
    omega (
      arith,
      sum_by-append (λ (t : PlacedTrack). length t.deltas) (own movie scale) (added other tracks numbers scale),
      sum_same (λ (t : PlacedTrack). length t.deltas) (kept_in_scale movie.scale scale) (λ track. refl) movie.tracks,
      sum_same (λ (t : PlacedTrack). length t.deltas) (kept_in_scale other.scale scale) (λ track. refl) (kept_renumbered numbers tracks),
      sum_renumbered (λ (t : PlacedTrack). length t.deltas) (λ number track. refl) numbers tracks long,
    )

tracks_joined : (movie other : PlacedMovie) (tracks : List PlacedTrack) (numbers : List ℕ) (scale : ℕ) → length numbers ≡ length tracks
    → length (own movie scale ++ added other tracks numbers scale) ≡ length movie.tracks + length tracks
tracks_joined movie other tracks numbers scale long =
    omega (
      arith,
      length-append (own movie scale) (added other tracks numbers scale),
      length-map movie.tracks (kept_in_scale movie.scale scale),
      length-map (kept_renumbered numbers tracks) (kept_in_scale other.scale scale),
      many_renumbered numbers tracks long,
    )

-- where neither movie passes a limit
pub limit_joined : (movie other : PlacedMovie) (choice : Choice) (numbers : List ℕ) (scale : ℕ) → first_limit movie ≡ None → first_limit other ≡ None → length numbers ≡ length (kept_chosen choice other.tracks)
    → first_limit (kept_joined movie other (kept_chosen choice other.tracks) numbers scale)
    ≡ first_code ((
      list_any (passes DurationLimit) (map (kept_in_scale movie.scale scale) movie.tracks) || list_any (passes DurationLimit) (map (kept_in_scale other.scale scale) (kept_renumbered numbers (kept_chosen choice other.tracks))),
      DurationLimit,
    )
    ∷ (nat_lt MOST_ITEMS (sample_count movie.tracks + sample_count (kept_chosen choice other.tracks)), SampleLimit)
    ∷ (nat_lt most_tracks (length movie.tracks + length (kept_chosen choice other.tracks)), TrackLimit)
    ∷ []
    )
limit_joined movie other choice numbers scale fits fit long =
    let tracks = kept_chosen choice other.tracks in
    let tests = none_holds (limits movie) fits in
    let others = none_holds (limits other) fit in
    three _ _ _ _ _ _ _ _ _ (neither movie other tracks numbers scale DeltaLimit long (λ old new track. refl) (λ number track. refl) tests.0 (none DeltaLimit others.0))
    (neither movie other tracks numbers scale OffsetLimit long (λ old new track. refl) (λ number track. refl) tests.1.0 (none OffsetLimit others.1.0))
    (neither movie other tracks numbers scale StartLimit long early (λ number track. refl) tests.1.1.1.0 (none StartLimit others.1.1.1.0))
    (neither movie other tracks numbers scale SizeLimit long (λ old new track. refl) (λ number track. refl) tests.1.1.1.1.0 (none SizeLimit others.1.1.1.1.0))
    (neither movie other tracks numbers scale EntryLimit long (λ old new track. refl) (λ number track. refl) tests.1.1.1.1.1.1.1.0 (none EntryLimit others.1.1.1.1.1.1.1.0))
    (neither movie other tracks numbers scale SegmentLimit long few (λ number track. refl) tests.1.1.1.1.1.1.1.1.0 (none SegmentLimit others.1.1.1.1.1.1.1.1.0))
    ∙ same_three _ _ _ _ _ _ (list_any-append (passes DurationLimit) (own movie scale) (added other tracks numbers scale))
    (ap (λ (n : ℕ). nat_lt MOST_ITEMS n) (samples_joined movie other tracks numbers scale long)) (ap (λ (n : ℕ). nat_lt most_tracks n) (tracks_joined movie other tracks numbers scale long))
  where
    none : (code : Code) → list_any (passes code) other.tracks ≡ false → list_any (passes code) (kept_chosen choice other.tracks) ≡ false
    none code test = none_kept (passes code) (λ (track : PlacedTrack). is_chosen choice track.number track.head.handler) other.tracks test
