-- A movie with a changed head of one of its tracks.
use Rattle.std.proofs.Common.{◌≡◌, ℕ, ◌+◌, ◌*◌, ◌/◌, List, [], ◌∷◌, map, length, Bool, true, false, ◌==◌, Some, None, refl, sym, ap, ◌∙◌, subst, arith}
use Rattle.std.specs.Prelude.{Ok, if◌then◌else◌}
use Rattle.std.proofs.lemmas.List.{length-map}
use Rattle.std.specs.List.{AllByRecursion}
use Rattle.mp_ports.specs.declared.code.Code.{Code}
use Rattle.mp_ports.specs.declared.code.Code.TheVariants.{DeltaLimit, SizeLimit, EntryLimit, SegmentLimit, OffsetLimit, DurationLimit, StartLimit}
use Rattle.mp_ports.specs.Checks.{placed}
use Rattle.mp_timeline.specs.Movie.{TrackRecord}
use Rattle.mp_movie.specs.Placed.{PlacedTrack, PlacedMovie}
use Rattle.mp_movie.specs.StandsFor.{Hold, HoldTrack, stands_for, track_for}
use Rattle.mp_movie.specs.PartsFit.{first_limit, passes}
use Rattle.mp_movie.specs.WholeParts.{AreColumns, AreParts, bare_track}
use Rattle.mp_movie.specs.WellFormed.{AreDistinct, IsWellFormedTrack}
use Rattle.track_ops.specs.declared.heads.HeadChange.{HeadChange}
use Rattle.track_ops.specs.declared.heads.HeadChange.TheVariants.{Language, Enabled}
use Rattle.track_ops.specs.Heads.{IsChange, changed}
use Rattle.track_ops.specs.Kept.{has_number, kept_changed, kept_headed, with_head, with_head_at}
use Rattle.track_ops.specs.Does.{Does}
use Rattle.track_ops.specs.Tracks.{change_head}
use Rattle.track_ops.proofs.Lists.{all_mapped, any_same, map_map, map_same, sum_same}
use Rattle.track_ops.proofs.LimitsStay.{NoMore, still_fits}
use Rattle.track_ops.proofs.PartsStay.{columns_stay, numbers_distinct, parts_stay, track_stays}
use Rattle.track_ops.proofs.StandsForTracks.{taken, stands_changed}

-- a fact of tracks that no change of a head reaches
unreached : {A : Type 0} (f : PlacedTrack → A) → ((change : HeadChange) (track : PlacedTrack) → f (with_head change track) ≡ f track) → (number : ℕ) (change : HeadChange) (track : PlacedTrack)
    → f (with_head_at number change track) ≡ f track
unreached f same number change track = by (track.number == number)
  where
    by : (b : Bool) → f (if b then with_head change track else track) ≡ f track
    by true = same change track
    by false = refl

kept_by : (P : PlacedTrack → Type 0) → ((change : HeadChange) (track : PlacedTrack) → IsChange change → P track → P (with_head change track)) → (number : ℕ) (change : HeadChange) → IsChange change → (track : PlacedTrack)
    → P track → P (with_head_at number change track)
kept_by P stays number change fits track h = by (track.number == number)
  where
    by : (b : Bool) → P (if b then with_head change track else track)
    by true = stays change track fits h
    by false = h

head_stays : (scale : ℕ) (change : HeadChange) (track : PlacedTrack) → IsChange change → IsWellFormedTrack scale (bare_track track) → IsWellFormedTrack scale (bare_track (with_head change track))
head_stays scale (Language code) track fits h =
    track_stays scale scale (bare_track track) track.number track.head.flags code track.scale track.edits h h.number h.header.number h.header.flags fits h.media.some_scale h.media.timescale h.edits
head_stays scale (Enabled true) track fits h =
    let below = h.header.flags in
    track_stays scale scale (bare_track track) track.number (track.head.flags / 2 * 2 + 1) track.head.language track.scale track.edits h h.number h.header.number (omega (arith, below)) h.media.language h.media.some_scale
    h.media.timescale h.edits
head_stays scale (Enabled false) track fits h =
    let below = h.header.flags in
    track_stays scale scale (bare_track track) track.number (track.head.flags / 2 * 2 + 0) track.head.language track.scale track.edits h h.number h.header.number (omega (arith, below)) h.media.language h.media.some_scale
    h.media.timescale h.edits

pub parts_headed : (number : ℕ) (change : HeadChange) (movie : PlacedMovie) → IsChange change → AreParts movie → AreParts (kept_headed number change movie)
parts_headed number change movie fits h =
    parts_stay movie movie.scale (kept_changed number change movie.tracks) h h.bare.header.some_scale h.bare.header.timescale (each movie.tracks h.bare.tracks)
    (subst AreDistinct (sym (map_same (λ (t : PlacedTrack). t.number) (with_head_at number change) (unreached (λ (t : PlacedTrack). t.number) (λ change track. refl) number change) movie.tracks)) (numbers_distinct movie h))
    (columns movie.tracks h.columns)
  where
    each : (tracks : List PlacedTrack) → AllByRecursion (IsWellFormedTrack movie.scale) (map bare_track tracks) → AllByRecursion (IsWellFormedTrack movie.scale) (map bare_track (kept_changed number change tracks))
    each [] all = tt
    each (track ∷ tracks) all =
        (kept_by (λ track. IsWellFormedTrack movie.scale (bare_track track)) (λ change track. head_stays movie.scale change track) number change fits track all.0, each tracks all.1)

    columns : (tracks : List PlacedTrack) → AllByRecursion AreColumns tracks → AllByRecursion AreColumns (kept_changed number change tracks)
    columns tracks all =
        all_mapped AreColumns AreColumns (with_head_at number change)
        (kept_by AreColumns (λ change track fits h. columns_stay track track.number track.scale (changed change track.head) track.edits h) number change fits) tracks all

pub fits_headed : (number : ℕ) (change : HeadChange) (movie : PlacedMovie) → first_limit movie ≡ None → first_limit (kept_headed number change movie) ≡ None
fits_headed number change movie fits =
    still_fits (kept_headed number change movie) movie fits (record {
      delta = each DeltaLimit (λ change track. refl);
      offset = each OffsetLimit (λ change track. refl);
      duration = each DurationLimit (λ change track. refl);
      start = each StartLimit (λ change track. refl);
      size = each SizeLimit (λ change track. refl);
      entry = each EntryLimit (λ change track. refl);
      segment = each SegmentLimit (λ change track. refl);
    })
    (omega (arith, sum_same (λ (t : PlacedTrack). length t.deltas) (with_head_at number change) (unreached (λ (t : PlacedTrack). length t.deltas) (λ change track. refl) number change) movie.tracks))
    (omega (arith, length-map movie.tracks (with_head_at number change)))
  where
    each : (code : Code) → ((change : HeadChange) (track : PlacedTrack) → passes code (with_head change track) ≡ passes code track) → NoMore (kept_headed number change movie) movie code
    each code same none = any_same (passes code) (with_head_at number change) (unreached (passes code) same number change) movie.tracks ∙ none

-- it stands for the movie with the changed head
pub stands_headed : (files : List (List ℕ)) (number : ℕ) (change : HeadChange) (movie : PlacedMovie) → has_number number movie.tracks ≡ true
    → placed 0 (change_head number change (stands_for files movie)) ≡ Ok (stands_for files (kept_headed number change movie))
stands_headed files number change movie there =
    rw (taken files movie.tracks number, there)
    (ap (λ (tracks : List TrackRecord). Ok (record (stands_for files movie) { tracks = tracks })) (sym (map_map (track_for files) (with_head_at number change) at each movie.tracks)))
  where
    at : TrackRecord → TrackRecord
    at track = if track.number == number then record track { head = changed change track.head } else track

    each : (track : PlacedTrack) → track_for files (with_head_at number change track) ≡ at (track_for files track)
    each track = by (track.number == number)
      where
        by : (b : Bool) → track_for files (if b then with_head change track else track) ≡ (if b then record (track_for files track) { head = changed change track.head } else track_for files track)
        by true = stands_changed files track track.number track.scale (changed change track.head) track.edits
        by false = refl

pub held_headed : (sizes : List ℕ) (number : ℕ) (change : HeadChange) (movie : PlacedMovie) → Hold sizes movie → Hold sizes (kept_headed number change movie)
held_headed sizes number change movie hold = all_mapped (HoldTrack sizes) (HoldTrack sizes) (with_head_at number change) each movie.tracks hold
  where
    each : (track : PlacedTrack) → HoldTrack sizes track → HoldTrack sizes (with_head_at number change track)
    each track h = by (track.number == number)
      where
        by : (b : Bool) → HoldTrack sizes (if b then with_head change track else track)
        by true = h
        by false = h

pub headed : (number : ℕ) (change : HeadChange) (movie new : PlacedMovie) → has_number number movie.tracks ≡ true → new ≡ kept_headed number change movie
    → Does {A = Unit {0}} Some (change_head number change) movie new (Ok tt)
headed number change movie new there is =
    rw is
    (record { gives = λ files hold. stands_headed files number change movie there; held = λ sizes hold. held_headed sizes number change movie hold; same = tt })
