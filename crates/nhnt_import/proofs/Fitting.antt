-- The track of units is well formed, and passes the limits that their numbers pass.
use Rattle.std.proofs.Common.{◌≡◌, ◌≢◌, ℕ, zero, suc, pos, ◌-◌, ◌*◌, ◌^◌, ◌<◌, ◌≤◌, Bool, true, false, nat_lt, ◌||◌, List, [], ◌∷◌, length, map, All, Option, None, Some, IfSome, Ok, Err, refl, ap, sym, subst, ◌∙◌, le-ltb, min, arith, inl, inr, lit<, lit≤}
use Rattle.std.proofs.lemmas.Int.{ints}
use Rattle.std.specs.Prelude.{codes, unsigned_abs, get_or, sum}
use Rattle.std.specs.List.{list_any, sum_by}
use Rattle.std.proofs.lemmas.List.{length-map, length-replicate, get_or-map}
use Rattle.std.proofs.lemmas.List.Folds.{sum_by-replicate}
use Rattle.std.proofs.lemmas.List.Elements.{All-head, All-map, All-replicate, All-tail}
use Rattle.std.proofs.lemmas.Option.{none-some}
use Rattle.mp_times.specs.Written.{IsMark}
use Rattle.mp_ports.specs.Checks.{bad_at, fault_at, first_code, unless}
use Rattle.mp_ports.specs.declared.code.Code.{Code}
use Rattle.mp_ports.specs.declared.code.Code.TheVariants.{DeltaLimit, OffsetLimit, DurationLimit, StartLimit, SizeLimit, SampleLimit, TrackLimit, EntryLimit, SegmentLimit}
use Rattle.mp_ports.specs.Gives.{refusal}
use Rattle.mp_ports.specs.declared.fault.Bad.{Bad}
use Rattle.mp_ports.specs.declared.fault.Fail.{Fail}
use Rattle.mp_ports.specs.declared.fault.Fail.TheVariants.{Bad as Refused, NoMemory}
use Rattle.mp_pieces.specs.declared.piece.Piece.{Piece}
use Rattle.mp_pieces.specs.Piece.{piece_len}
use Rattle.mp_columns.specs.declared.columns.TheConstants.{MOST_ITEMS}
use Rattle.mp_timeline.specs.Plain.{plain_track_head}
use Rattle.mp_movie.specs.Placed.{PlacedMovie, PlacedTrack, mark_of, movie_of_track, naturals, plain_scale, sample_count}
use Rattle.mp_movie.specs.PartsFit.{first_limit, is_long, is_wide}
use Rattle.mp_boxes.specs.Boxes.{IsBytes}
use Rattle.mp_movie.specs.HeadRanges.{IsTrackHead}
use Rattle.mp_movie.specs.StandsFor.{pieces_at}
use Rattle.mp_movie.specs.WellFormed.{IsEntryBox, IsWellFormedTrack}
use Rattle.mp_movie.specs.WholeParts.{AreColumns, AreTrackParts, IsNatural, IsEntryNumber, bare_track}
use Rattle.nhnt_import.specs.declared.head.Head.{Head}
use Rattle.nhnt_import.specs.declared.unit.AccessUnit.{AccessUnit}
use Rattle.nhnt_import.specs.Head.{IsHead}
use Rattle.nhnt_import.specs.Unit.{is_sync}
use Rattle.nhnt_import.specs.Times.{deltas, durations, limit_fault, offsets}
use Rattle.nhnt_import.specs.Entry.{entry_bytes, handler}
use Rattle.nhnt_import.specs.Fault.{IsPairRefusal}
use Rattle.nhnt_import.specs.Placed.{AreUnitPieces, IsUnitPiece, ones, piece_of, pieces_of, placed_movie, placed_track}
use Rattle.nhnt_import.specs.Kept.{AreOf, UnitColumns, columns_so_far, kept_delta, offset_of, track_of}
use Rattle.nhnt_import.proofs.Growing.{closing}
use Rattle.nhnt_import.proofs.Limits.{long_is, none_long, none_wide, same_long, same_wide}
use Rattle.nhnt_import.proofs.Standing.{alone, length-durations, ones-naturals}

no_unit : AccessUnit
no_unit = record { len = 0; flags = 0; from = 0; composition = 0; decode = 0 }

no_piece : Piece
no_piece = record { file = 0; from = 0; len = 0; prefix = None }

-- the track with its durations and offsets as they are kept
abbrev kept_track : Head → List ℕ → ℕ → List AccessUnit → PlacedTrack
kept_track head info file units = record (placed_track head info file units) {
  deltas = map kept_delta (durations units);
  offsets = map offset_of units;
}

kept_is : (head : Head) (info : List ℕ) (file : ℕ) (units : List AccessUnit) → track_of head info (columns_so_far file units) ≡ kept_track head info file units
unfolding track_of columns_so_far placed_track
kept_is head info file units = rw (closing units, length-map units (piece_of file)) refl

-- heads of both handlers fit
handled : (head : Head) → IsTrackHead (plain_track_head (codes "soun")) → IsTrackHead (plain_track_head (codes "vide")) → IsTrackHead (plain_track_head (handler head))
handled head sound pictures = by head.sound refl
  where
    by : (is : Bool) → head.sound ≡ is → IsTrackHead (plain_track_head (handler head))
    by true e = rw e sound
    by false e = rw e pictures

bare_fits : (head : Head) (info : List ℕ) (file : ℕ) (units : List AccessUnit) → IsTrackHead (plain_track_head (handler head)) → IsEntryBox (entry_bytes head info) → IsHead head
    → IsWellFormedTrack plain_scale (bare_track (kept_track head info file units))
unfolding placed_track
bare_fits h info file units head entry fits = record {
  number = lit≤ tt;
  header = record {
    flags = head.flags;
    created = head.created;
    modified = head.modified;
    number = lit< tt;
    duration = omega arith;
    layer = head.layer;
    group = head.group;
    volume = head.volume;
    matrix = head.matrix_len;
    width = head.width;
    height = head.height;
  };
  media = record {
    created = head.media_created;
    modified = head.media_modified;
    some_scale = fits.some_scale;
    timescale = fits.scale;
    duration = lit< tt;
    language = head.language;
  };
  handler = record { four = head.handler_len; not_hint = head.not_hint };
  udta = inl refl;
  entries = (entry, tt);
  times = tt;
  kinds = tt;
  edits = none-some [];
}

natural : (n : ℕ) → IsNatural (pos n)
natural n = omega (arith, ints)

are_natural : {X : Type 0} (number : X → ℕ) (items : List X) → All IsNatural (map (λ item. pos (number item)) items)
are_natural {X} number items = All-map IsNatural (λ (item : X). pos (number item)) items (λ k d lt. natural (number (get_or items k d)))

are_marks : (units : List AccessUnit) → All IsMark (map (λ unit. mark_of (is_sync unit)) units)
are_marks units = All-map IsMark (λ (unit : AccessUnit). mark_of (is_sync unit)) units (λ k d lt. mark_is (is_sync (get_or units k d)))
  where
    mark_is : (sync : Bool) → IsMark (mark_of sync)
    mark_is true = inr refl
    mark_is false = inl refl

columns_fit : (head : Head) (info : List ℕ) (file size : ℕ) (units : List AccessUnit) → AreUnitPieces file size units → AreColumns (kept_track head info file units)
unfolding placed_track
columns_fit head info file size units parts =
    let n = length units in
    let count : length (map kept_delta (durations units)) ≡ n = length-map (durations units) kept_delta ∙ length-durations units in
    let one : length (ones units) ≡ length (map kept_delta (durations units)) = length-replicate n (pos 1) ∙ sym count in
    record {
      deltas = All-map IsNatural kept_delta (durations units) (λ k d lt. natural (min (get_or (durations units) k d) (2 ^ 32)));
      offsets_len = length-map units offset_of ∙ sym count;
      syncs_len = length-map units (λ (u : AccessUnit). mark_of (is_sync u)) ∙ sym count;
      syncs = are_marks units;
      kinds_len = one;
      kinds = All-replicate (IsEntryNumber 1) n (pos 1) (record { some = record { le = tt }; known = record { le = tt } });
      counts_len = one;
      counts = All-replicate IsNatural n (pos 1) (record { le = tt });
      counted = all_counted;
      sizes_len = length-map units (λ (u : AccessUnit). pos u.len) ∙ sym count;
      sizes = λ before lt. size_is before (rw count at lt);
    }
  where
    pieces_len : length (pieces_of file units) ≡ length units
    pieces_len = length-map units (piece_of file)

    all_counted : sum (naturals (ones units)) ≡ length (pieces_of file units)
    all_counted =
        let times : length units * 1 ≡ length units = omega arith in
        rw (ones-naturals (length units)) (sum_by-replicate (λ (x : ℕ). x) (length units) 1 ∙ times ∙ sym pieces_len)

    size_is : (before : ℕ) → before < length units
        → get_or (map (λ (u : AccessUnit). pos u.len) units) before (pos 0) ≡ pos (sum_by piece_len (pieces_at (naturals (ones units)) (pieces_of file units) before))
    size_is before lt =
        let unit = get_or units before no_unit in
        let piece : get_or (pieces_of file units) before no_piece ≡ piece_of file unit = get_or-map (piece_of file) units before no_unit no_piece lt in
        let alone_is : pieces_at (naturals (ones units)) (pieces_of file units) before ≡ piece_of file unit ∷ [] =
        alone (length units) (pieces_of file units) before no_piece pieces_len lt ∙ ap (λ (p : Piece). p ∷ []) piece in
        let len : unit.len ≡ sum_by piece_len (piece_of file unit ∷ []) = omega arith in
        get_or-map (λ (u : AccessUnit). pos u.len) units before no_unit (pos 0) lt
        ∙ ap pos len
        ∙ ap (λ (pieces : List Piece). pos (sum_by piece_len pieces)) (sym alone_is)

pub parts_fit : (head : Head) (info : List ℕ) (file size : ℕ) (columns : UnitColumns) (units : List AccessUnit) → IsTrackHead (plain_track_head (codes "soun")) → IsTrackHead (plain_track_head (codes "vide"))
    → IsEntryBox (entry_bytes head info) → IsHead head → AreOf file size columns units → AreTrackParts plain_scale (track_of head info columns)
parts_fit head info file size columns units sound pictures entry fits are =
    subst (λ (track : PlacedTrack). AreTrackParts plain_scale track) (sym (ap (track_of head info) are.is ∙ kept_is head info file units))
    (record {
      bare = bare_fits head info file units (handled head sound pictures) entry fits;
      columns = columns_fit head info file size units are.parts;
    })

-- no unit is too long
short_sizes : (file size : ℕ) (units : List AccessUnit) → All (IsUnitPiece file size) (pieces_of file units) → is_long (map (λ (u : AccessUnit). pos u.len) units) ≡ false
short_sizes file size units each = long_is (map (λ (u : AccessUnit). pos u.len) units) ∙ none units each
  where
    none : (units : List AccessUnit) → All (IsUnitPiece file size) (pieces_of file units) → list_any (λ item. nat_lt (2 ^ 32 - 1) (unsigned_abs item)) (map (λ (u : AccessUnit). pos u.len) units) ≡ false
    none [] each = refl
    none (unit ∷ units) each =
        let short = (All-head (IsUnitPiece file size) (piece_of file unit) (pieces_of file units) each).short in
        rw (le-ltb (2 ^ 32 - 1) unit.len (omega arith)) (none units (All-tail (IsUnitPiece file size) (piece_of file unit) (pieces_of file units) each))

-- the first of the limits that is passed
limit_is : (head : Head) (info : List ℕ) (file size : ℕ) (units : List AccessUnit) → AreUnitPieces file size units
    → first_limit (movie_of_track plain_scale (kept_track head info file units)) ≡ limit_fault units
unfolding placed_track limit_fault
limit_is head info file size units parts =
    let count = sample_count (movie_of_track plain_scale (kept_track head info file units)).tracks in
    let few : nat_lt MOST_ITEMS count ≡ false = le-ltb MOST_ITEMS count (omega (arith, length-map (durations units) kept_delta, length-durations units, parts.few)) in
    rw (same_long (durations units), same_wide units, short_sizes file size units parts.each_one, few)
    (by (is_long (deltas units)) (is_wide (offsets units)))
  where
    by : (long wide : Bool) → first_code ((long || false, DeltaLimit) ∷ (wide || false, OffsetLimit) ∷ (false, DurationLimit) ∷ (false, StartLimit) ∷ (false, SizeLimit) ∷ (false, SampleLimit) ∷ (false, TrackLimit) ∷ (false, EntryLimit) ∷ (false, SegmentLimit) ∷ [])
        ≡ first_code ((long, DeltaLimit) ∷ (wide, OffsetLimit) ∷ [])
    by true wide = refl
    by false true = refl
    by false false = refl

-- what is kept are the durations and offsets, where no limit is passed
same_where_fits : (head : Head) (info : List ℕ) (file : ℕ) (units : List AccessUnit) → limit_fault units ≡ None → kept_track head info file units ≡ placed_track head info file units
unfolding placed_track limit_fault
same_where_fits head info file units none =
    let passes = none_passes (is_long (deltas units)) (is_wide (offsets units)) none in
    rw (none_long (durations units) passes.0, none_wide units passes.1) refl
  where
    none_passes : (long wide : Bool) → first_code ((long, DeltaLimit) ∷ (wide, OffsetLimit) ∷ []) ≡ None → (long ≡ false) × (wide ≡ false)
    none_passes true wide none = cc
    none_passes false true none = cc
    none_passes false false none = (refl, refl)

-- so the movie is that of the units, or passes their limit
pub settled : (head : Head) (info : List ℕ) (file size : ℕ) (columns : UnitColumns) (units : List AccessUnit) → AreOf file size columns units
    → unless (fault_at 0 (first_limit (movie_of_track plain_scale (track_of head info columns)))) (movie_of_track plain_scale (track_of head info columns))
    ≡ unless (fault_at 0 (limit_fault units)) (placed_movie head info file units)
settled head info file size columns units are =
    let track : track_of head info columns ≡ kept_track head info file units = ap (track_of head info) are.is ∙ kept_is head info file units in
    subst (λ (t : PlacedTrack). unless (fault_at 0 (first_limit (movie_of_track plain_scale t))) (movie_of_track plain_scale t) ≡ unless (fault_at 0 (limit_fault units)) (placed_movie head info file units)) (sym track)
    (ap (λ limit. unless (fault_at 0 limit) (movie_of_track plain_scale (kept_track head info file units))) (limit_is head info file size units are.parts) ∙ by (limit_fault units) refl)
  where
    by : (limit : Option Code) → limit_fault units ≡ limit
        → unless (fault_at 0 limit) (movie_of_track plain_scale (kept_track head info file units)) ≡ unless (fault_at 0 limit) (placed_movie head info file units)
    by None none = ap (λ (track : PlacedTrack). Ok (movie_of_track plain_scale track)) (same_where_fits head info file units none)
    by (Some code) some = refl

-- a limit that is passed is a refusal of the pair
pub limit_refuses : (units : List AccessUnit) (movie : PlacedMovie) (bad : Bad) → unless (fault_at 0 (limit_fault units)) movie ≡ Err bad → IsPairRefusal bad
unfolding limit_fault
limit_refuses units movie bad refused = by (is_long (deltas units)) (is_wide (offsets units)) refused
  where
    by : (long wide : Bool) → unless (fault_at 0 (first_code ((long, DeltaLimit) ∷ (wide, OffsetLimit) ∷ []))) movie ≡ Err bad → IsPairRefusal bad
    by true wide refused = let is : bad_at DeltaLimit 0 ≡ bad = cc in subst IsPairRefusal is (record { code = refl; command = refl; named = refl })
    by false true refused = let is : bad_at OffsetLimit 0 ≡ bad = cc in subst IsPairRefusal is (record { code = refl; command = refl; named = refl })
    by false false refused = cc

pub refusal_is : (fail : Fail) (units : List AccessUnit) (movie : PlacedMovie) → IfSome (refusal fail) (λ bad. unless (fault_at 0 (limit_fault units)) movie ≡ Err bad) → IfSome (refusal fail) IsPairRefusal
refusal_is (Refused bad) units movie refused = limit_refuses units movie bad refused
refusal_is NoMemory units movie refused = tt

pub few_pieces : (file size : ℕ) (columns : UnitColumns) (units : List AccessUnit) → AreOf file size columns units → length columns.pieces ≤ MOST_ITEMS
unfolding columns_so_far
few_pieces file size columns units are = rw are.is (omega (arith, length-map units (piece_of file), are.parts.few))

-- the answer that is had of the track is that of the units
pub read_settled : (head : Head) (info : List ℕ) (file size : ℕ) (columns : UnitColumns) (units : List AccessUnit) (track : PlacedTrack) (movie : PlacedMovie) → track ≡ track_of head info columns → AreOf file size columns units
    → unless (fault_at 0 (first_limit (movie_of_track plain_scale track))) (movie_of_track plain_scale track) ≡ Ok movie
    → unless (fault_at 0 (limit_fault units)) (placed_movie head info file units) ≡ Ok movie
read_settled head info file size columns units track movie is are gives =
    sym (settled head info file size columns units are)
    ∙ subst (λ (t : PlacedTrack). unless (fault_at 0 (first_limit (movie_of_track plain_scale t))) (movie_of_track plain_scale t) ≡ Ok movie) is gives

-- and so is the refusal
pub refused_settled : (head : Head) (info : List ℕ) (file size : ℕ) (columns : UnitColumns) (units : List AccessUnit) (track : PlacedTrack) (refusal : Option Bad) → track ≡ track_of head info columns → AreOf file size columns units
    → IfSome refusal (λ bad. unless (fault_at 0 (first_limit (movie_of_track plain_scale track))) (movie_of_track plain_scale track) ≡ Err bad)
    → IfSome refusal (λ bad. unless (fault_at 0 (limit_fault units)) (placed_movie head info file units) ≡ Err bad)
refused_settled head info file size columns units track None is are gives = tt
refused_settled head info file size columns units track (Some bad) is are gives =
    sym (settled head info file size columns units are)
    ∙ subst (λ (t : PlacedTrack). unless (fault_at 0 (first_limit (movie_of_track plain_scale t))) (movie_of_track plain_scale t) ≡ Err bad) is gives

-- pictures have a plain head, too
pub pictures_fit : ((handler : List ℕ) → length handler ≡ 4 → IsBytes handler → handler ≢ codes "hint" → IsTrackHead (plain_track_head handler)) → IsTrackHead (plain_track_head (codes "vide"))
pictures_fit plain = plain (codes "vide") refl are_bytes (λ e. let first : 118 ≡ 104 = ap (λ (bytes : List ℕ). get_or bytes 0 0) e in omega (arith, first))
  where
    are_bytes : IsBytes (codes "vide")
    are_bytes zero = lit< tt
    are_bytes (suc zero) = lit< tt
    are_bytes (suc (suc zero)) = lit< tt
    are_bytes (suc (suc (suc zero))) = lit< tt
    are_bytes (suc (suc (suc (suc at)))) = lit< tt
