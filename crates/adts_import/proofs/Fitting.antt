-- The movie of payloads is well formed and within the limits.
use Rattle.std.proofs.Common.{◌≡◌, ◌⊎◌, ℕ, ℤ, zero, suc, pos, ◌-◌, ◌*◌, ◌^◌, ◌<◌, ◌≤◌, Bool, true, false, nat_lt, not, ◌&&◌, ◌||◌, max, List, [], ◌∷◌, length, map, All, fold, replicate, Option, None, Some, IfSome, Ok, Err, refl, ap, sym, ◌∙◌, le-ltb, arith, inl, inr, lit<, lit≤}
use Rattle.std.specs.Prelude.{codes, unsigned_abs, get_or, sum}
use Rattle.std.specs.List.{list_all, sum_by}
use Rattle.std.proofs.lemmas.List.{length-map, length-replicate, get_or-map}
use Rattle.std.proofs.lemmas.List.Folds.{sum_by-replicate}
use Rattle.std.proofs.lemmas.List.Elements.{All-replicate}
use Rattle.std.proofs.lemmas.List.Sums.{AllPass-from_list_all}
use Rattle.std.proofs.lemmas.Option.{none-some}
use Rattle.std.proofs.lemmas.Bool.Decides.{nat_tests}
use Rattle.mp_ports.specs.Checks.{fault_at, unless}
use Rattle.mp_ports.specs.Gives.{refusal}
use Rattle.mp_ports.specs.declared.code.Code.{Code}
use Rattle.mp_ports.specs.declared.fault.Bad.{Bad}
use Rattle.mp_ports.specs.declared.fault.Fail.{Fail}
use Rattle.mp_ports.specs.declared.fault.Fail.TheVariants.{Bad as Refused}
use Rattle.mp_pieces.specs.declared.piece.Piece.{Piece}
use Rattle.mp_pieces.specs.Piece.{piece_len}
use Rattle.mp_columns.specs.declared.columns.TheConstants.{MOST_ITEMS}
use Rattle.mp_columns.specs.Numbers.{largest}
use Rattle.mp_timeline.specs.Plain.{plain_track_head}
use Rattle.mp_movie.specs.Placed.{PlacedMovie, naturals, plain_scale, sample_count}
use Rattle.mp_movie.specs.PartsFit.{first_limit, is_long, is_signed, limits}
use Rattle.mp_movie.specs.HeadRanges.{IsTrackHead}
use Rattle.mp_movie.specs.StandsFor.{pieces_at}
use Rattle.mp_movie.specs.WellFormed.{IsEntryBox, IsWellFormedTrack}
use Rattle.mp_movie.specs.WholeParts.{AreColumns, AreTrackParts, IsNatural, IsEntryNumber, bare_track}
use Rattle.adts_import.specs.declared.header.Configuration.{Configuration}
use Rattle.adts_import.specs.Header.{frequencies}
use Rattle.adts_import.specs.Entry.{frequency, entry_bytes}
use Rattle.adts_import.specs.Frame.{IsConfiguration}
use Rattle.adts_import.specs.Places.{ArePayloads, each, placed_movie, placed_track}
use Rattle.adts_import.proofs.Checks.{all_pass}
use Rattle.adts_import.proofs.Standing.{alone, naturals-each}

no_piece : Piece
no_piece = record { file = 0; from = 0; len = 0; prefix = None }

frequency_fits : (c : Configuration) → IsConfiguration c → (0 < frequency c) × (frequency c < 2 ^ 32)
frequency_fits c fits =
    let inside : c.frequency_index < 13 = omega (arith, fits.frequency_index) in
    let tested = AllPass-from_list_all (λ f. nat_lt 0 f && nat_lt f 4294967296) frequencies refl c.frequency_index 0 inside in
    (grind (arith, nat_tests), grind (arith, nat_tests))

-- the track without its samples
bare_fits : (stream : Configuration) (pieces : List Piece) → IsTrackHead (plain_track_head (codes "soun")) → IsEntryBox (entry_bytes stream) → IsConfiguration stream
    → IsWellFormedTrack plain_scale (bare_track (placed_track stream pieces))
unfolding placed_track
bare_fits stream pieces head entry fits = record {
  number = lit≤ tt;
  header = record {
    flags = head.flags;
    created = head.created;
    modified = head.modified;
    number = lit< tt;
    duration = omega arith;
    layer = head.layer;
    group = head.group;
    volume = head.volume;
    matrix = head.matrix_len;
    width = head.width;
    height = head.height;
  };
  media = record {
    created = head.media_created;
    modified = head.media_modified;
    some_scale = (frequency_fits stream fits).0;
    timescale = (frequency_fits stream fits).1;
    duration = lit< tt;
    language = head.language;
  };
  handler = record { four = head.handler_len; not_hint = head.not_hint };
  udta = inl refl;
  entries = (entry, tt);
  times = tt;
  kinds = tt;
  edits = none-some [];
}

columns_fit : (stream : Configuration) (pieces : List Piece) (file size : ℕ) → ArePayloads file size pieces → AreColumns (placed_track stream pieces)
unfolding placed_track
columns_fit stream pieces file size payloads =
    let n = length pieces in
    let many : (number : ℕ) → length (each number pieces) ≡ n = λ number. length-replicate n (pos number) in
    let same : (number : ℕ) → length (each number pieces) ≡ length (each 1024 pieces) = λ number. many number ∙ sym (many 1024) in
    record {
      deltas = All-replicate IsNatural n (pos 1024) (record { le = tt });
      offsets_len = same 0;
      syncs_len = same 1;
      syncs = All-replicate (λ (mark : ℤ). (mark ≡ pos 0) ⊎ (mark ≡ pos 1)) n (pos 1) (inr refl);
      kinds_len = same 1;
      kinds = All-replicate (IsEntryNumber 1) n (pos 1) (record { some = record { le = tt }; known = record { le = tt } });
      counts_len = same 1;
      counts = All-replicate IsNatural n (pos 1) (record { le = tt });
      counted = all_counted;
      sizes_len = length-map pieces (λ (piece : Piece). pos piece.len) ∙ sym (many 1024);
      sizes = λ before lt. size_is before (rw (many 1024) at lt);
    }
  where
    all_counted : sum (naturals (each 1 pieces)) ≡ length pieces
    all_counted =
        let times : length pieces * 1 ≡ length pieces = omega arith in
        rw (naturals-each (length pieces) 1) (sum_by-replicate (λ (x : ℕ). x) (length pieces) 1 ∙ times)

    bare_len : (piece : Piece) → piece.prefix ≡ None → piece.len ≡ sum_by piece_len (piece ∷ [])
    bare_len piece bare = rw bare (omega arith)

    size_is : (before : ℕ) → before < length pieces
        → get_or (map (λ (piece : Piece). pos piece.len) pieces) before (pos 0) ≡ pos (sum_by piece_len (pieces_at (naturals (each 1 pieces)) pieces before))
    size_is before lt =
        let piece = get_or pieces before no_piece in
        get_or-map (λ (piece : Piece). pos piece.len) pieces before no_piece (pos 0) lt
        ∙ ap pos (bare_len piece (payloads.each_one before no_piece lt).bare)
        ∙ ap (λ (pieces : List Piece). pos (sum_by piece_len pieces)) (sym (alone pieces before no_piece lt))

pub parts_fit : (stream : Configuration) (pieces : List Piece) (file size : ℕ) → IsTrackHead (plain_track_head (codes "soun")) → IsEntryBox (entry_bytes stream) → IsConfiguration stream
    → ArePayloads file size pieces → AreTrackParts plain_scale (placed_track stream pieces)
parts_fit stream pieces file size head entry fits payloads = record {
  bare = bare_fits stream pieces head entry fits;
  columns = columns_fit stream pieces file size payloads;
}

-- a column has no greater number than this
largest_within : (most : ℕ) (column : List ℤ) → All (λ item. unsigned_abs item ≤ most) column → largest column ≤ most
largest_within most column all = from 0 column (omega arith) all
  where
    from : (least : ℕ) (column : List ℤ) → least ≤ most → All (λ item. unsigned_abs item ≤ most) column → fold (λ most item. max most (unsigned_abs item)) least column ≤ most
    from least [] le all = le
    from least (item ∷ column) le all =
        let here : unsigned_abs item ≤ most = all 0 item (omega arith) in
        from (max least (unsigned_abs item)) column (omega arith) (λ k d lt. all (suc k) d (omega arith))

short_column : (column : List ℤ) → All (λ item. unsigned_abs item ≤ 2 ^ 13) column → is_long column ≡ false
short_column column all =
    let within = largest_within (2 ^ 13) column all in
    le-ltb (2 ^ 32 - 1) (largest column) (omega arith)

-- none of the limits is passed
pub within_limits : (stream : Configuration) (pieces : List Piece) (file size : ℕ) → ArePayloads file size pieces → first_limit (placed_movie stream pieces) ≡ None
unfolding placed_track
within_limits stream pieces file size payloads =
    let n = length pieces in
    let durations : is_long (each 1024 pieces) ≡ false = short_column (each 1024 pieces) (All-replicate (λ item. unsigned_abs item ≤ 2 ^ 13) n (pos 1024) (lit≤ tt)) in
    let sizes : is_long (map (λ (piece : Piece). pos piece.len) pieces) ≡ false = short_column (map (λ (piece : Piece). pos piece.len) pieces) short_sizes in
    let count = sample_count (placed_movie stream pieces).tracks in
    let few : nat_lt MOST_ITEMS count ≡ false = le-ltb MOST_ITEMS count (omega (arith, length-replicate n (pos 1024), payloads.few)) in
    all_pass (limits (placed_movie stream pieces))
    (rw durations refl, (one_holds _ _ (all_signed n), (refl, (refl, (rw sizes refl, (few, (refl, (refl, (refl, tt)))))))))
  where
    all_signed : (n : ℕ) → list_all is_signed (replicate n (pos 0)) ≡ true
    all_signed zero = refl
    all_signed (suc n) = all_signed n

    one_holds : (first second : Bool) → second ≡ true → ((not first && not second) || false) ≡ false
    one_holds true second holds = refl
    one_holds false second holds = rw holds refl

    short_sizes : All (λ item. unsigned_abs item ≤ 2 ^ 13) (map (λ (piece : Piece). pos piece.len) pieces)
    short_sizes = λ k d lt.
        let inside : k < length pieces = rw (length-map pieces (λ (piece : Piece). pos piece.len)) at lt in
        let short = (payloads.each_one k no_piece inside).short in
        rw (get_or-map (λ (piece : Piece). pos piece.len) pieces k no_piece d inside) (omega (arith, short))

-- so the answer is no refusal
pub not_refused : (fail : Fail) (bad : Bad) (limit : Option Code) (movie : PlacedMovie) → fail ≡ Refused bad → limit ≡ None
    → IfSome (refusal fail) (λ fault. unless (fault_at 0 limit) movie ≡ Err fault) → ⊥
not_refused fail bad limit movie is none refused = let impossible = rw (is, none) at refused in cc

-- what is given where nothing is at fault
pub given : {A E : Type 0} (fault : Option E) (value answer : A) → unless fault value ≡ Ok answer → answer ≡ value
given None value answer e = cc
given (Some fault) value answer e = cc
