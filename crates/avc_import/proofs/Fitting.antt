-- The track of a film's pictures is well formed and within the limits.
use Rattle.std.proofs.Common.{◌≡◌, ◌≢◌, ℕ, ℤ, zero, suc, pos, ◌+◌, ◌-◌, ◌*◌, ◌^◌, ◌<◌, ◌≤◌, ◌==◌, ◌||◌, Bool, true, false, nat_lt, nat_le, All, List, [], ◌∷◌, ◌++◌, length, map, get_or, Option, None, Some, IfSome, Ok, Err, refl, sym, ap, subst, ◌∙◌, arith, inl, lit<, lit≤, length-append}
use Rattle.mp_pieces.specs.Piece.{piece_len}
use Rattle.std.specs.Prelude.{slice_index, sum, sum_by, vec_len, if◌then◌else◌}
use Rattle.std.specs.List.{AllByRecursion, list_any, range_with_len, flat_map}
use Rattle.std.specs.declared.alloc.Global.{Global}
use Rattle.std.specs.declared.vec.Vec.{Vec}
use Rattle.std.proofs.lemmas.Bool.{ltb-false, leb-false, false≢true}
use Rattle.std.proofs.lemmas.List.{length-map}
use Rattle.std.proofs.lemmas.List.FromFn.{length-range_with_len, get_or-range_with_len}
use Rattle.std.proofs.lemmas.List.Folds.{list_any_at}
use Rattle.std.proofs.lemmas.Option.{none-some}
use Rattle.mp_ports.specs.Checks.{fault_at, first_code, unless}
use Rattle.mp_ports.specs.Gives.{refusal}
use Rattle.mp_ports.specs.declared.code.Code.{Code}
use Rattle.mp_ports.specs.declared.code.Code.TheVariants.{ScaleLimit, DeltaLimit, OffsetLimit, DurationLimit, StartLimit, SizeLimit}
use Rattle.mp_ports.specs.declared.fault.Bad.{Bad}
use Rattle.mp_ports.specs.declared.fault.Fail.{Fail}
use Rattle.mp_ports.specs.declared.fault.Fail.TheVariants.{Bad as Refused}
use Rattle.mp_boxes.specs.Field.{box_bytes}
use Rattle.mp_entries.specs.Avc1.{avc1_entry}
use Rattle.mp_frac.specs.Divisors.{most}
use Rattle.mp_edits.specs.EditBox.{segments_in}
use Rattle.mp_edits.specs.Segments.{starts_late, total}
use Rattle.mp_pieces.specs.declared.piece.Piece.{Piece}
use Rattle.mp_timeline.specs.declared.segment.Segment.{Segment}
use Rattle.mp_timeline.specs.declared.segment.Segment.TheVariants.{Media}
use Rattle.mp_timeline.specs.Movie.{SampleRecord, TrackHeadRecord, TrackRecord}
use Rattle.mp_timeline.specs.Plain.{plain_movie_head}
use Rattle.mp_movie.specs.Limits.{FitsEdits}
use Rattle.mp_movie.specs.HeadRanges.{IsTrackHead}
use Rattle.mp_movie.specs.PartsFit.{first_limit}
use Rattle.mp_movie.specs.PartsLaw.{AreWithinLimits, LimitsAreOfTracks, SamplesFollow}
use Rattle.mp_movie.specs.Placed.{PlacedMovie, PlacedTrack, empty_track, movie_of_track, naturals, with_sample}
use Rattle.mp_movie.specs.StandsFor.{samples_of, stands_for, with_samples}
use Rattle.mp_movie.specs.WellFormed.{IsEntryBox, IsWellFormedTrack}
use Rattle.mp_movie.specs.WholeParts.{AreColumns, AreTrackParts, bare_track as without_samples}
use Rattle.avc_units.specs.declared.reader.UnitSpan.{UnitSpan}
use Rattle.avc_order.specs.Sequence.{is_sync}
use Rattle.avc_sets.specs.Set.{SequenceSet}
use Rattle.avc_sets.specs.Configuration.{configuration, format_bytes, items_of, set_bytes}
use Rattle.avc_sets.specs.Format.{is_high}
use Rattle.avc_import.specs.declared.rate.Rate.{Rate}
use Rattle.avc_import.specs.declared.film.Shots.{Shots}
use Rattle.avc_import.specs.declared.schedule.Schedule.{Schedule}
use Rattle.avc_import.specs.Sets.{SequenceUnit, longest_set, most_pictures}
use Rattle.avc_import.specs.Unit.{most_frames}
use Rattle.avc_import.specs.Ranking.{latest}
use Rattle.avc_import.specs.Times.{lasting}
use Rattle.avc_import.specs.Film.{Film, edits, entry_bytes, film_movie, is_long, limit_checks, offset, part_bytes, part_len, picture_head, samples_from, schedule}
use Rattle.avc_import.specs.Pictures.{IsUnitPiece, piece_of}
use Rattle.avc_import.specs.Places.{bare_track, placed_movie, with_part, with_parts}
use Rattle.avc_import.specs.Movie.{AreShots, LiesIn}
use Rattle.avc_import.proofs.Limiting.{length-piece, not_early, shown_is, shown_len}
use Rattle.avc_import.proofs.Parting.{parts_len}
use Rattle.avc_import.proofs.Scaling.{scale_some}
use Rattle.avc_import.proofs.Placing.{AreSmall, count_is, pieces_are, samples_are, small_is, track_stays}

-- ---- the sample entry

sets_len : (sets : List (List ℕ)) → All (λ set. length set ≤ longest_set) sets → length (flat_map set_bytes sets) ≤ length sets * 65537
sets_len [] short = omega arith
sets_len (set ∷ sets) short =
    let rest = sets_len sets (λ k d inside. short (suc k) d (omega arith)) in
    let here : length set ≤ longest_set = short 0 set (omega arith) in
    let two : length (set_bytes set) ≡ suc (suc (length set)) = refl in
    omega (arith, rest, here, two, length-append (set_bytes set) (flat_map set_bytes sets))

format_len : (s : SequenceSet) → length (format_bytes s) ≤ 4
format_len s = by_profile (is_high s.profile)
  where
    by_profile : (b : Bool) → length (if b then (252 + s.chroma) ∷ (248 + (s.luma_depth - 8)) ∷ (248 + (s.chroma_depth - 8)) ∷ 0 ∷ [] else []) ≤ 4
    by_profile true = omega arith
    by_profile false = omega arith

pieces_len : (a b c d e : List ℕ) → length (a ++ b ++ c ++ d ++ e) ≡ length a + length b + length c + length d + length e
pieces_len a b c d e = omega (arith, length-append a b, length-append (a ++ b) c, length-append ((a ++ b) ++ c) d, length-append (((a ++ b) ++ c) ++ d) e)

-- a configuration is short
pub configuration_len : (sequence : List ℕ) (fields : SequenceSet) (units : List (List ℕ)) → length sequence ≤ longest_set → length units ≤ most_pictures
    → All (λ unit. length unit ≤ longest_set) units → length (configuration sequence fields units) ≤ 33554432
unfolding configuration
configuration_len sequence fields units short few each =
    let first : List ℕ = 1 ∷ fields.profile ∷ fields.compat ∷ fields.level ∷ 255 ∷ 225 ∷ [] in
    let one : List ℕ = length units ∷ [] in
    let all : length (configuration sequence fields units)
    ≡ length first + length (set_bytes sequence) + length one + length (flat_map set_bytes units) + length (format_bytes fields) =
    pieces_len first (set_bytes sequence) one (flat_map set_bytes units) (format_bytes fields) in
    let two : length (set_bytes sequence) ≡ suc (suc (length sequence)) = refl in
    let six : length first ≡ 6 = refl in
    let single : length one ≡ 1 = refl in
    omega (arith, short, few, sets_len units each, format_len fields, all, two, six, single)

-- the same of vectors
pub vectors_short : (units : List (Vec ℕ Global)) → All (λ unit. length unit ≤ longest_set) (items_of units) → All (λ unit. vec_len unit ≤ longest_set) units
vectors_short [] short = λ k d inside. absurd (omega arith)
vectors_short (unit ∷ units) short = λ k d inside. at (vectors_short units (λ k d inside. short (suc k) d (omega arith))) k d inside
  where
    at : All (λ unit. vec_len unit ≤ longest_set) units → (k : ℕ) (d : Vec ℕ Global) → k < length (unit ∷ units) → vec_len (get_or (unit ∷ units) k d) ≤ longest_set
    at rest zero d inside = let here : length unit.items ≤ longest_set = short 0 [] (omega arith) in omega (arith, here, unit.ok.0)
    at rest (suc k) d inside = rest k d (omega arith)

pub vectors_back : (units : List (Vec ℕ Global)) → All (λ unit. vec_len unit ≤ longest_set) units → All (λ unit. length unit ≤ longest_set) (items_of units)
vectors_back [] short = λ k d inside. absurd (omega arith)
vectors_back (unit ∷ units) short = λ k d inside. at (vectors_back units (λ k d inside. short (suc k) d (omega arith))) k d inside
  where
    at : All (λ unit. length unit ≤ longest_set) (items_of units) → (k : ℕ) (d : List ℕ) → k < length (items_of (unit ∷ units)) → length (get_or (items_of (unit ∷ units)) k d) ≤ longest_set
    at rest zero d inside = let here : vec_len unit ≤ longest_set = short 0 unit (omega arith) in omega (arith, here, unit.ok.0)
    at rest (suc k) d inside = rest k d (omega arith)

pub items_len : (units : List (Vec ℕ Global)) → length (items_of units) ≡ length units
items_len units = length-map units (λ (unit : Vec ℕ Global). unit.items)

-- ---- the head

-- ---- the checks that are passed

pub record Passed (film : Film) (s : Schedule) : Type 0 where
  pub ticks : s.ticks < 2 ^ 32
  pub offsets : (k : ℕ) → k < length film.counts → offset film s k < 2 ^ 32
  pub lasts : total (segments_in (edits s)) < 2 ^ 62
  pub starts : list_any starts_late (segments_in (edits s)) ≡ false
  pub sizes : list_any is_long film.parts ≡ false

record AreFalse (a b c d e f : Bool) : Type 0 where
  first : a ≡ false
  second : b ≡ false
  third : c ≡ false
  fourth : d ≡ false
  fifth : e ≡ false
  sixth : f ≡ false

no_code : (a b c d e f : Bool) → first_code ((a, ScaleLimit) ∷ (b, DeltaLimit) ∷ (c, OffsetLimit) ∷ (d, DurationLimit) ∷ (e, StartLimit) ∷ (f, SizeLimit) ∷ []) ≡ None → AreFalse a b c d e f
no_code true b c d e f none = absurd cc
no_code false true c d e f none = absurd cc
no_code false false true d e f none = absurd cc
no_code false false false true e f none = absurd cc
no_code false false false false true f none = absurd cc
no_code false false false false false true none = absurd cc
no_code false false false false false false none = record { first = refl; second = refl; third = refl; fourth = refl; fifth = refl; sixth = refl }

no_any : (f : ℕ → Bool) (n k : ℕ) → list_any f (range_with_len 0 n) ≡ false → k < n → f k ≡ false
no_any f n k none inside = by_test (f k) refl
  where
    by_test : (b : Bool) → f k ≡ b → f k ≡ false
    by_test false is = is
    by_test true is =
        let there : get_or (range_with_len 0 n) k 0 ≡ k = get_or-range_with_len 0 n k 0 inside ∙ omega arith in
        let found = list_any_at f (range_with_len 0 n) k 0 (omega (arith, length-range_with_len 0 n, inside)) (ap f there ∙ is) in
        absurd (false≢true (sym none ∙ found))

pub passed : (film : Film) (s : Schedule) → first_code (limit_checks film s) ≡ None → Passed film s
passed film s none =
    let late : ℕ → Bool = λ k. nat_lt most (offset film s k) in
    let none = no_code (nat_lt most s.movie_scale) (nat_lt most s.ticks) (list_any late (range_with_len 0 (length film.counts))) (nat_le (2 ^ 62) (total (segments_in (edits s))))
    (list_any starts_late (segments_in (edits s))) (list_any is_long film.parts) none in
    let below = ltb-false most s.ticks none.second in
    record {
      ticks = omega (arith, below);
      offsets = λ k inside. let few = ltb-false most (offset film s k) (no_any late (length film.counts) k none.third inside) in omega (arith, few);
      lasts = leb-false (2 ^ 62) (total (segments_in (edits s))) none.fourth;
      starts = none.fifth;
      sizes = none.sixth;
    }

or_false : (a b : Bool) → (a || b) ≡ false → (a ≡ false) × (b ≡ false)
or_false true b is = absurd cc
or_false false b is = (refl, is)

short_parts : (parts : List (List UnitSpan)) → list_any is_long parts ≡ false → AllByRecursion (λ (part : List UnitSpan). part_len part < 2 ^ 32) parts
short_parts [] none = tt
short_parts (part ∷ parts) none =
    let each = or_false (is_long part) (list_any is_long parts) none in
    let below = ltb-false most (part_len part) each.0 in
    (omega (arith, below), short_parts parts each.1)

-- a sample of one of the pictures
pub short_part : (parts : List (List UnitSpan)) (k : ℕ) → list_any is_long parts ≡ false → k < length parts → part_len (get_or parts k []) < 2 ^ 32
short_part [] k none inside = absurd (omega arith)
short_part (part ∷ parts) zero none inside = (short_parts (part ∷ parts) none).0
short_part (part ∷ parts) (suc k) none inside = short_part parts k (or_false (is_long part) (list_any is_long parts) none).1 (omega (arith, inside))

-- there are as many pictures as marks
pub picture_inside : (file size : ℕ) (rate : Option Rate) (film : Film) (shots : Shots) (k : ℕ) → AreShots file size rate film shots → k < length shots.syncs.items → k < length film.counts
picture_inside file size rate film shots k are inside = omega (arith, inside, ap length are.syncs, are.syncs_len)

pub picture_shown : (file size : ℕ) (rate : Option Rate) (film : Film) (shots : Shots) (k : ℕ) → AreShots file size rate film shots → k < length film.counts → k < length shots.order.shown.items
picture_shown file size rate film shots k are inside = omega (arith, inside, shown_len file size rate film shots are)

pub picture_part : (file size : ℕ) (rate : Option Rate) (film : Film) (shots : Shots) (k : ℕ) → AreShots file size rate film shots → k < length film.counts → k < length shots.pictures.ends.items
picture_part file size rate film shots k are inside = omega (arith, inside, are.parts_len, parts_len file film.parts shots.pictures.pieces.items shots.pictures.ends.items are.parts)

pub picture_offset : (file size : ℕ) (rate : Option Rate) (film : Film) (shots : Shots) (k : ℕ) → AreShots file size rate film shots → k < length film.counts
    → first_code (limit_checks film (schedule rate film)) ≡ None → (slice_index shots.order.shown.items k + shots.schedule.delay - k) * shots.schedule.ticks < 2 ^ 32
picture_offset file size rate film shots k are inside none =
    let p = passed film (schedule rate film) none in
    rw (shown_is file size rate film shots k are inside, are.schedule_is) (p.offsets k inside)

pub picture_len : (file : ℕ) (film : Film) (s : Schedule) (k : ℕ) (pieces : List Piece) → first_code (limit_checks film s) ≡ None → k < length film.parts
    → pieces ≡ map (piece_of file) (get_or film.parts k []) → sum_by piece_len pieces < 2 ^ 63
picture_len file film s k pieces none inside is =
    let p = passed film s none in
    let short = short_part film.parts k p.sizes inside in
    rw (is, length-piece file (get_or film.parts k [])) (omega (arith, short))

-- picture k, as it is pushed
pub picture_is : (file size : ℕ) (rate : Option Rate) (film : Film) (shots : Shots) (k ticks : ℕ) (later : ℤ) (sync : Bool) (pieces : List Piece) (track : PlacedTrack) → AreShots file size rate film shots
    → k < length film.counts → ticks ≡ shots.schedule.ticks → later ≡ pos ((slice_index shots.order.shown.items k + shots.schedule.delay - k) * shots.schedule.ticks)
    → sync ≡ is_sync shots.syncs.items k → pieces ≡ map (piece_of file) (get_or film.parts k [])
    → with_sample track ticks later sync 1 pieces ≡ with_part file film (schedule rate film) k (get_or film.parts k []) track
picture_is file size rate film shots k ticks later sync pieces track are inside ticks_are later_is sync_is pieces_are =
    rw (ticks_are, later_is, sync_is, pieces_are, shown_is file size rate film shots k are inside, are.schedule_is, are.syncs) refl

-- ---- the track

single_edit : (s : Schedule) → edits s ≢ Some []
single_edit s = by_delay (s.delay == 0)
  where
    by_delay : (b : Bool) → (if b then None else Some (Media (s.delay * s.ticks) s.lasts ∷ [])) ≢ Some []
    by_delay true = none-some []
    by_delay false = λ same. cc

fit_edits : (film : Film) (s : Schedule) → Passed film s → IfSome (edits s) FitsEdits
fit_edits film s p = by_edits (edits s) p.lasts p.starts (few (s.delay == 0))
  where
    few : (b : Bool) → length (segments_in (if b then None else Some (Media (s.delay * s.ticks) s.lasts ∷ []))) ≤ 1
    few true = omega arith
    few false = omega arith

    by_edits : (list : Option (List Segment)) → total (segments_in list) < 2 ^ 62 → list_any starts_late (segments_in list) ≡ false → length (segments_in list) ≤ 1 → IfSome list FitsEdits
    by_edits None lasts starts few = tt
    by_edits (Some list) lasts starts few = record { short = lasts; early = starts; few = omega (arith, few) }

pub bare_deltas : (film : Film) (s : Schedule) → length (bare_track film s).deltas ≡ 0
unfolding bare_track
bare_deltas film s = refl

pub bare_entries : (film : Film) (s : Schedule) → length (bare_track film s).entries ≡ 1
unfolding bare_track
bare_entries film s = refl

bare_edits : (film : Film) (s : Schedule) → (bare_track film s).edits ≡ edits s
unfolding bare_track
bare_edits film s = refl

bare_pieces : (film : Film) (s : Schedule) → (bare_track film s).pieces ≡ []
unfolding bare_track
bare_pieces film s = refl

pub bare_decoded : (film : Film) (s : Schedule) → sum (naturals (bare_track film s).deltas) ≡ 0
unfolding bare_track
bare_decoded film s = refl

bare_samples : (files : List (List ℕ)) (film : Film) (s : Schedule) → samples_of files (bare_track film s) ≡ []
unfolding bare_track samples_of
bare_samples files film s = refl

bare_small : (film : Film) (s : Schedule) → AreSmall (bare_track film s)
unfolding bare_track
bare_small film s = record { durations = (λ k d inside. absurd (omega arith)); offsets = (λ k d inside. absurd (omega arith)); sizes = (λ k d inside. absurd (omega arith)) }

within : (file : ℕ) (film : Film) (s : Schedule) → length film.parts ≡ length film.counts → Passed film s → AreWithinLimits (with_parts file film s 0 film.parts (bare_track film s))
within file film s same p =
    let small = small_is file film s 0 film.parts (bare_track film s) (bare_small film s) p.ticks (λ j inside. p.offsets j (omega (arith, inside, same))) (short_parts film.parts p.sizes) in
    let stays = track_stays file film s 0 film.parts (bare_track film s) [] in
    let edits_stay = ap (λ (t : TrackRecord). t.edits) stays ∙ bare_edits film s in
    let entries_stay = ap (λ (t : TrackRecord). length t.entries) stays ∙ bare_entries film s in
    record {
      durations = small.durations;
      offsets = inl small.offsets;
      edits = rw edits_stay (fit_edits film s p);
      sizes = small.sizes;
      entries = omega (arith, entries_stay);
    }

-- none of the limits is passed
pub within_limits : (file : ℕ) (film : Film) (s : Schedule) → LimitsAreOfTracks → length film.parts ≡ length film.counts → length film.counts ≤ most_frames
    → first_code (limit_checks film s) ≡ None → first_limit (placed_movie file film s) ≡ None
within_limits file film s law same few none =
    law (placed_movie file film s) (within file film s same (passed film s none), tt)
    (omega (arith, count_is file film s 0 film.parts (bare_track film s), bare_deltas film s, same, few)) (omega arith)

-- so the answer is no refusal
pub not_refused : (fail : Fail) (bad : Bad) (limit : Option Code) (movie : PlacedMovie) → fail ≡ Refused bad → limit ≡ None
    → IfSome (refusal fail) (λ fault. unless (fault_at 0 limit) movie ≡ Err fault) → ⊥
not_refused fail bad limit movie is none refused = let impossible = rw (is, none) at refused in cc

-- what is given where nothing is at fault
pub given : {A E : Type 0} (fault : Option E) (value answer : A) → unless fault value ≡ Ok answer → answer ≡ value
given None value answer e = cc
given (Some fault) value answer e = cc

bare_fits : (film : Film) (s : Schedule) → IsTrackHead (bare_track film s).head → AllByRecursion IsEntryBox (bare_track film s).entries → 0 < s.scale → s.scale < 2 ^ 32
    → IsWellFormedTrack s.movie_scale (without_samples (bare_track film s))
unfolding bare_track
bare_fits film s head entry some fits = record {
  number = lit≤ tt;
  header = record {
    flags = head.flags;
    created = head.created;
    modified = head.modified;
    number = lit< tt;
    duration = omega arith;
    layer = head.layer;
    group = head.group;
    volume = head.volume;
    matrix = head.matrix_len;
    width = head.width;
    height = head.height;
  };
  media = record {
    created = head.media_created;
    modified = head.media_modified;
    some_scale = some;
    timescale = fits;
    duration = lit< tt;
    language = head.language;
  };
  handler = record { four = head.handler_len; not_hint = head.not_hint };
  udta = inl refl;
  entries = entry;
  times = tt;
  kinds = tt;
  edits = single_edit s;
}

-- the track without its pictures, by what is made of the sets
pub bare_is : (film : Film) (s : Schedule) (found : Option SequenceUnit) (units : List (List ℕ)) (sequence : SequenceUnit) (head : TrackHeadRecord) (entry : List ℕ) (entries : List (List ℕ)) (list : Option (List Segment)) (track : PlacedTrack)
    → found ≡ Some sequence → found ≡ Some film.sequence → units ≡ film.picture_units → head ≡ picture_head sequence.fields
    → entry ≡ box_bytes (avc1_entry (configuration sequence.bytes sequence.fields units) sequence.fields.width sequence.fields.height) → entries ≡ entry ∷ [] → list ≡ edits s
    → track ≡ empty_track 1 head s.scale entries → record track { edits = list } ≡ bare_track film s
unfolding bare_track entry_bytes
bare_is film s found units sequence head entry entries list track there sequence_is units_is head_is entry_is entries_are list_is track_is =
    let same : sequence ≡ film.sequence = let both = sym there ∙ sequence_is in cc in
    rw (track_is, list_is, entries_are, entry_is, head_is, same, units_is) refl

-- well formed
pub parts_fit : (file : ℕ) (film : Film) (s : Schedule) (track : PlacedTrack) → track ≡ with_parts file film s 0 film.parts (bare_track film s) → AreColumns track
    → IsTrackHead (bare_track film s).head → AllByRecursion IsEntryBox (bare_track film s).entries → 0 < s.scale → s.scale < 2 ^ 32 → AreTrackParts s.movie_scale track
parts_fit file film s track is columns head entry some fits = record {
  bare = rw (is, track_stays file film s 0 film.parts (bare_track film s) []) (bare_fits film s head entry some fits);
  columns = columns;
}

pub placed_is : (file size : ℕ) (rate : Option Rate) (film : Film) (shots : Shots) (first track : PlacedTrack) → AreShots file size rate film shots → first ≡ bare_track film shots.schedule
    → track ≡ with_parts file film (schedule rate film) 0 film.parts first → movie_of_track shots.schedule.movie_scale track ≡ placed_movie file film (schedule rate film)
placed_is file size rate film shots first track are first_is is = rw (is, first_is, are.schedule_is) refl

pub track_fits : (file size : ℕ) (rate : Option Rate) (film : Film) (shots : Shots) (first track : PlacedTrack) → AreShots file size rate film shots → first ≡ bare_track film shots.schedule
    → track ≡ with_parts file film (schedule rate film) 0 film.parts first → AreColumns track → IsTrackHead first.head → AllByRecursion IsEntryBox first.entries → shots.schedule.scale ≤ most
    → AreTrackParts shots.schedule.movie_scale track
track_fits file size rate film shots first track are first_is is columns head entry few =
    let s = schedule rate film in
    let bare : first ≡ bare_track film s = first_is ∙ ap (bare_track film) are.schedule_is in
    let small : s.scale ≤ most = subst (λ (t : Schedule). t.scale ≤ most) are.schedule_is few in
    subst (λ (t : Schedule). AreTrackParts t.movie_scale track) (sym are.schedule_is)
    (parts_fit file film s track (is ∙ ap (with_parts file film s 0 film.parts) bare) columns (subst (λ (t : PlacedTrack). IsTrackHead t.head) bare head)
    (subst (λ (t : PlacedTrack). AllByRecursion IsEntryBox t.entries) bare entry) (scale_some (lasting rate film.sequence.fields.tick) (length film.counts) (latest film.counts film.syncs (length film.counts))) (omega (arith, small)))

-- ---- what it stands for

bare_columns : (film : Film) (s : Schedule) → AreColumns (bare_track film s)
unfolding bare_track
bare_columns film s = record {
  deltas = (λ k d inside. absurd (omega arith));
  offsets_len = refl;
  syncs_len = refl;
  syncs = (λ k d inside. absurd (omega arith));
  kinds_len = refl;
  kinds = (λ k d inside. absurd (omega arith));
  counts_len = refl;
  counts = (λ k d inside. absurd (omega arith));
  counted = refl;
  sizes_len = refl;
  sizes = λ before inside. absurd (omega arith);
}

as_movie : (file : ℕ) (film : Film) (s : Schedule) (parts : List (List ℕ))
    → record { scale = s.movie_scale; head = plain_movie_head; tracks = with_samples (bare_track film s) (samples_from film s 0 parts) ∷ [] } ≡ film_movie film s parts
unfolding bare_track film_movie
as_movie file film s parts = refl

pub stands : (files : List (List ℕ)) (file size : ℕ) (rate : Option Rate) (film : Film) (shots : Shots) (movie : PlacedMovie) → SamplesFollow → AreShots file size rate film shots
    → movie ≡ placed_movie file film (schedule rate film)
    → stands_for files movie ≡ film_movie film (schedule rate film) (map (part_bytes (get_or files file [])) film.parts)
stands files file size rate film shots movie law are is =
    ap (stands_for files) is
    ∙ ap (λ (t : TrackRecord). record { scale = s.movie_scale; head = plain_movie_head; tracks = t ∷ [] })
    (track_stays file film s 0 film.parts (bare_track film s) (samples_of files (with_parts file film s 0 film.parts (bare_track film s))) ∙ ap (with_samples (bare_track film s)) samples)
    ∙ as_movie file film s parts
  where
    s : Schedule
    s = schedule rate film

    parts : List (List ℕ)
    parts = map (part_bytes (get_or files file [])) film.parts

    none_decoded : (ticks : ℕ) → 0 ≡ 0 * ticks
    none_decoded ticks = omega arith

    samples : samples_of files (with_parts file film s 0 film.parts (bare_track film s)) ≡ samples_from film s 0 parts
    samples =
        samples_are files file film s 0 film.parts (bare_track film s) law (bare_columns film s) (bare_entries film s) (bare_decoded film s ∙ none_decoded s.ticks)
        (λ j inside. not_early film rate j (omega (arith, inside, are.parts_len)))
        ∙ ap (λ (t : List SampleRecord). t ++ samples_from film s 0 parts) (bare_samples files film s)

pub lies : (file size : ℕ) (rate : Option Rate) (film : Film) (shots : Shots) (movie : PlacedMovie) → AreShots file size rate film shots → movie ≡ placed_movie file film (schedule rate film) → LiesIn file size movie
lies file size rate film shots movie are is = rw (is) (all, tt)
  where
    front : (xs ys zs : List Piece) → zs ≡ xs ++ ys → All (IsUnitPiece file size) zs → AllByRecursion (IsUnitPiece file size) xs
    front [] ys zs is all = tt
    front (x ∷ xs) ys [] is all = absurd cc
    front (x ∷ xs) ys (z ∷ zs) is all = (same, front xs ys zs rest (λ k d inside. all (suc k) d (omega arith)))
      where
        head_is : z ≡ x
        head_is = cc

        rest : zs ≡ xs ++ ys
        rest = cc

        same : IsUnitPiece file size x
        same = rw (← head_is) (all 0 z (omega arith))

    all : AllByRecursion (IsUnitPiece file size) (with_parts file film (schedule rate film) 0 film.parts (bare_track film (schedule rate film))).pieces
    all =
        let s = schedule rate film in
        let pieces = map (piece_of file) (flat_map (λ (part : List UnitSpan). part) film.parts) in
        rw (pieces_are file film s 0 film.parts (bare_track film s), bare_pieces film s) (front pieces are.parts.more shots.pictures.pieces.items are.parts.joined are.inside)
