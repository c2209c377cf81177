-- The columns and pieces of units stand for the samples of the pair.
use Rattle.std.proofs.Common.{◌≡◌, ℕ, zero, suc, pos, ◌+◌, ◌-◌, ◌-ℤ◌, ◌+ℤ◌, ◌<◌, ◌≤◌, Bool, true, false, List, [], ◌∷◌, length, map, take, drop, get_or, replicate, None, refl, sym, ap, ◌∙◌, append-nil, length-append, arith}
use Rattle.std.proofs.lemmas.Int.{ints}
use Rattle.std.specs.Prelude.{sum, zip}
use Rattle.std.proofs.lemmas.List.{get_or-replicate, get_or-map, take-append-le, take-replicate, at_drop_more, length-map}
use Rattle.std.proofs.lemmas.List.Sums.{sum_by-cons}
use Rattle.std.proofs.lemmas.List.Folds.{sum_by-replicate}
use Rattle.std.proofs.lemmas.List.FromFn.{fill_by_all}
use Rattle.std.proofs.lemmas.Slice.Zip.{get_or-zip, length-zip}
use Rattle.mp_pieces.specs.declared.piece.Piece.{Piece}
use Rattle.mp_timeline.specs.Movie.{SampleRecord}
use Rattle.mp_times.specs.Sync.{is_sync as is_mark}
use Rattle.mp_movie.specs.Placed.{mark_of, naturals}
use Rattle.mp_movie.specs.StandsFor.{pieces_at, sample_at, samples_of, stands_for}
use Rattle.nhnt_import.specs.declared.head.Head.{Head}
use Rattle.nhnt_import.specs.declared.unit.AccessUnit.{AccessUnit}
use Rattle.nhnt_import.specs.Unit.{is_sync}
use Rattle.nhnt_import.specs.Times.{deltas, durations, gaps, last_number, offsets}
use Rattle.nhnt_import.specs.Pair.{movie_of, sample, samples}
use Rattle.nhnt_import.specs.Placed.{ones, piece_of, pieces_of, placed_movie, placed_track}
use Rattle.nhnt_import.proofs.Growing.{length-gaps}

-- no unit is decoded before the one before it
abbrev pub Rising : ℕ → List AccessUnit → Type 0
Rising before [] = Unit
Rising before (unit ∷ units) = (before ≤ unit.decode) × Rising unit.decode units

pub naturals-pos : (numbers : List ℕ) → naturals (map (λ n. pos n) numbers) ≡ numbers
naturals-pos [] = refl
naturals-pos (n ∷ numbers) = ap (λ (ns : List ℕ). n ∷ ns) (naturals-pos numbers)

pub length-durations : (units : List AccessUnit) → length (durations units) ≡ length units
unfolding durations
length-durations [] = refl
length-durations (unit ∷ units) =
    let between = gaps unit.decode units in
    omega (arith, length-append between (last_number 0 between ∷ []), length-gaps unit.decode units)

-- gaps in front add up to the decode time of the last of them
sum_of_gaps : (before : ℕ) (units : List AccessUnit) (i : ℕ) (d : AccessUnit) → Rising before units → i < length units
    → before + sum (take (suc i) (gaps before units)) ≡ (get_or units i d).decode
sum_of_gaps before [] i d rising lt = absurd (omega arith)
sum_of_gaps before (unit ∷ units) zero d rising lt = omega (arith, rising.0)
sum_of_gaps before (unit ∷ units) (suc i) d rising lt =
    let first = sum_by-cons (λ (n : ℕ). n) (unit.decode - before) (take (suc i) (gaps unit.decode units)) in
    let rest = sum_of_gaps unit.decode units i d rising.1 (omega arith) in
    omega (arith, first, rest, rising.0)

-- durations in front add up to the time behind the first decode time
pub sum_of_durations : (unit : AccessUnit) (units : List AccessUnit) (i : ℕ) (d : AccessUnit) → Rising unit.decode units → i < suc (length units)
    → unit.decode + sum (take i (durations (unit ∷ units))) ≡ (get_or (unit ∷ units) i d).decode
unfolding durations
sum_of_durations unit units zero d rising lt = omega arith
sum_of_durations unit units (suc i) d rising lt =
    let between = gaps unit.decode units in
    let front = take-append-le (suc i) between (last_number 0 between ∷ []) (omega (arith, length-gaps unit.decode units)) in
    rw front (sum_of_gaps unit.decode units i d rising (omega arith))

pub ones-naturals : (n : ℕ) → naturals (replicate n (pos 1)) ≡ replicate n 1
ones-naturals zero = refl
ones-naturals (suc n) = ap (λ (numbers : List ℕ). 1 ∷ numbers) (ones-naturals n)

-- with one piece for each, a sample has the piece of its number
pub alone : (n : ℕ) (pieces : List Piece) (i : ℕ) (d : Piece) → length pieces ≡ n → i < n → pieces_at (naturals (replicate n (pos 1))) pieces i ≡ get_or pieces i d ∷ []
unfolding pieces_at
alone n pieces i d count lt =
    let one : get_or (naturals (replicate n (pos 1))) i 0 ≡ 1 = rw (ones-naturals n) (get_or-replicate n i 1 0 lt) in
    let before : sum (take i (naturals (replicate n (pos 1)))) ≡ i = rw (ones-naturals n, take-replicate {X = ℕ} i n 1 (omega arith)) (sum_by-replicate (λ (x : ℕ). x) i 1 ∙ omega arith) in
    rw (one, before) (at_drop_more (take 1) pieces i d (omega (arith, count, lt)))

mark_is : (sync : Bool) → is_mark (mark_of sync) ≡ sync
mark_is true = refl
mark_is false = refl

composed : (first decode sum composition : ℕ) → first + sum ≡ decode → (pos sum +ℤ (pos composition -ℤ pos decode)) ≡ (pos composition -ℤ pos first)
composed first decode sum composition e = omega (arith, ints, e)

one_at : (n i : ℕ) → i < n → get_or (naturals (replicate n (pos 1))) i 0 ≡ 1
one_at n i lt = rw (ones-naturals n) (get_or-replicate n i 1 0 lt)

-- the sample before which there are so many
sample_is : (files : List (List ℕ)) (head : Head) (info : List ℕ) (file : ℕ) (units : List AccessUnit) (first i : ℕ) (d : AccessUnit) → i < length units
    → first + sum (take i (durations units)) ≡ (get_or units i d).decode
    → sample_at files (placed_track head info file units) i ≡ sample (get_or files file []) first (get_or units i d) (get_or (durations units) i 0)
unfolding sample_at placed_track
sample_is files head info file units first i d lt behind =
    let here = get_or units i d in
    let none : Piece = record { file = 0; from = 0; len = 0; prefix = None } in
    let count : length (pieces_of file units) ≡ length units = length-map units (piece_of file) in
    let piece : get_or (pieces_of file units) i none ≡ piece_of file here = get_or-map (piece_of file) units i d none lt in
    let pieces : pieces_at (naturals (ones units)) (pieces_of file units) i ≡ piece_of file here ∷ [] =
    alone (length units) (pieces_of file units) i none count lt ∙ ap (λ (p : Piece). p ∷ []) piece in
    let offset : get_or (offsets units) i (pos 0) ≡ (pos here.composition -ℤ pos here.decode) = get_or-map (λ (u : AccessUnit). pos u.composition -ℤ pos u.decode) units i d (pos 0) lt in
    let mark : get_or (map (λ (u : AccessUnit). mark_of (is_sync u)) units) i (pos 0) ≡ mark_of (is_sync here) = get_or-map (λ (u : AccessUnit). mark_of (is_sync u)) units i d (pos 0) lt in
    let entry : get_or (naturals (ones units)) i 0 ≡ 1 = one_at (length units) i lt in
    let decode : sum (take i (durations units)) ≡ here.decode - first = omega (arith, behind) in
    let comp : (pos (here.decode - first) +ℤ (pos here.composition -ℤ pos here.decode)) ≡ (pos here.composition -ℤ pos first) =
    composed first here.decode (here.decode - first) here.composition (omega (arith, behind)) in
    rw (naturals-pos (durations units), pieces, offset, mark, entry, mark_is (is_sync here), decode, comp, append-nil (take here.len (drop here.from (get_or files file [])))) refl

-- the samples of units that rise
pub samples_are : (files : List (List ℕ)) (head : Head) (info : List ℕ) (file : ℕ) (units : List AccessUnit) → Rising 0 units
    → samples_of files (placed_track head info file units) ≡ samples (get_or files file []) units
unfolding samples_of samples placed_track durations
samples_are files head info file [] rising = refl
samples_are files head info file (unit ∷ units) rising =
    let all = unit ∷ units in
    let media = get_or files file [] in
    let as_sample = λ (pair : AccessUnit × ℕ). sample media unit.decode pair.0 pair.1 in
    let pairs = zip all (durations all) in
    let none : SampleRecord = record { bytes = []; decode = 0; dur = 0; comp = pos 0; sync = false; entry = 0 } in
    let count : length (deltas all) ≡ length all = length-map (durations all) (λ n. pos n) ∙ length-durations all in
    let many : length (map as_sample pairs) ≡ length all = omega (arith, length-map pairs as_sample, length-zip all (durations all), length-durations all) in
    rw count (sym (fill_by_all (sample_at files (placed_track head info file all)) (map as_sample pairs) (length all) none many
    (λ k lt. get_or-map as_sample pairs k (unit, 0) none (omega (arith, length-zip all (durations all), length-durations all))
    ∙ ap as_sample (get_or-zip all (durations all) k (unit, 0) lt (omega (arith, length-durations all)))
    ∙ sym (sample_is files head info file all unit.decode k unit lt (sum_of_durations unit units k unit rising.1 lt)))))

-- the movie of units stands for that of their samples
pub stands : (files : List (List ℕ)) (head : Head) (info : List ℕ) (file : ℕ) (units : List AccessUnit) → Rising 0 units
    → stands_for files (placed_movie head info file units) ≡ movie_of head info (samples (get_or files file []) units)
unfolding placed_track
stands files head info file units rising = rw (samples_are files head info file units rising) refl
