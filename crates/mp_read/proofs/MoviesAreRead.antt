-- The movie of the tables of a file is the one that the file presents, and lies in the file.
use Rattle.std.proofs.Common.{◌≡◌, ℕ, zero, suc, ◌+◌, ◌<◌, Bool, true, false, List, [], ◌∷◌, length, map, get_or, Option, Some, None, IfSome, Ok, Err, refl, sym, ap, subst, arith}
use Rattle.std.specs.List.{AllByRecursion, list_any, range_with_len}
use Rattle.std.proofs.lemmas.Bool.{ltb-false}
use Rattle.std.proofs.lemmas.List.{length-map}
use Rattle.std.proofs.lemmas.List.Folds.{list_any_at}
use Rattle.mp_ports.specs.declared.fault.Bad.{Bad}
use Rattle.mp_ports.specs.declared.fault.ReadFail.{ReadFail}
use Rattle.mp_ports.specs.Checks.{unless}
use Rattle.mp_ports.specs.Gives.{read_refusal}
use Rattle.mp_chunks.specs.Places.{SamplePlace, is_outside, no_sample}
use Rattle.mp_chunks.specs.Samples.{columns_of}
use Rattle.mp_pieces.specs.declared.piece.Piece.{Piece}
use Rattle.mp_pieces.specs.Piece.{IsHeld}
use Rattle.mp_timeline.specs.Movie.{MovieRecord}
use Rattle.mp_movie.specs.Placed.{PlacedMovie, PlacedTrack}
use Rattle.mp_movie.specs.Present.{file_checks, first_fault, moov_in, movie_of, reading}
use Rattle.mp_movie.specs.StandsFor.{HoldTrack, Reads, stands_for}
use Rattle.mp_read.specs.Law.{TablesStandForMovies}
use Rattle.mp_read.specs.Movie.{MovieTablesRecord, movie_tables}
use Rattle.mp_read.specs.Parts.{piece_in, pieces_in, placed_movie, placed_track}
use Rattle.mp_read.specs.Read.{IsStretch, LiesIn, StretchesAreHeld}
use Rattle.mp_read.specs.Track.{LiesInFile, TrackTablesRecord}
use Rattle.mp_read.proofs.SamplesStand.{from_is, size_is}
use Rattle.mp_read.proofs.WithinFile.{all_hold}

-- ---- told

one_file : TablesStandForMovies → (file : ℕ) (bytes : List ℕ) (tables : MovieTablesRecord) → unless (first_fault bytes) (movie_tables (moov_in bytes)) ≡ Ok tables → (files : List (List ℕ)) → get_or files file [] ≡ bytes
    → reading bytes ≡ Ok (stands_for files (placed_movie file tables))
unfolding first_fault
one_file law file bytes tables e files named = by (first_fault bytes) refl e
  where
    by : (fault : Option Bad) → first_fault bytes ≡ fault → unless fault (movie_tables (moov_in bytes)) ≡ Ok tables → unless (first_fault bytes) (movie_of bytes (moov_in bytes)) ≡ Ok (stands_for files (placed_movie file tables))
    by None f same =
        let is : movie_tables (moov_in bytes) ≡ tables = cc in
        let stands = law files file (length bytes) (moov_in bytes) (all_hold (file_checks bytes) f).1.1.1.1.0 in
        let read : movie_of bytes (moov_in bytes) ≡ stands_for files (placed_movie file tables) = rw (← is, stands, named) refl in
        rw f (ap (λ (movie : MovieRecord). Ok movie) read)
    by (Some bad) f same = absurd cc

pub movie_read : TablesStandForMovies → (told : Option (List ℕ)) (file : ℕ) (tables : MovieTablesRecord) (movie : PlacedMovie) → IfSome told (λ bytes. unless (first_fault bytes) (movie_tables (moov_in bytes)) ≡ Ok tables)
    → movie ≡ placed_movie file tables → IfSome told (λ bytes. Reads file bytes (Ok movie) (reading bytes))
movie_read law None file tables movie e is = tt
movie_read law (Some bytes) file tables movie e is = λ files named. rw is (one_file law file bytes tables e files named)

-- a refusal is that of the checks, whatever is read behind them
refused_alike : {A B : Type 0} (fault : Option Bad) (value : A) (other : B) (why : Option Bad) → IfSome why (λ bad. unless fault value ≡ Err bad) → IfSome why (λ bad. unless fault other ≡ Err bad)
refused_alike fault value other None e = tt
refused_alike None value other (Some bad) e = absurd cc
refused_alike (Some found) value other (Some bad) e = let same : found ≡ bad = cc in ap (λ (b : Bad). Err b) same

pub movie_refused : (told : Option (List ℕ)) (file : ℕ) (fail : ReadFail) → IfSome told (λ bytes. IfSome (read_refusal fail) (λ bad. unless (first_fault bytes) (movie_tables (moov_in bytes)) ≡ Err bad))
    → IfSome told (λ bytes. Reads file bytes (Err fail) (reading bytes))
movie_refused None file fail e = tt
movie_refused (Some bytes) file fail e = λ files named. refused_alike (first_fault bytes) (movie_tables (moov_in bytes)) (movie_of bytes (moov_in bytes)) (read_refusal fail) e

-- ---- told or not

of_range : {A : Type 0} (P : A → Type 0) (f : ℕ → A) (from n : ℕ) → ((i : ℕ) → i < from + n → P (f i)) → AllByRecursion P (map f (range_with_len from n))
of_range P f from zero each = tt
of_range P f from (suc n) each = (each from (omega arith), of_range P f (from + 1) n (λ i lt. each i (omega (arith, lt))))

not_outside : (size : ℕ) (samples : List SamplePlace) (i : ℕ) → i < length samples → list_any (is_outside size) samples ≡ false → is_outside size (get_or samples i no_sample) ≡ false
not_outside size samples i lt none = by (is_outside size (get_or samples i no_sample)) refl
  where
    by : (b : Bool) → is_outside size (get_or samples i no_sample) ≡ b → is_outside size (get_or samples i no_sample) ≡ false
    by true e = let some = list_any_at (is_outside size) samples i no_sample lt e in absurd cc
    by false e = e

stretch : (file size : ℕ) (samples : List SamplePlace) (i : ℕ) → list_any (is_outside size) samples ≡ false → i < length samples → IsStretch file size (piece_in file (columns_of samples) i)
stretch file size samples i none lt =
    let inside = ltb-false _ _ (not_outside size samples i lt none) in
    record { names = refl; inside = rw (from_is samples i lt, size_is samples i lt) inside; bare = refl }

stretches : (file size : ℕ) (samples : List SamplePlace) → list_any (is_outside size) samples ≡ false → AllByRecursion (IsStretch file size) (pieces_in file (columns_of samples))
unfolding pieces_in
stretches file size samples none =
    of_range (IsStretch file size) (piece_in file (columns_of samples)) 0 (length (columns_of samples).from)
    (λ i lt. stretch file size samples i none (omega (arith, lt, length-map samples (λ (place : SamplePlace). place.from))))

tracks_lie : (file size : ℕ) (tracks : List TrackTablesRecord) → AllByRecursion (LiesInFile size) tracks → AllByRecursion (λ track. AllByRecursion (IsStretch file size) track.pieces) (map (placed_track file) tracks)
tracks_lie file size [] lie = tt
tracks_lie file size (track ∷ tracks) lie =
    let inside = lie.0 in
    (rw inside.places (stretches file size inside.samples inside.inside), tracks_lie file size tracks lie.1)

pub movie_lies : (file size : ℕ) (tables : MovieTablesRecord) (movie : PlacedMovie) → AllByRecursion (LiesInFile size) tables.tracks → movie ≡ placed_movie file tables → LiesIn file size movie
movie_lies file size tables movie lie is = subst (LiesIn file size) (sym is) (tracks_lie file size tables.tracks lie)

-- ---- files that hold it

pieces_held : (sizes : List ℕ) (file : ℕ) (pieces : List Piece) → file < length sizes → AllByRecursion (IsStretch file (get_or sizes file 0)) pieces → AllByRecursion (IsHeld sizes) pieces
pieces_held sizes file [] lt lie = tt
pieces_held sizes file (piece ∷ pieces) lt lie =
    let here = lie.0 in
    (record { opened = rw here.names lt; inside = rw here.names here.inside }, pieces_held sizes file pieces lt lie.1)

tracks_held : (sizes : List ℕ) (file : ℕ) (tracks : List PlacedTrack) → file < length sizes → AllByRecursion (λ track. AllByRecursion (IsStretch file (get_or sizes file 0)) track.pieces) tracks → AllByRecursion (HoldTrack sizes) tracks
tracks_held sizes file [] lt lie = tt
tracks_held sizes file (track ∷ tracks) lt lie = (pieces_held sizes file track.pieces lt lie.0, tracks_held sizes file tracks lt lie.1)

pub stretches_held : StretchesAreHeld
stretches_held sizes file movie lt lie = tracks_held sizes file movie.tracks lt lie
