-- Files that are opened later change nothing of what pieces stand for.
use Rattle.std.proofs.Common.{◌≡◌, ℕ, ◌+◌, ◌<◌, ◌≤◌, List, [], ◌∷◌, ◌++◌, length, map, get_or, refl, sym, ap, ◌∙◌, arith}
use Rattle.std.specs.List.{AllByRecursion, flat_map, range_with_len}
use Rattle.std.proofs.lemmas.List.{get_or_append_left, length-append, length-map}
use Rattle.mp_pieces.specs.declared.piece.Piece.{Piece}
use Rattle.mp_pieces.specs.Piece.{IsHeld, piece_bytes, prefix_bytes}
use Rattle.mp_timeline.specs.Movie.{SampleRecord, TrackRecord, MovieRecord}
use Rattle.mp_movie.specs.Placed.{PlacedTrack, PlacedMovie}
use Rattle.mp_movie.specs.StandsFor.{Hold, HoldTrack, pieces_of, sample_at, samples_of, stands_for, track_for, with_samples}
use Rattle.mp_movie.specs.PartsLaw.{FilesMayFollow}
use Rattle.mp_movie.proofs.ColumnsAreKept.{of_sample}

still_held : (sizes more : List ℕ) (piece : Piece) → IsHeld sizes piece → IsHeld (sizes ++ more) piece
still_held sizes more piece h = record {
  opened = omega (arith, h.opened, length-append sizes more);
  inside = omega (arith, h.inside, get_or_append_left sizes more 0 piece.file h.opened);
}

each : {A : Type 0} (P Q : A → Type 0) (xs : List A) → ((x : A) → P x → Q x) → AllByRecursion P xs → AllByRecursion Q xs
each P Q [] f all = tt
each P Q (x ∷ xs) f all = (f x all.0, each P Q xs f all.1)

hold : (sizes more : List ℕ) (movie : PlacedMovie) → Hold sizes movie → Hold (sizes ++ more) movie
hold sizes more movie h =
    each (HoldTrack sizes) (HoldTrack (sizes ++ more)) movie.tracks (λ track held. each (IsHeld sizes) (IsHeld (sizes ++ more)) track.pieces (still_held sizes more) held) h

-- the bytes of a piece, of the pieces of a sample, and the sample
same_piece : (files more : List (List ℕ)) (piece : Piece) → IsHeld (map length files) piece → piece_bytes (files ++ more) piece ≡ piece_bytes files piece
same_piece files more piece h = rw (get_or_append_left files more [] piece.file (omega (arith, h.opened, length-map files length))) refl

same_pieces : (files more : List (List ℕ)) (pieces : List Piece) → AllByRecursion (IsHeld (map length files)) pieces → flat_map (piece_bytes (files ++ more)) pieces ≡ flat_map (piece_bytes files) pieces
same_pieces files more [] h = refl
same_pieces files more (piece ∷ pieces) h = rw (same_piece files more piece h.0, same_pieces files more pieces h.1) refl

same_sample : (files more : List (List ℕ)) (track : PlacedTrack) (i : ℕ) → HoldTrack (map length files) track → sample_at (files ++ more) track i ≡ sample_at files track i
unfolding sample_at
same_sample files more track i h = rw (same_pieces files more (pieces_of track i) (of_sample (IsHeld (map length files)) track i h)) refl

same_map : {A : Type 0} (f g : ℕ → A) (xs : List ℕ) → ((i : ℕ) → f i ≡ g i) → map f xs ≡ map g xs
same_map f g [] e = refl
same_map f g (x ∷ xs) e = rw (e x, same_map f g xs e) refl

same_track : (files more : List (List ℕ)) (track : PlacedTrack) → HoldTrack (map length files) track → track_for (files ++ more) track ≡ track_for files track
unfolding samples_of
same_track files more track h =
    ap (with_samples track) (same_map (sample_at (files ++ more) track) (sample_at files track) (range_with_len 0 (length track.deltas)) (λ i. same_sample files more track i h))

same_tracks : (files more : List (List ℕ)) (tracks : List PlacedTrack) → AllByRecursion (HoldTrack (map length files)) tracks → map (track_for (files ++ more)) tracks ≡ map (track_for files) tracks
same_tracks files more [] h = refl
same_tracks files more (track ∷ tracks) h = rw (same_track files more track h.0, same_tracks files more tracks h.1) refl

same : (files more : List (List ℕ)) (movie : PlacedMovie) → Hold (map length files) movie → stands_for (files ++ more) movie ≡ stands_for files movie
same files more movie h =
    rw (same_tracks files more movie.tracks h) refl

pub files_may_follow : FilesMayFollow
files_may_follow = record { hold = λ sizes more movie h. hold sizes more movie h; same = λ files more movie h. same files more movie h }
