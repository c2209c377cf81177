-- A movie that is read of one file lies in it.
use Rattle.std.proofs.Common.{ℕ, List, [], ◌∷◌, Result, Ok, Err, IfOk, sym, subst}
use Rattle.std.specs.List.{AllByRecursion}
use Rattle.std.proofs.lemmas.List.Elements.{All-weaker, recursion_from_All}
use Rattle.mp_ports.specs.declared.fault.ReadFail.{ReadFail}
use Rattle.mp_pieces.specs.declared.piece.Piece.{Piece}
use Rattle.mp_movie.specs.Placed.{PlacedMovie, PlacedTrack}
use Rattle.adts_import.specs.Places.{IsSound, IsPayload, placed_track}
use Rattle.avc_import.specs.Movie.{LiesIn}
use Rattle.avc_import.specs.Pictures.{IsUnitPiece}
use Rattle.mp_read.specs.Read.{IsStretch, LiesIn as LiesBare}

sound_lies : (file size : ℕ) (movie : PlacedMovie) → IsSound file size movie → LiesIn file size movie
unfolding placed_track
sound_lies file size movie sound =
    subst (λ (m : PlacedMovie). LiesIn file size m) (sym sound.is) (
      recursion_from_All (IsUnitPiece file size) sound.pieces
          (All-weaker (IsPayload file size) (IsUnitPiece file size) (λ piece p. record { names = p.names; inside = p.inside }) sound.pieces sound.payloads.each_one),
      tt,
    )

-- where there is one: of a stream of sound
pub import_lies : (file size : ℕ) (read : Result PlacedMovie ReadFail) → IfOk read (IsSound file size) → IfOk read (LiesIn file size)
import_lies file size (Ok movie) sound = sound_lies file size movie sound
import_lies file size (Err fail) sound = tt

pieces_lie : (file size : ℕ) (pieces : List Piece) → AllByRecursion (IsStretch file size) pieces → AllByRecursion (IsUnitPiece file size) pieces
pieces_lie file size [] each = tt
pieces_lie file size (piece ∷ pieces) (one, each) = (record { names = one.names; inside = one.inside }, pieces_lie file size pieces each)

tracks_lie : (file size : ℕ) (tracks : List PlacedTrack) → AllByRecursion (λ (track : PlacedTrack). AllByRecursion (IsStretch file size) track.pieces) tracks
    → AllByRecursion (λ (track : PlacedTrack). AllByRecursion (IsUnitPiece file size) track.pieces) tracks
tracks_lie file size [] each = tt
tracks_lie file size (track ∷ tracks) (one, each) = (pieces_lie file size track.pieces one, tracks_lie file size tracks each)

-- and of an MP4 file
pub read_lies : (file size : ℕ) (read : Result PlacedMovie ReadFail) → IfOk read (LiesBare file size) → IfOk read (LiesIn file size)
read_lies file size (Ok movie) lies = tracks_lie file size movie.tracks lies
read_lies file size (Err fail) lies = tt
