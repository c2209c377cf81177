-- The movies of the tests are well formed, and their folder holds their pieces.
use Rattle.std.proofs.Common.{◌≡◌, ℕ, zero, suc, ◌-◌, ◌<◌, ◌≤◌, List, [], ◌∷◌, ◌^◌, length, map, get_or, None, refl, sym, ap, subst, ◌∙◌, codes, inl, inr, arith}
use Rattle.std.specs.List.{AllByRecursion}
use Rattle.std.proofs.lemmas.List.{get_or-map, length-map}
use Rattle.mp_ports.specs.Folder.{FolderState, OpenedFile, opened_at}
use Rattle.mp_boxes.specs.Boxes.{IsBytes}
use Rattle.mp_boxes.specs.Number.{kind_at, u32_at, u64_at}
use Rattle.mp_timeline.specs.Movie.{TrackRecord}
use Rattle.mp_timeline.specs.Plain.{plain_movie_head}
use Rattle.mp_pieces.specs.declared.piece.Piece.{Piece}
use Rattle.mp_pieces.specs.Copied.{sizes_of}
use Rattle.mp_pieces.specs.Piece.{IsHeld}
use Rattle.mp_movie.specs.Placed.{PlacedTrack, plain_scale}
use Rattle.mp_movie.specs.Durations.{greatest, track_duration}
use Rattle.mp_movie.specs.HeadRanges.{IsMovieHead}
use Rattle.mp_movie.specs.WellFormed.{AreDistinct, IsUserDataBox, IsWellFormedTrack}
use Rattle.mp_movie.specs.WholeParts.{AreColumns, AreParts, AreTrackParts, bare_track}

-- a piece within a file of that size is held
pub is-held : (s : FolderState) (piece : Piece) (files size : ℕ) → files ≤ length s.opened → piece.file < files → size ≡ (opened_at s piece.file).size → piece.len ≤ size → piece.from ≤ size - piece.len → IsHeld (sizes_of s) piece
is-held s piece files size opened known is short inside =
    let there : get_or (sizes_of s) piece.file 0 ≡ size = get_or-map (λ (file : OpenedFile). file.size) s.opened piece.file (record { name = []; size = 0; bytes = None }) 0 (omega (arith, opened, known)) ∙ sym is in
    record { opened = omega (arith, opened, known, length-map s.opened (λ (file : OpenedFile). file.size)); inside = omega (arith, there, short, inside) }

-- ---- user data

abbrev user_data : List ℕ
user_data = 0 ∷ 0 ∷ 0 ∷ 10 ∷ 117 ∷ 100 ∷ 116 ∷ 97 ∷ 1 ∷ 2 ∷ []

are-bytes : (bytes : List ℕ) → AllByRecursion (λ byte. byte < 256) bytes → IsBytes bytes
are-bytes [] all at = omega arith
are-bytes (byte ∷ bytes) all zero = all.0
are-bytes (byte ∷ bytes) all (suc at) = are-bytes bytes all.1 at

is-user-data : IsUserDataBox user_data
unfolding u32_at u64_at kind_at
is-user-data = record {
  head = record { kind = codes "udta"; head = 8; len = 10 };
  read = refl;
  ends = refl;
  kind = refl;
  are_bytes =
      are-bytes user_data (omega arith, (omega arith, (omega arith, (omega arith, (omega arith, (omega arith, (omega arith, (omega arith, (omega arith, (omega arith, tt))))))))));
}

-- a track with these user data
pub with-user-data : (track : PlacedTrack) (udta : List ℕ) → udta ≡ user_data → AreTrackParts plain_scale track → AreTrackParts plain_scale (record track { head = record track.head { udta = udta } })
with-user-data track udta same parts =
    let b = parts.bare in
    let c = parts.columns in
    record {
      bare = record {
        number = b.number;
        header = b.header;
        media = b.media;
        handler = b.handler;
        udta = rw same (inr is-user-data);
        entries = b.entries;
        times = tt;
        kinds = tt;
        edits = b.edits;
      };
      columns = record {
        deltas = c.deltas;
        offsets_len = c.offsets_len;
        syncs_len = c.syncs_len;
        syncs = c.syncs;
        kinds_len = c.kinds_len;
        kinds = c.kinds;
        counts_len = c.counts_len;
        counts = c.counts;
        counted = c.counted;
        sizes_len = c.sizes_len;
        sizes = c.sizes;
      };
    }

-- ---- tracks together

well-formed : (tracks : List PlacedTrack) → AllByRecursion (AreTrackParts plain_scale) tracks → AllByRecursion (IsWellFormedTrack plain_scale) (map bare_track tracks)
well-formed [] all = tt
well-formed (track ∷ tracks) all = (all.0.bare, well-formed tracks all.1)

columns : (tracks : List PlacedTrack) → AllByRecursion (AreTrackParts plain_scale) tracks → AllByRecursion AreColumns tracks
columns [] all = tt
columns (track ∷ tracks) all = (all.0.columns, columns tracks all.1)

numbers : (tracks : List PlacedTrack) → map (λ (track : TrackRecord). track.number) (map bare_track tracks) ≡ map (λ (track : PlacedTrack). track.number) tracks
numbers [] = refl
numbers (track ∷ tracks) = ap (λ (others : List ℕ). track.number ∷ others) (numbers tracks)

short : (tracks : List PlacedTrack) → AllByRecursion (AreTrackParts plain_scale) tracks → greatest (map (track_duration plain_scale) (map bare_track tracks)) < 2 ^ 64
short [] all = omega arith
short (track ∷ tracks) all =
    let one = all.0.bare.header.duration in
    let others = short tracks all.1 in
    omega (arith, one, others)

-- the movie of tracks of different numbers
pub together : (tracks : List PlacedTrack) → AllByRecursion (AreTrackParts plain_scale) tracks → AreDistinct (map (λ track. track.number) tracks) → IsMovieHead plain_movie_head
    → AreParts (record { scale = plain_scale; head = plain_movie_head; tracks = tracks })
together tracks all apart head = record {
  bare = record {
    header = record {
      created = head.created;
      modified = head.modified;
      some_scale = omega arith;
      timescale = omega arith;
      duration = short tracks all;
      rate = head.rate;
      volume = head.volume;
      matrix = head.matrix_len;
      next_track = omega arith;
    };
    udta = inl head.udta;
    tracks = well-formed tracks all;
    distinct = subst AreDistinct (sym (numbers tracks)) apart;
  };
  columns = columns tracks all;
}
