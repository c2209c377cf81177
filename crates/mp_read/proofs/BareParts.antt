-- The parts by tables without a fault are well formed: heads, numbers, scales, entries and edits, and the columns.
use Rattle.std.proofs.Common.{◌≡◌, ◌≢◌, ℕ, ◌^◌, ◌<◌, List, [], ◌∷◌, ◌++◌, map, Option, Some, None, refl, sym, ap, subst, arith}
use Rattle.std.specs.Prelude.{codes}
use Rattle.std.specs.List.{AllByRecursion}
use Rattle.std.specs.Str.{bytes_eq}
use Rattle.mp_ports.specs.declared.fault.Bad.{Bad}
use Rattle.mp_ports.specs.Checks.{first_some, unless}
use Rattle.mp_boxes.specs.Boxes.{Box, IsBytes}
use Rattle.mp_boxes.specs.Format.{bodies, parts_of}
use Rattle.mp_boxes.specs.Laws.{BoxesAreRead, BoxesAreWhole}
use Rattle.mp_boxes.specs.Reading.{value_or}
use Rattle.mp_edits.specs.EditBox.{edits_by}
use Rattle.mp_edits.specs.Table.{edits_of as listed, elst_faults, segments}
use Rattle.mp_entries.specs.Description.{KeptAreEntries}
use Rattle.mp_chunks.specs.Samples.{TablesGiveSamples}
use Rattle.mp_timeline.specs.declared.segment.Segment.{Segment}
use Rattle.mp_timeline.specs.Movie.{TrackRecord}
use Rattle.mp_movie.specs.Children.{boxes_in, the}
use Rattle.mp_movie.specs.Durations.{greatest, track_duration}
use Rattle.mp_movie.specs.Edits.{edits_of}
use Rattle.mp_movie.specs.Entries.{local_references}
use Rattle.mp_movie.specs.Present.{movie_checks, movie_fault, traks_in}
use Rattle.mp_movie.specs.TrackBoxes.{boxes_of}
use Rattle.mp_movie.specs.Tracks.{number_in, track_fault, tracks_fault}
use Rattle.mp_movie.specs.WellFormed.{IsWellFormed, IsWellFormedTrack}
use Rattle.mp_movie.specs.WholeParts.{AreColumns, AreParts, bare_movie, bare_track}
use Rattle.mp_read.specs.Movie.{IsRead, MovieTablesRecord, movie_tables}
use Rattle.mp_read.specs.Parts.{placed_movie, placed_track}
use Rattle.mp_read.specs.Track.{tables_of}
use Rattle.mp_read.proofs.ByteBoxes.{AreBytes, children_are, filtered, the_is, track_boxes_are}
use Rattle.mp_read.proofs.NumbersDiffer.{numbers_differ, some_number}
use Rattle.mp_read.proofs.Ranges.{mdhd_is, mvhd_is, tkhd_is}
use Rattle.mp_read.proofs.TracksPass.{track_passes}
use Rattle.mp_read.proofs.Wholes.{entries_are, handler_is, user_data_is}
use Rattle.mp_read.proofs.WholeColumns.{columns_are}
use Rattle.mp_read.proofs.WithinFile.{all_hold}

-- the laws of the boxes beneath
pub record Laws : Type 0 where
  pub read : BoxesAreRead
  pub whole : BoxesAreWhole
  pub kept : KeptAreEntries
  pub samples : TablesGiveSamples

-- ---- edits

not_empty : (edits : List Segment) → listed edits ≢ Some []
not_empty [] same = absurd cc
not_empty (edit ∷ edits) same = absurd cc

list_not_empty : (fault : Option Bad) (edits : List Segment) → value_or None (unless fault (listed edits)) ≢ Some []
list_not_empty None edits same = not_empty edits same
list_not_empty (Some bad) edits same = absurd cc

by_lists : (lists : List (List ℕ)) → edits_by lists ≢ Some []
by_lists [] same = absurd cc
by_lists (list ∷ lists) same = list_not_empty (first_some (elst_faults 0 list)) (segments list) same

edits_some : (edts : Option Box) → edits_of edts ≢ Some []
unfolding edits_of
edits_some None same = absurd cc
edits_some (Some box) same = by_lists (bodies (codes "elst") (value_or [] (parts_of box.body))) same

-- ---- tracks

track_formed : Laws → (file size scale : ℕ) (earlier : List Box) (trak : Box) → AreBytes trak → track_fault size earlier trak ≡ None → IsWellFormedTrack scale (bare_track (placed_track file (tables_of trak)))
unfolding tables_of
track_formed laws file size scale earlier trak bytes e =
    let boxes = boxes_of trak in
    let passes = track_passes size earlier trak e in
    let are = track_boxes_are trak bytes.body in
    let tkhd = tkhd_is boxes.tkhd.place boxes.tkhd.body are.tkhd passes.tkhd in
    let mdhd = mdhd_is boxes.mdhd.place boxes.mdhd.body are.mdhd passes.mdhd in
    record {
      number = some_number earlier boxes passes.number;
      header = record {
        flags = tkhd.flags;
        created = tkhd.created;
        modified = tkhd.modified;
        number = tkhd.number;
        duration = omega arith;
        layer = tkhd.layer;
        group = tkhd.group;
        volume = tkhd.volume;
        matrix = tkhd.matrix;
        width = tkhd.width;
        height = tkhd.height;
      };
      media = record {
        created = mdhd.created;
        modified = mdhd.modified;
        some_scale = mdhd.some_scale;
        timescale = mdhd.timescale;
        duration = omega arith;
        language = mdhd.language;
      };
      handler = handler_is boxes.hdlr.place boxes.hdlr.body passes.hdlr;
      udta = user_data_is laws.read laws.whole trak bytes.body;
      entries = entries_are laws.read laws.whole laws.kept (local_references boxes.dref) boxes.stsd are.stsd;
      times = tt;
      kinds = tt;
      edits = edits_some boxes.edts;
    }

tracks_formed : Laws → (file size scale : ℕ) (earlier traks : List Box) → AllByRecursion AreBytes traks → tracks_fault size earlier traks ≡ None
    → AllByRecursion (IsWellFormedTrack scale) (map bare_track (map (placed_track file) (map tables_of traks)))
unfolding tracks_fault
tracks_formed laws file size scale earlier [] bytes e = tt
tracks_formed laws file size scale earlier (trak ∷ traks) bytes e =
    let each = all_hold (track_fault size earlier trak ∷ tracks_fault size (earlier ++ trak ∷ []) traks ∷ []) e in
    (track_formed laws file size scale earlier trak bytes.0 each.0, tracks_formed laws file size scale (earlier ++ trak ∷ []) traks bytes.1 each.1.0)

same_numbers : (file : ℕ) (traks : List Box) → map (λ (track : TrackRecord). track.number) (map bare_track (map (placed_track file) (map tables_of traks))) ≡ map (λ trak. number_in (boxes_of trak)) traks
unfolding tables_of
same_numbers file [] = refl
same_numbers file (trak ∷ traks) = ap (λ (numbers : List ℕ). number_in (boxes_of trak) ∷ numbers) (same_numbers file traks)

-- ---- the movie

greatest_fits : (f : TrackRecord → ℕ) → ((track : TrackRecord) → f track < 2 ^ 64) → (tracks : List TrackRecord) → greatest (map f tracks) < 2 ^ 64
greatest_fits f each [] = omega arith
greatest_fits f each (track ∷ tracks) = let this = each track in let rest = greatest_fits f each tracks in omega (arith, this, rest)

box_formed : Laws → (file size : ℕ) (moov : Box) → IsBytes moov.body → movie_fault size moov ≡ None → IsWellFormed (bare_movie (placed_movie file (movie_tables moov)))
unfolding movie_fault movie_tables
box_formed laws file size moov bytes e =
    let each = all_hold (movie_checks size moov) e in
    let mvhd = the (codes "mvhd") moov in
    let header = mvhd_is mvhd.place mvhd.body (the_is (codes "mvhd") moov bytes).body each.1.1.1.1.1.0 in
    let traks = filtered AreBytes (λ box. bytes_eq box.kind (codes "trak")) (boxes_in moov) (children_are moov bytes) in
    let tracks = each.1.1.1.1.1.1.1.0 in
    record {
      header = record {
        created = header.created;
        modified = header.modified;
        some_scale = header.some_scale;
        timescale = header.timescale;
        duration = greatest_fits (track_duration _) (λ track. omega arith) _;
        rate = header.rate;
        volume = header.volume;
        matrix = header.matrix;
        next_track = omega arith;
      };
      udta = user_data_is laws.read laws.whole moov bytes;
      tracks = tracks_formed laws file size _ [] (traks_in moov) traks tracks;
      distinct = rw (same_numbers file (traks_in moov)) (numbers_differ size [] (traks_in moov) tracks);
    }

columns_of_tracks : TablesGiveSamples → (file size : ℕ) (earlier traks : List Box) → tracks_fault size earlier traks ≡ None → AllByRecursion AreColumns (map (placed_track file) (map tables_of traks))
unfolding tracks_fault
columns_of_tracks law file size earlier [] e = tt
columns_of_tracks law file size earlier (trak ∷ traks) e =
    let each = all_hold (track_fault size earlier trak ∷ tracks_fault size (earlier ++ trak ∷ []) traks ∷ []) e in
    (columns_are law file size earlier trak each.0, columns_of_tracks law file size (earlier ++ trak ∷ []) traks each.1.0)

columns_of_movie : TablesGiveSamples → (file size : ℕ) (moov : Box) → movie_fault size moov ≡ None → AllByRecursion AreColumns (placed_movie file (movie_tables moov)).tracks
unfolding movie_fault movie_tables
columns_of_movie law file size moov e = columns_of_tracks law file size [] (traks_in moov) (all_hold (movie_checks size moov) e).1.1.1.1.1.1.1.0

pub parts_are : Laws → (file size : ℕ) (movie : MovieTablesRecord) → IsRead size movie → AreParts (placed_movie file movie)
parts_are laws file size movie h =
    subst (λ (m : MovieTablesRecord). AreParts (placed_movie file m)) (sym h.is)
    (record { bare = box_formed laws file size h.moov h.bytes h.passes; columns = columns_of_movie laws.samples file size h.moov h.passes })
