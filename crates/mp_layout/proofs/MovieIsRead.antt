-- A movie box is read as its movie, and no check of it fails.
use Rattle.std.proofs.Common.{◌≡◌, ◌≢◌, ℕ, ◌+◌, ◌^◌, ◌<◌, ◌≤◌, true, false, eqb, List, [], ◌∷◌, ◌++◌, length, map, Option, Some, None, Ok, refl, sym, ap, ◌∙◌, arith}
use Rattle.std.specs.Prelude.{codes, filter}
use Rattle.std.specs.Str.{bytes_eq}
use Rattle.std.specs.List.{AllByRecursion, list_all, list_any, sum_by}
use Rattle.std.proofs.lemmas.Bool.{le-ltb, ne_eqb}
use Rattle.std.proofs.lemmas.List.{length-append, length-map, append-nil}
use Rattle.std.proofs.lemmas.List.Folds.{list_any-append}
use Rattle.std.proofs.lemmas.List.Sums.{sum_by-cons, sum_by_push}
use Rattle.mp_ports.specs.declared.code.Code.{Code}
use Rattle.mp_boxes.specs.Boxes.{Box, whole_box}
use Rattle.mp_boxes.specs.Child.{of_kind}
use Rattle.mp_boxes.specs.Format.{part_of}
use Rattle.mp_boxes.specs.Field.{Part, boxes_bytes, optional}
use Rattle.mp_columns.specs.declared.columns.TheConstants.{MOST_ITEMS}
use Rattle.mp_headers.specs.declared.movie_header.Mvhd.{Mvhd}
use Rattle.mp_headers.specs.MovieHeader.{mvhd, mvhd_of, mvhd_fields, no_mvhd}
use Rattle.mp_timeline.specs.Movie.{TrackRecord, MovieRecord}
use Rattle.mp_movie.specs.Readings.{fault_of}
use Rattle.mp_boxes.specs.Reading.{value_or}
use Rattle.mp_movie.specs.Children.{boxes_in, has_none, one, the, user_data}
use Rattle.mp_movie.specs.Heads.{movie_fields, movie_head}
use Rattle.mp_movie.specs.TrackBoxes.{boxes_of}
use Rattle.mp_movie.specs.SampleTable.{count_in}
use Rattle.mp_movie.specs.Tracks.{number_in, track_of, tracks_fault}
use Rattle.mp_movie.specs.Present.{has_few_tracks, is_short, most_moov, movie_checks, movie_fault, movie_of, traks_in}
use Rattle.mp_movie.specs.WellFormed.{AreDistinct, IsWellFormed, IsWellFormedTrack}
use Rattle.mp_movie.specs.Limits.{Fits, FitsTrack}
use Rattle.mp_layout.proofs.Laws.{ArePlaced, Laws, moov_by}
use Rattle.mp_layout.specs.Moov.{trak, traks}
use Rattle.mp_layout.specs.Tables.{Placing}
use Rattle.mp_layout.proofs.BoxesAreFound.{boxes-in, boxes-whole, found-body, found-none, is_plain, kind-none, none-fails, of_parts, one-found}
use Rattle.mp_layout.proofs.TracksAreRead.{IsRead, track-read}
use Rattle.mp_layout.proofs.UserDataIsKept.{has-user-data, length-boxes, udta_part}

-- ---- the tracks, one after another

-- no track that is left has the number of one of these
abbrev AreApart : List Box → List TrackRecord → Type 0
AreApart earlier tracks = AllByRecursion (λ track. list_any (λ other. eqb (number_in (boxes_of other)) track.number) earlier ≡ false) tracks

none_before : (tracks : List TrackRecord) → AreApart [] tracks
none_before [] = tt
none_before (track ∷ tracks) = (refl, none_before tracks)

one_more : (earlier : List Box) (box : Box) (number : ℕ) (tracks : List TrackRecord) → number_in (boxes_of box) ≡ number → AreApart earlier tracks → AllByRecursion (λ other. other ≢ number) (map (λ track. track.number) tracks)
    → AreApart (earlier ++ box ∷ []) tracks
one_more earlier box number [] e apart others = tt
one_more earlier box number (track ∷ tracks) e apart others = (
  list_any-append (λ other. eqb (number_in (boxes_of other)) track.number) earlier (box ∷ []) ∙ rw (apart.0, e, ne_eqb number track.number (λ same. others.0 (sym same))) refl,
  one_more earlier box number tracks e apart.1 others.1,
)

-- what is read of track boxes, behind others
record AreRead (file : List ℕ) (earlier found : List Box) (tracks : List TrackRecord) : Type 0 where
  pub sound : tracks_fault (length file) earlier found ≡ None
  pub read : map (track_of file) found ≡ tracks

no-tracks : (file : List ℕ) (earlier : List Box) → AreRead file earlier [] []
unfolding tracks_fault
no-tracks file earlier = record { sound = refl; read = refl }

next-track : (file : List ℕ) (earlier : List Box) (box : Box) (found : List Box) (track : TrackRecord) (tracks : List TrackRecord) → IsRead file earlier box track → AreRead file (earlier ++ box ∷ []) found tracks
    → AreRead file earlier (box ∷ found) (track ∷ tracks)
unfolding tracks_fault
next-track file earlier box found track tracks here later = record { sound = rw (here.sound, later.sound) refl; read = λ i. here.read i ∷ later.read i }

heads : (one other : Part) (more others : List Part) → one ∷ more ≡ other ∷ others → one ≡ other
heads one other more others e = cc

tails : (one other : Part) (more others : List Part) → one ∷ more ≡ other ∷ others → more ≡ others
tails one other more others e = cc

tracks-read : Laws → (file : List ℕ) (movie_scale : ℕ) (placing : ℕ → Placing) (earlier : List Box) (position : ℕ) (found : List Box) (tracks : List TrackRecord)
    → map part_of found ≡ traks movie_scale placing position tracks → length (boxes_bytes (traks movie_scale placing position tracks)) < 2 ^ 32 → AllByRecursion (IsWellFormedTrack movie_scale) tracks → AllByRecursion FitsTrack tracks
    → AreDistinct (map (λ track. track.number) tracks) → AreApart earlier tracks → sum_by (λ other. count_in (boxes_of other)) earlier + sum_by (λ track. length track.samples) tracks ≤ MOST_ITEMS → ArePlaced file placing position tracks
    → AreRead file earlier found tracks
tracks-read laws file movie_scale placing earlier position [] [] are short formed fits distinct apart few placed = no-tracks file earlier
tracks-read laws file movie_scale placing earlier position [] (track ∷ tracks) are short formed fits distinct apart few placed = absurd cc
tracks-read laws file movie_scale placing earlier position (box ∷ found) [] are short formed fits distinct apart few placed = absurd cc
tracks-read laws file movie_scale placing earlier position (box ∷ found) (track ∷ tracks) are short formed fits distinct apart few placed =
    let part : Part = trak movie_scale track (placing position) in
    let len = length-boxes laws.boxes.lengths part (traks movie_scale placing (position + 1) tracks) refl in
    let sum = sum_by-cons (λ (track : TrackRecord). length track.samples) track tracks in
    let here = track-read laws file earlier box movie_scale track (placing position) (ap (λ (p : Part). p.body) (heads _ _ _ _ are)) (omega (arith, short, len)) formed.0 fits.0 apart.0 (omega (arith, few, sum)) placed.0 in
    next-track file earlier box found track tracks here
    (tracks-read laws file movie_scale placing (earlier ++ box ∷ []) (position + 1) found tracks (tails _ _ _ _ are) (omega (arith, short, len)) formed.1 fits.1 distinct.1
    (one_more earlier box track.number tracks here.number apart.1 distinct.0) (omega (arith, few, sum, here.count, sum_by_push (λ (other : Box). count_in (boxes_of other)) earlier box)) placed.1)

-- ---- the movie box

-- the parts of tracks are neither of another type nor of a long header
traks-plain : (movie_scale : ℕ) (placing : ℕ → Placing) (position : ℕ) (tracks : List TrackRecord) → list_all is_plain (traks movie_scale placing position tracks) ≡ true
traks-plain movie_scale placing position [] = refl
traks-plain movie_scale placing position (track ∷ tracks) = traks-plain movie_scale placing (position + 1) tracks

traks-skipped : (kind : List ℕ) → bytes_eq (codes "trak") kind ≡ false → (movie_scale : ℕ) (placing : ℕ → Placing) (position : ℕ) (tracks : List TrackRecord) (rest : List Part)
    → filter (λ part. bytes_eq part.kind kind) (traks movie_scale placing position tracks ++ rest) ≡ filter (λ part. bytes_eq part.kind kind) rest
traks-skipped kind other movie_scale placing position [] rest = refl
traks-skipped kind other movie_scale placing position (track ∷ tracks) rest = rw other (traks-skipped kind other movie_scale placing (position + 1) tracks rest)

traks-kept : (movie_scale : ℕ) (placing : ℕ → Placing) (position : ℕ) (tracks : List TrackRecord) (rest : List Part)
    → filter (λ part. bytes_eq part.kind (codes "trak")) (traks movie_scale placing position tracks ++ rest) ≡ traks movie_scale placing position tracks ++ filter (λ part. bytes_eq part.kind (codes "trak")) rest
traks-kept movie_scale placing position [] rest = refl
traks-kept movie_scale placing position (track ∷ tracks) rest = ap (λ (parts : List Part). trak movie_scale track (placing position) ∷ parts) (traks-kept movie_scale placing (position + 1) tracks rest)

traks-len : (movie_scale : ℕ) (placing : ℕ → Placing) (position : ℕ) (tracks : List TrackRecord) → length (traks movie_scale placing position tracks) ≡ length tracks
traks-len movie_scale placing position [] = refl
traks-len movie_scale placing position (track ∷ tracks) = omega (arith, traks-len movie_scale placing (position + 1) tracks)

-- no user data is of another type
data-skipped : (kind : List ℕ) → bytes_eq (codes "udta") kind ≡ false → (tail : Option (List ℕ)) → filter (λ part. bytes_eq part.kind kind) (optional (udta_part tail)) ≡ []
data-skipped kind other None = refl
data-skipped kind other (Some body) = rw other refl

-- all bytes of a movie box are no more than those, and it is read so
pub record IsMovieRead (file : List ℕ) (box : Box) (movie : MovieRecord) : Type 0 where
  pub sound : movie_fault (length file) box ≡ None
  pub read : movie_of file box ≡ movie

none-of : (code : Code) (kind : List ℕ) (box : Box) (all : List Box) → boxes_in box ≡ all → of_kind kind all ≡ [] → has_none code kind (boxes_in box) ≡ None
none-of code kind box all e1 e2 = rw (e1, e2) refl

few-of : (box : Box) (tracks : List TrackRecord) → length (traks_in box) ≡ length tracks → length tracks ≤ 64 → has_few_tracks box ≡ None
few-of box tracks e few = rw (e, le-ltb 64 (length tracks) few) refl

short-of : (box : Box) → length (whole_box box) ≤ most_moov → is_short box ≡ None
short-of box short = rw (le-ltb most_moov (length (whole_box box)) short) refl

movie_fault-ok : (file_size : ℕ) (box : Box) → AllByRecursion (λ check. check ≡ None) (movie_checks file_size box) → movie_fault file_size box ≡ None
unfolding movie_fault
movie_fault-ok file_size box all = none-fails (movie_checks file_size box) all

abbrev movie_by : Mvhd → List ℕ → List TrackRecord → MovieRecord
movie_by header udta tracks = record { scale = header.timescale; head = movie_head header udta; tracks = tracks }

movie_of-ok : (file : List ℕ) (box : Box) (movie : MovieRecord) → mvhd_fields (the (codes "mvhd") box).body ≡ movie_fields movie → user_data box ≡ movie.head.udta → map (track_of file) (traks_in box) ≡ movie.tracks → movie_of file box ≡ movie
unfolding movie_of
movie_of-ok file box movie e1 e2 e3 = λ i. movie_by (e1 i) (e2 i) (e3 i)

pub movie-read : Laws → (file : List ℕ) (box : Box) (movie : MovieRecord) (placing : ℕ → Placing) → box.body ≡ (moov_by movie placing).body → length (whole_box box) ≤ most_moov → length box.body ≤ length (whole_box box)
    → IsWellFormed movie → Fits movie → ArePlaced file placing 0 movie.tracks → IsMovieRead file box movie
movie-read laws file box movie placing body short inside formed fits placed =
    let head : Part = mvhd (movie_fields movie) in
    let tracks : List Part = traks movie.scale placing 0 movie.tracks in
    let body_short : length (boxes_bytes (head ∷ tracks)) + length movie.head.udta ≤ most_moov = omega (arith, short, inside, ap length body, length-append (boxes_bytes (head ∷ tracks)) movie.head.udta) in
    let len = length-boxes laws.boxes.lengths head tracks refl in
    let plain : list_all is_plain (head ∷ tracks) ≡ true = traks-plain movie.scale placing 0 movie.tracks in
    let skip : (kind : List ℕ) → bytes_eq (codes "trak") kind ≡ false → filter (λ part. bytes_eq part.kind kind) tracks ≡ [] =
    λ kind other. ap (filter (λ part. bytes_eq part.kind kind)) (sym (append-nil tracks)) ∙ traks-skipped kind other movie.scale placing 0 movie.tracks [] in
    let user = has-user-data laws.boxes box (head ∷ tracks) movie.head.udta body plain (skip (codes "udta") refl) (omega (arith, body_short)) formed.udta in
    let rest : List Part = optional (udta_part user.tail) in
    let parts = user.parts_are in
    let other : (kind : List ℕ) → bytes_eq (codes "trak") kind ≡ false → bytes_eq (codes "udta") kind ≡ false → filter (λ part. bytes_eq part.kind kind) (tracks ++ rest) ≡ [] =
    λ kind no yes. traks-skipped kind no movie.scale placing 0 movie.tracks rest ∙ data-skipped kind yes user.tail in
    let found = one-found box (codes "mvhd") head parts (ap (λ (more : List Part). head ∷ more) (other (codes "mvhd") refl refl)) in
    let header_box : Box = the (codes "mvhd") box in
    let header : mvhd_of header_box.place header_box.body ≡ Ok (movie_fields movie) = ap (mvhd_of header_box.place) (found-body _ found) ∙ laws.headers.movie.back (movie_fields movie) header_box.place formed.header in
    let all = boxes-in box parts in
    let are : map part_of (traks_in box) ≡ tracks =
    ap (λ (boxes : List Box). map part_of (of_kind (codes "trak") boxes)) all
    ∙ (of_parts parts.all _ _ (codes "trak") parts.are (traks-kept movie.scale placing 0 movie.tracks rest)
    ∙ (ap (λ (more : List Part). tracks ++ more) (data-skipped (codes "trak") refl user.tail) ∙ append-nil tracks)) in
    let count : length (traks_in box) ≡ length movie.tracks = sym (length-map (traks_in box) part_of) ∙ (ap length are ∙ traks-len movie.scale placing 0 movie.tracks) in
    let read = tracks-read laws file movie.scale placing [] 0 (traks_in box) movie.tracks are (omega (arith, body_short, len)) formed.tracks fits.each formed.distinct (none_before movie.tracks) (omega (arith, fits.samples)) placed in
    record {
      sound = movie_fault-ok (length file) box (
        short-of box short,
        (
          boxes-whole box parts,
          (
            none-of _ _ box parts.all all (kind-none parts.all _ (codes "mvex") parts.are (other (codes "mvex") refl refl)),
            (none-of _ _ box parts.all all (kind-none parts.all _ (codes "cmov") parts.are (other (codes "cmov") refl refl)), (found-none _ found, (ap fault_of header, (few-of box movie.tracks count fits.tracks, (read.sound, tt))))),
          ),
        ),
      );
      read = movie_of-ok file box movie (ap (value_or no_mvhd) (ap (mvhd_of 0) (found-body _ found) ∙ laws.headers.movie.back (movie_fields movie) 0 formed.header)) user.is read.read;
    }
