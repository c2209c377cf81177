-- How long the front of a file is: it does not depend on the places that it states, and each place of 64 bits makes it 4 bytes longer.
use Rattle.std.proofs.Common.{if◌then◌else◌, ◌≡◌, ℕ, ◌+◌, ◌*◌, ◌≤◌, Bool, true, false, cond, List, [], ◌∷◌, ◌++◌, length, map, get_or, codes, refl, sym, ap, ◌∙◌, arith, ◌==◌}
use Rattle.std.proofs.lemmas.List.{length-append, length-map}
use Rattle.mp_boxes.specs.Field.{Part, box_bytes, boxes_bytes, optional}
use Rattle.mp_boxes.specs.FullBox.{first_row}
use Rattle.mp_headers.specs.FileType.{ftyp}
use Rattle.mp_headers.specs.Handler.{hdlr}
use Rattle.mp_headers.specs.MovieHeader.{mvhd}
use Rattle.mp_headers.specs.TrackHeader.{tkhd}
use Rattle.mp_headers.specs.MediaHeader.{mdhd}
use Rattle.mp_movie.specs.Heads.{media_fields, movie_fields, track_fields}
use Rattle.mp_headers.specs.MediaInformation.{media_header}
use Rattle.mp_times.specs.Written.{stts, ctts, stss}
use Rattle.mp_chunks.specs.Chunks.{offset_len}
use Rattle.mp_chunks.specs.Written.{PlacesChangeNoLength, chunk_offsets, head_of, offsets_body, stsc, stsc_body, stsz, unplaced}
use Rattle.mp_timeline.specs.Movie.{TrackRecord, MovieRecord}
use Rattle.mp_movie.specs.Columns.{composition_offsets, durations, sizes, sync_marks}
use Rattle.mp_interleave.specs.Samples.{SampleChunk}
use Rattle.mp_layout.specs.Order.{chunk_bytes, chunks_at, payload, placed}
use Rattle.mp_entries.specs.Description.{stsd}
use Rattle.mp_layout.specs.Tables.{Placing, stbl}
use Rattle.mp_edits.specs.EditBox.{edts}
use Rattle.mp_layout.specs.Moov.{dinf, mdia, minf, moov, placing_at, trak, traks}
use Rattle.mp_layout.specs.File.{Within, front_at, mdat_head, payload_place}

-- ---- boxes that are longer than others

-- the second box is so much longer than the first
abbrev Adds : ℕ → Part → Part → Type 0
Adds more one other = length (box_bytes other) ≡ length (box_bytes one) + more

-- and so are the second boxes together
abbrev AddAll : ℕ → List Part → List Part → Type 0
AddAll more xs ys = length (boxes_bytes ys) ≡ length (boxes_bytes xs) + more

box-adds : (more : ℕ) (one other : Part) → length one.kind ≡ length other.kind → length other.body ≡ length one.body + more → Adds more one other
unfolding box_bytes
box-adds more one other kinds bodies = omega (arith, kinds, bodies, length-append one.kind one.body, length-append other.kind other.body)

both-add : (m n : ℕ) (one other : Part) (xs ys : List Part) → Adds m one other → AddAll n xs ys → AddAll (m + n) (one ∷ xs) (other ∷ ys)
unfolding boxes_bytes
both-add m n one other xs ys first rest = omega (arith, first, rest, length-append (box_bytes one) (boxes_bytes xs), length-append (box_bytes other) (boxes_bytes ys))

same-front : (more : ℕ) (one other : Part) (xs ys : List Part) → Adds 0 one other → AddAll more xs ys → AddAll more (one ∷ xs) (other ∷ ys)
unfolding boxes_bytes
same-front more one other xs ys first rest = omega (arith, first, rest, length-append (box_bytes one) (boxes_bytes xs), length-append (box_bytes other) (boxes_bytes ys))

last-adds : (more : ℕ) (one other : Part) → Adds more one other → AddAll more (one ∷ []) (other ∷ [])
unfolding boxes_bytes
last-adds more one other adds = omega (arith, adds, length-append (box_bytes one) (boxes_bytes []), length-append (box_bytes other) (boxes_bytes []))

behind : (more : ℕ) (part : Part) (xs ys : List Part) → AddAll more xs ys → AddAll more (part ∷ xs) (part ∷ ys)
unfolding boxes_bytes
behind more part xs ys adds = omega (arith, adds, length-append (box_bytes part) (boxes_bytes xs), length-append (box_bytes part) (boxes_bytes ys))

behind-all : (more : ℕ) (parts xs ys : List Part) → AddAll more xs ys → AddAll more (parts ++ xs) (parts ++ ys)
behind-all more [] xs ys adds = adds
behind-all more (part ∷ parts) xs ys adds = behind more part (parts ++ xs) (parts ++ ys) (behind-all more parts xs ys adds)

-- ---- the tables of chunks

-- the tables of the second placing are so much longer than those of the first
record TablesAdd (more : ℕ) (one other : Placing) : Type 0 where
  pub stsc : stsc_body (map head_of one.chunks) ≡ stsc_body (map head_of other.chunks)
  pub offsets : length (offsets_body other.wide (map head_of other.chunks)) ≡ length (offsets_body one.wide (map head_of one.chunks)) + more

same-kind : (one other : Bool) → length (cond one (codes "co64") (codes "stco")) ≡ length (cond other (codes "co64") (codes "stco"))
same-kind true true = refl
same-kind true false = refl
same-kind false true = refl
same-kind false false = refl

stbl-adds : (more : ℕ) (track : TrackRecord) (one other : Placing) → TablesAdd more one other → Adds more (stbl track one) (stbl track other)
stbl-adds more track one other adds =
    let runs = box-adds 0 (stsc (map head_of one.chunks)) (stsc (map head_of other.chunks)) refl (omega (arith, ap length adds.stsc)) in
    let places = box-adds more (chunk_offsets one.wide (map head_of one.chunks)) (chunk_offsets other.wide (map head_of other.chunks)) (same-kind one.wide other.wide) adds.offsets in
    let tables = same-front more _ _ _ _ runs (behind more (stsz (sizes track.samples)) _ _ (last-adds more _ _ places)) in
    let times = behind-all more (optional (ctts (composition_offsets track.samples)) ++ optional (stss (sync_marks track.samples))) _ _ tables in
    box-adds more (stbl track one) (stbl track other) refl (behind more (stsd track.entries) _ _ (behind more (stts (durations track.samples)) _ _ times))

trak-adds : (more scale : ℕ) (track : TrackRecord) (one other : Placing) → TablesAdd more one other → Adds more (trak scale track one) (trak scale track other)
trak-adds more scale track one other adds =
    let information = box-adds more (minf track one) (minf track other) refl (behind more (media_header track.head.handler) _ _ (behind more dinf _ _ (last-adds more _ _ (stbl-adds more track one other adds)))) in
    let media = box-adds more (mdia track one) (mdia track other) refl (behind more (mdhd (media_fields track)) _ _ (behind more (hdlr track.head.handler track.head.name) _ _ (last-adds more _ _ information))) in
    let parts = behind more (tkhd (track_fields scale track)) _ _ (behind-all more (optional (edts track.edits)) _ _ (last-adds more _ _ media)) in
    box-adds more (trak scale track one) (trak scale track other) refl
    (omega (arith, parts, length-append (boxes_bytes (tkhd (track_fields scale track) ∷ optional (edts track.edits) ++ mdia track one ∷ [])) track.head.udta, length-append (boxes_bytes (tkhd (track_fields scale track) ∷ optional (edts track.edits) ++ mdia track other ∷ [])) track.head.udta))

-- what so many tracks from a position on add
abbrev pub all_more : (ℕ → ℕ) → ℕ → List TrackRecord → ℕ
all_more more position [] = 0
all_more more position (track ∷ tracks) = more position + all_more more (position + 1) tracks

traks-add : (more : ℕ → ℕ) (scale : ℕ) (one other : ℕ → Placing) (position : ℕ) (tracks : List TrackRecord) → ((k : ℕ) → TablesAdd (more k) (one k) (other k))
    → AddAll (all_more more position tracks) (traks scale one position tracks) (traks scale other position tracks)
traks-add more scale one other position [] adds = omega arith
traks-add more scale one other position (track ∷ tracks) adds =
    both-add (more position) (all_more more (position + 1) tracks) _ _ _ _ (trak-adds (more position) scale track (one position) (other position) (adds position))
    (traks-add more scale one other (position + 1) tracks adds)

-- ---- the chunks of a track at other places

pub same-heads : (position a b : ℕ) (chunks : List SampleChunk) → map unplaced (map head_of (chunks_at position a chunks)) ≡ map unplaced (map head_of (chunks_at position b chunks))
same-heads position a b [] = refl
same-heads position a b (chunk ∷ chunks) = by (chunk.track == position) (same-heads position (a + length (chunk_bytes chunk)) (b + length (chunk_bytes chunk)) chunks)
  where
    by : (own : Bool) → map unplaced (map head_of (chunks_at position (a + length (chunk_bytes chunk)) chunks)) ≡ map unplaced (map head_of (chunks_at position (b + length (chunk_bytes chunk)) chunks))
        → map unplaced (map head_of (cond own (placed a chunk ∷ chunks_at position (a + length (chunk_bytes chunk)) chunks) (chunks_at position (a + length (chunk_bytes chunk)) chunks)))
        ≡ map unplaced (map head_of (cond own (placed b chunk ∷ chunks_at position (b + length (chunk_bytes chunk)) chunks) (chunks_at position (b + length (chunk_bytes chunk)) chunks)))
    by true same = rw same refl
    by false same = same

-- how many bytes the places of the track at a position take more, where it is in the set
abbrev pub wide_more : List SampleChunk → List Bool → ℕ → ℕ
wide_more chunks wide position = if get_or wide position false then 4 * length (chunks_at position 0 chunks) else 0

offsets-add : (one : Bool) (n m : ℕ) → n ≡ m → first_row + offset_len one * m ≡ first_row + offset_len false * n + (if one then 4 * n else 0)
offsets-add true n m same = omega (arith, same)
offsets-add false n m same = omega (arith, same)

placing-adds : PlacesChangeNoLength → (chunks : List SampleChunk) (wide : List Bool) (a b position : ℕ) → TablesAdd (wide_more chunks wide position) (placing_at chunks [] a position) (placing_at chunks wide b position)
placing-adds law chunks wide a b position =
    let here = map head_of (chunks_at position a chunks) in
    let there = map head_of (chunks_at position b chunks) in
    let base = chunks_at position 0 chunks in
    let same = same-heads position a b chunks in
    let from = same-heads position a 0 chunks in
    let many : length here ≡ length base = sym (length-map here unplaced) ∙ (ap length from ∙ (length-map (map head_of base) unplaced ∙ length-map base head_of)) in
    let as_many : length here ≡ length there = sym (length-map here unplaced) ∙ (ap length same ∙ length-map there unplaced) in
    record {
      stsc = sym (law.stsc here) ∙ (ap stsc_body same ∙ law.stsc there);
      offsets = rw (law.offsets (get_or wide position false) there, law.offsets false here, ← many) (offsets-add (get_or wide position false) (length here) (length there) as_many);
    }

-- ---- the front

pub moov-adds : PlacesChangeNoLength → (movie : MovieRecord) (chunks : List SampleChunk) (wide : List Bool) (a b : ℕ)
    → length (box_bytes (moov movie chunks wide b)) ≡ length (box_bytes (moov movie chunks [] a)) + all_more (wide_more chunks wide) 0 movie.tracks
moov-adds law movie chunks wide a b =
    let more = all_more (wide_more chunks wide) 0 movie.tracks in
    let tracks = traks-add (wide_more chunks wide) movie.scale (placing_at chunks [] a) (placing_at chunks wide b) 0 movie.tracks (placing-adds law chunks wide a b) in
    let parts = behind more (mvhd (movie_fields movie)) _ _ tracks in
    box-adds more (moov movie chunks [] a) (moov movie chunks wide b) refl
    (omega (arith, parts, length-append (boxes_bytes (mvhd (movie_fields movie) ∷ traks movie.scale (placing_at chunks [] a) 0 movie.tracks)) movie.head.udta, length-append (boxes_bytes (mvhd (movie_fields movie) ∷ traks movie.scale (placing_at chunks wide b) 0 movie.tracks)) movie.head.udta))

pub front-adds : PlacesChangeNoLength → (movie : MovieRecord) (chunks : List SampleChunk) (wide : List Bool) (a b : ℕ)
    → length (front_at movie chunks wide b) ≡ length (front_at movie chunks [] a) + all_more (wide_more chunks wide) 0 movie.tracks
front-adds law movie chunks wide a b =
    let head = mdat_head (length (payload chunks)) in
    let one = box_bytes (moov movie chunks [] a) in
    let other = box_bytes (moov movie chunks wide b) in
    omega (
      arith,
      moov-adds law movie chunks wide a b,
      length-append (box_bytes ftyp ++ one) head,
      length-append (box_bytes ftyp ++ other) head,
      length-append (box_bytes ftyp) one,
      length-append (box_bytes ftyp) other,
    )

-- the payload stands behind the front, wherever that says it does
pub front-len : PlacesChangeNoLength → (movie : MovieRecord) (chunks : List SampleChunk) (wide : List Bool) (place : ℕ) → length (front_at movie chunks wide place) ≡ payload_place movie chunks wide
unfolding payload_place
front-len law movie chunks wide place = omega (arith, front-adds law movie chunks wide 0 place, front-adds law movie chunks wide 0 0)

pub place-adds : PlacesChangeNoLength → (movie : MovieRecord) (chunks : List SampleChunk) (wide : List Bool) → payload_place movie chunks wide ≡ payload_place movie chunks [] + all_more (wide_more chunks wide) 0 movie.tracks
unfolding payload_place
place-adds law movie chunks wide = front-adds law movie chunks wide 0 0

-- with more tracks of places of 64 bits it stands no earlier
more-rises : (chunks : List SampleChunk) (wide others : List Bool) (position : ℕ) → Within wide others → wide_more chunks wide position ≤ wide_more chunks others position
more-rises chunks wide others position grows = by (get_or wide position false) (get_or others position false) (grows position)
  where
    by : (one other : Bool) → (one ≡ true → other ≡ true) → cond one (4 * length (chunks_at position 0 chunks)) 0 ≤ cond other (4 * length (chunks_at position 0 chunks)) 0
    by true true h = omega arith
    by true false h = absurd (no (h refl))
      where
        no : false ≡ true → ⊥
        no e = cc
    by false true h = omega arith
    by false false h = omega arith

all-rises : (chunks : List SampleChunk) (wide others : List Bool) (position : ℕ) (tracks : List TrackRecord) → Within wide others → all_more (wide_more chunks wide) position tracks ≤ all_more (wide_more chunks others) position tracks
all-rises chunks wide others position [] grows = omega arith
all-rises chunks wide others position (track ∷ tracks) grows = omega (arith, more-rises chunks wide others position grows, all-rises chunks wide others (position + 1) tracks grows)

pub place-rises : PlacesChangeNoLength → (movie : MovieRecord) (chunks : List SampleChunk) (wide others : List Bool) → Within wide others → payload_place movie chunks wide ≤ payload_place movie chunks others
place-rises law movie chunks wide others grows = omega (arith, place-adds law movie chunks wide, place-adds law movie chunks others, all-rises chunks wide others 0 movie.tracks grows)
