-- What is counted of the columns of a movie is what the movie that it stands for has.
use Rattle.std.proofs.Common.{◌≡◌, ℕ, zero, suc, ◌+◌, ◌^◌, ◌<◌, ◌≤◌, List, [], ◌∷◌, length, map, get_or, refl, sym, ap, subst, ◌∙◌, arith}
use Rattle.std.specs.List.{sum_by, AllByRecursion}
use Rattle.std.proofs.lemmas.List.{length-map}
use Rattle.std.proofs.lemmas.List.Sums.{sum_by-cons}
use Rattle.mp_boxes.specs.Field.{Part}
use Rattle.mp_boxes.specs.Table.{BoxesHaveLengths, HasLen, box_len, boxes_len, capped}
use Rattle.mp_columns.specs.declared.columns.TheConstants.{MOST_ITEMS}
use Rattle.mp_chunks.specs.Written.{PlacesChangeNoLength, head_of, unplaced}
use Rattle.mp_timeline.specs.Movie.{MovieRecord, TrackRecord}
use Rattle.mp_movie.specs.PartsLaw.{ColumnsAreKept, PartsStandForMovies}
use Rattle.mp_movie.specs.Placed.{PlacedMovie, PlacedTrack, payload_len, sample_count}
use Rattle.mp_movie.specs.StandsFor.{Hold, HoldTrack, stands_for, track_for}
use Rattle.mp_movie.specs.WellFormed.{IsWellFormedTrack}
use Rattle.mp_movie.specs.WholeParts.{AreParts}
use Rattle.mp_interleave.specs.declared.chunk.Chunk.{Chunk}
use Rattle.mp_interleave.specs.Law.{IsTimed, IsWithin, PlansStandForChunks, SamplesStandInChunks}
use Rattle.mp_interleave.specs.Order.{planned}
use Rattle.mp_interleave.specs.Samples.{SampleChunk, chunks_of}
use Rattle.mp_layout.specs.declared.wide.Reach.{Reach}
use Rattle.mp_layout.specs.Order.{chunks_at, payload, places_from}
use Rattle.mp_layout.specs.Tables.{Placing}
use Rattle.mp_layout.specs.Moov.{moov, placing_at, trak, traks}
use Rattle.mp_layout.specs.File.{mdat_head}
use Rattle.mp_layout.specs.Law.{FilesPresentMovies}
use Rattle.mp_layout.specs.Written.{moov_with}
use Rattle.mp_layout.specs.Wide.{reach_at}
use Rattle.mp_layout.specs.Chunked.{IsChunkOrder, AreReaches, heads_on, furthest, len_of, places_behind}
use Rattle.mp_layout.proofs.ColumnSums.{at-track}
use Rattle.mp_layout.proofs.HeadsOfChunks.{AreHeld, chunks_for, heads-for, places-for, tracks-len}
use Rattle.mp_layout.proofs.PayloadIsShort.{payload-len}
use Rattle.mp_layout.proofs.ReachesAreNear.{AreRight}

-- ---- laws

-- the laws of the format, of boxes, of movies and of chunks
pub record PlanLaws : Type 0 where
  pub format : FilesPresentMovies
  pub boxes : BoxesHaveLengths
  pub places : PlacesChangeNoLength
  pub columns : ColumnsAreKept
  pub stand : PartsStandForMovies
  pub order : SamplesStandInChunks
  pub plans : PlansStandForChunks

-- ---- chunks

-- the chunks of a movie, in other words
pub chunks-within : PlansStandForChunks → (movie : PlacedMovie) (plan : List Chunk) (tracks : List PlacedTrack) (chunks : List Chunk) → IsChunkOrder movie plan → tracks ≡ movie.tracks → chunks ≡ plan
    → AllByRecursion (IsWithin tracks) chunks
chunks-within law movie plan tracks chunks order same is =
    subst (λ (ts : List PlacedTrack). AllByRecursion (IsWithin ts) chunks) (sym same) (subst (λ (cs : List Chunk). AllByRecursion (IsWithin movie.tracks) cs) (sym (is ∙ order.is)) (law.within order.millis movie))

pub few-chunks : PlansStandForChunks → (movie : PlacedMovie) (plan chunks : List Chunk) → IsChunkOrder movie plan → chunks ≡ plan → sample_count movie.tracks ≤ MOST_ITEMS → length chunks ≤ MOST_ITEMS
few-chunks law movie plan chunks order is few = omega (arith, few, ap length (is ∙ order.is), law.few order.millis movie)

-- what is said of chunks by their numbers is what holds of them
pub record AreChunks (tracks : List PlacedTrack) (plan : List Chunk) (chunks : List SampleChunk) : Type 0 where
  pub heads : (position place : ℕ) → map head_of (chunks_at position place chunks) ≡ heads_on tracks position plan (places_from place chunks)
  pub places : length (payload chunks) < 2 ^ 64 → places_behind tracks 0 plan ≡ places_from 0 chunks

within-for : PlansStandForChunks → (movie : PlacedMovie) (millis : ℕ) (plan : List Chunk) → plan ≡ planned millis movie → AllByRecursion (IsWithin movie.tracks) plan
within-for law movie millis plan is = subst (λ (chunks : List Chunk). AllByRecursion (IsWithin movie.tracks) chunks) (sym is) (law.within millis movie)

pub are-chunks : PlanLaws → (files : List (List ℕ)) (movie : PlacedMovie) (millis : ℕ) (plan : List Chunk) → AreParts movie → Hold (map length files) movie → plan ≡ planned millis movie
    → AreChunks movie.tracks plan (chunks_of millis (stands_for files movie))
are-chunks laws files movie millis plan parts hold is =
    let held : AreHeld files movie.tracks = record { law = laws.columns; columns = parts.columns; held = hold } in
    let within = within-for laws.plans movie millis plan is in
    let same : chunks_of millis (stands_for files movie) ≡ chunks_for files movie.tracks plan = laws.plans.same files millis movie ∙ ap (chunks_for files movie.tracks) (sym is) in
    subst (AreChunks movie.tracks plan) (sym same)
    record {
      heads = λ position place. heads-for files movie.tracks held position place plan within;
      places = λ short. places-for files movie.tracks held 0 plan within (omega (arith, short));
    }

pub places-count : (tracks : List PlacedTrack) (place : ℕ) (plan : List Chunk) → length (places_behind tracks place plan) ≡ length plan
places-count tracks place [] = refl
places-count tracks place (chunk ∷ plan) = ap suc (places-count tracks (capped (place + len_of tracks chunk)) plan)

-- ---- what is counted

-- the numbers that are counted of a movie whose samples stand in these chunks
pub record AreCounted (movie : PlacedMovie) (plan : List Chunk) (reaches : List Reach) (narrow head bytes : ℕ) : Type 0 where
  pub reaches_are : AreReaches movie.scale movie.tracks plan (places_behind movie.tracks 0 plan) (length movie.tracks) reaches
  pub narrow_is : (files : List (List ℕ)) (parts : List Part) → capped (sum_by (λ reach. reach.trak) reaches) ≡ capped (boxes_len parts) → HasLen narrow (moov_with (stands_for files movie) parts)
  pub bytes_are : bytes ≡ payload_len movie.tracks
  pub short : bytes < 2 ^ 55
  pub head_is : head ≡ length (mdat_head bytes)
  pub small : head ≤ 16

-- what is known of tracks, in other words
pub reaches-in-words : (scale other_scale : ℕ) (tracks other_tracks : List PlacedTrack) (chunks plan : List Chunk) (places : List ℕ) (reaches : List Reach) → scale ≡ other_scale → tracks ≡ other_tracks → chunks ≡ plan → places ≡ places_behind tracks 0 chunks
    → AreReaches scale tracks chunks places (length tracks) reaches → AreReaches other_scale other_tracks plan (places_behind other_tracks 0 plan) (length other_tracks) reaches
reaches-in-words scale other_scale tracks other_tracks chunks plan places reaches e1 e2 e3 e4 are =
    subst (λ (cs : List Chunk). AreReaches other_scale other_tracks cs (places_behind other_tracks 0 cs) (length other_tracks) reaches) e3
    (subst (λ (ts : List PlacedTrack). AreReaches other_scale ts chunks (places_behind ts 0 chunks) (length ts) reaches) e2
    (subst (λ (s : ℕ). AreReaches s tracks chunks (places_behind tracks 0 chunks) (length tracks) reaches) e1
    (subst (λ (ps : List ℕ). AreReaches scale tracks chunks ps (length tracks) reaches) e4 are)))

-- places of chunks, in other words
pub behind-in-words : (tracks others : List PlacedTrack) (chunks plan : List Chunk) (places : List ℕ) → tracks ≡ others → chunks ≡ plan → places ≡ places_behind tracks 0 chunks → places ≡ places_behind others 0 plan
behind-in-words tracks others chunks plan places same is are = are ∙ (λ i. places_behind (same i) 0 (is i))

-- what they are of the movie that it stands for
pub record AreNumbers (movie : MovieRecord) (chunks : List SampleChunk) (reaches : List Reach) (narrow head bytes : ℕ) : Type 0 where
  pub right : AreRight movie chunks reaches
  pub narrow_is : HasLen narrow (moov movie chunks [] 0)
  pub paid : bytes ≡ length (payload chunks)
  pub head_is : head ≡ length (mdat_head (length (payload chunks)))

all-timed : (scale : ℕ) (tracks : List TrackRecord) → AllByRecursion (IsWellFormedTrack scale) tracks → AllByRecursion IsTimed tracks
all-timed scale [] formed = tt
all-timed scale (track ∷ tracks) formed = (formed.0.times, all-timed scale tracks formed.1)

-- the boxes of the tracks with places of 32 bits
traks-len-is : (scale : ℕ) (files : List (List ℕ)) (placing : ℕ → Placing) (tracks : List PlacedTrack) (reaches : List Reach) (from : ℕ) → length reaches ≡ length tracks
    → ((k at : ℕ) (d : PlacedTrack) → from + k ≡ at → k < length tracks → (reach_at reaches k).trak ≡ capped (box_len (trak scale (track_for files (get_or tracks k d)) (placing at))))
    → capped (sum_by (λ reach. reach.trak) reaches) ≡ capped (boxes_len (traks scale placing from (map (track_for files) tracks)))
traks-len-is scale files placing [] [] from long each = refl
traks-len-is scale files placing [] (reach ∷ reaches) from long each = absurd (omega (arith, long))
traks-len-is scale files placing (track ∷ tracks) [] from long each = absurd (omega (arith, long))
traks-len-is scale files placing (track ∷ tracks) (reach ∷ reaches) from long each =
    let rest = traks-len-is scale files placing tracks reaches (from + 1) (omega (arith, long)) (λ k at d e lt. each (suc k) at d (omega (arith, e)) (omega (arith, lt))) in
    let here : reach.trak ≡ capped (box_len (trak scale (track_for files track) (placing from))) = each zero from track (omega arith) (omega arith) in
    let others = traks scale placing (from + 1) (map (track_for files) tracks) in
    omega (
      arith,
      rest,
      here,
      sum_by-cons (λ (r : Reach). r.trak) reach reaches,
      sum_by-cons box_len (trak scale (track_for files track) (placing from)) others,
    )

pub numbers-for : PlanLaws → (files : List (List ℕ)) (movie : PlacedMovie) (millis : ℕ) (plan : List Chunk) (reaches : List Reach) (narrow head bytes : ℕ) → AreParts movie → Hold (map length files) movie → plan ≡ planned millis movie
    → AreCounted movie plan reaches narrow head bytes → AreNumbers (stands_for files movie) (chunks_of millis (stands_for files movie)) reaches narrow head bytes
numbers-for laws files movie millis plan reaches narrow head bytes parts hold is counted =
    let whole = stands_for files movie in
    let chunks = chunks_of millis whole in
    let are = are-chunks laws files movie millis plan parts hold is in
    let formed = laws.stand.well_formed files movie parts in
    let paid : bytes ≡ length (payload chunks) =
    counted.bytes_are ∙ (sym (tracks-len files movie.tracks laws.columns parts.columns hold) ∙ sym (payload-len laws.order millis whole (all-timed whole.scale whole.tracks formed.tracks))) in
    let short = counted.short in
    let places = are.places (omega (arith, short, paid)) in
    let heads : (position : ℕ) → heads_on movie.tracks position plan (places_behind movie.tracks 0 plan) ≡ map head_of (chunks_at position 0 chunks) =
    λ position. ap (heads_on movie.tracks position plan) places ∙ sym (are.heads position 0) in
    let long : length reaches ≡ length movie.tracks = counted.reaches_are.len in
    let many : length whole.tracks ≡ length movie.tracks = length-map movie.tracks (track_for files) in
    record {
      right = record {
        len = long ∙ sym many;
        count = λ position lt. (counted.reaches_are.each position (omega (arith, lt, long))).count ∙ ap length (heads position);
        last = λ position lt. (counted.reaches_are.each position (omega (arith, lt, long))).last ∙ ap furthest (heads position);
      };
      narrow_is = counted.narrow_is files (traks whole.scale (placing_at chunks [] 0) 0 whole.tracks)
          (traks-len-is movie.scale files (placing_at chunks [] 0) movie.tracks reaches 0 long
          (λ k at d e lt.
          let same : k ≡ at = omega (arith, e) in
          subst (λ (n : ℕ). (reach_at reaches k).trak ≡ capped (box_len (trak movie.scale (track_for files (get_or movie.tracks k d)) (placing_at chunks [] 0 n)))) same
          ((counted.reaches_are.each k lt).trak_len d files (placing_at chunks [] 0 k)
          (record { held = at-track (HoldTrack (map length files)) movie.tracks k d hold lt; heads = ap (map unplaced) (sym (heads k)); same_wide = refl }))));
      paid = paid;
      head_is = counted.head_is ∙ ap (λ (n : ℕ). length (mdat_head n)) paid;
    }
