-- The boxes of tracks are pushed one after another, and what is known of tracks is found one after another.
use Rattle.std.proofs.Common.{◌==◌, cond, append_assoc, ◌≡◌, ℕ, ◌+◌, ◌<◌, ◌≤◌, Bool, true, false, List, [], ◌∷◌, ◌++◌, length, map, drop, get_or, refl, sym, ap, subst, ◌∙◌, arith, add-one}
use Rattle.std.specs.Prelude.{max, nat_lt, vec_capacity, vec_len, ◌^◌}
use Rattle.std.proofs.lemmas.List.{get_or_append_left, get_or_push, length_push}
use Rattle.std.proofs.Math.ListN.{drop_of_length-le}
use Rattle.std.proofs.Math.Seq.{drop-cons}
use Rattle.std.specs.declared.alloc.Global.{Global}
use Rattle.std.specs.declared.vec.Vec.{Vec}
use Rattle.mp_boxes.specs.Field.{box_bytes}
use Rattle.mp_boxes.specs.Push.{ArePushed, IsLeft, IsPushed, IsPushing}
use Rattle.mp_chunks.specs.declared.push.ChunkHead.{ChunkHead}
use Rattle.mp_movie.specs.Placed.{PlacedTrack}
use Rattle.mp_movie.specs.StandsFor.{HoldTrack, track_for}
use Rattle.mp_interleave.specs.declared.chunk.Chunk.{Chunk}
use Rattle.mp_layout.specs.declared.trak.TrackBoxes.{TrackBoxes}
use Rattle.mp_layout.specs.declared.wide.Reach.{Reach}
use Rattle.mp_layout.specs.Chunked.{ArePlaced, AreReaches, IsReach, furthest, head_at, heads_on, places_behind}
use Rattle.mp_layout.specs.Moov.{trak, traks}
use Rattle.mp_layout.specs.Tables.{Placing}
use Rattle.mp_layout.specs.Wide.{reach_at}
use Rattle.mp_layout.specs.Written.{AreTrackBoxes, BoxHasLen, BoxIsPushed}

-- ---- boxes

traks-next : (scale : ℕ) (files : List (List ℕ)) (placing : ℕ → Placing) (position : ℕ) (tracks : List PlacedTrack) (d : PlacedTrack) → position < length tracks
    → map box_bytes (traks scale placing position (map (track_for files) (drop position tracks)))
    ≡ box_bytes (trak scale (track_for files (get_or tracks position d)) (placing position)) ∷ map box_bytes (traks scale placing (position + 1) (map (track_for files) (drop (position + 1) tracks)))
traks-next scale files placing position tracks d lt =
    ap (λ (ts : List PlacedTrack). map box_bytes (traks scale placing position (map (track_for files) ts))) (drop-cons tracks position d lt)
    ∙ ap (λ (n : ℕ). box_bytes (trak scale (track_for files (get_or tracks position d)) (placing position)) ∷ map box_bytes (traks scale placing (position + 1) (map (track_for files) (drop n tracks)))) (sym (add-one position))

pub pushed-on : (start out new : Vec ℕ Global) (texts : List (List ℕ)) (scale : ℕ) (files : List (List ℕ)) (placing : ℕ → Placing) (position : ℕ) (tracks : List PlacedTrack) (d : PlacedTrack) → position < length tracks
    → IsLeft start out texts (map box_bytes (traks scale placing position (map (track_for files) (drop position tracks))))
    → IsPushed out new (box_bytes (trak scale (track_for files (get_or tracks position d)) (placing position)))
    → IsLeft start new texts (map box_bytes (traks scale placing (position + 1) (map (track_for files) (drop (position + 1) tracks))))
pushed-on start out new texts scale files placing position tracks d lt left pushed rest all p =
    pushed _ all (subst (λ (texts : List (List ℕ)). IsPushing out (texts ++ rest) all) (traks-next scale files placing position tracks d lt) (left rest all p))

pub all-pushed : (start out : Vec ℕ Global) (texts : List (List ℕ)) (scale : ℕ) (files : List (List ℕ)) (placing : ℕ → Placing) (position : ℕ) (tracks : List PlacedTrack) → length tracks ≤ position
    → IsLeft start out texts (map box_bytes (traks scale placing position (map (track_for files) (drop position tracks)))) → ArePushed start out texts
all-pushed start out texts scale files placing position tracks le left rest all p =
    subst (λ (ts : List PlacedTrack). IsPushing out (map box_bytes (traks scale placing position (map (track_for files) ts)) ++ rest) all) (drop_of_length-le tracks le) (left rest all p)

-- the box of a track is pushed, in other words
pub trak-pushed : (out new : Vec ℕ Global) (scale : ℕ) (tracks : List PlacedTrack) (chunks : List Chunk) (places : List ℕ) (wide : List Bool) (position : ℕ) (track : PlacedTrack) (heads : List ChunkHead) (flag : Bool) (boxes : TrackBoxes)
    → BoxIsPushed out new (trak boxes.movie_scale) track heads flag → boxes.movie_scale ≡ scale → ((d : PlacedTrack) → get_or tracks position d ≡ track) → heads ≡ heads_on tracks position chunks places → flag ≡ get_or wide position false
    → (files : List (List ℕ)) (placing : ℕ → Placing) → ArePlaced files tracks chunks places wide placing → position < length tracks → IsPushed out new (box_bytes (trak scale (track_for files (get_or tracks position track)) (placing position)))
trak-pushed out new scale tracks chunks places wide position track heads flag boxes pushed scale_is at heads_are flag_is files placing placed lt =
    let here = placed position track lt in
    let held : HoldTrack (map length files) track = subst (HoldTrack (map length files)) (at track) here.held in
    subst (λ (t : PlacedTrack). IsPushed out new (box_bytes (trak scale (track_for files t) (placing position)))) (sym (at track))
    (subst (λ (s : ℕ). IsPushed out new (box_bytes (trak s (track_for files track) (placing position)))) scale_is
    (pushed files (placing position) (record { held = held; heads = here.heads ∙ sym heads_are; same_wide = here.same_wide ∙ sym flag_is })))

-- boxes of tracks that are pushed, in other words
pub tracks-in-words : (out new : Vec ℕ Global) (chunks : List Chunk) (places : List ℕ) (wide : List Bool) (scale other : ℕ) (tracks others : List PlacedTrack) → scale ≡ other → tracks ≡ others
    → ((files : List (List ℕ)) (placing : ℕ → Placing) → ArePlaced files tracks chunks places wide placing → ArePushed out new (map box_bytes (traks scale placing 0 (map (track_for files) tracks))))
    → (files : List (List ℕ)) (placing : ℕ → Placing) → ArePlaced files others chunks places wide placing → ArePushed out new (map box_bytes (traks other placing 0 (map (track_for files) others)))
tracks-in-words out new chunks places wide scale other tracks others e1 e2 pushed files placing placed =
    subst (λ (s : ℕ). ArePushed out new (map box_bytes (traks s placing 0 (map (track_for files) others)))) e1
    (subst (λ (ts : List PlacedTrack). ArePlaced files ts chunks places wide placing → ArePushed out new (map box_bytes (traks scale placing 0 (map (track_for files) ts)))) e2 (pushed files placing) placed)

-- what is pushed piece by piece
pub in-pieces : (old : Vec ℕ Global) (one two three all : List ℕ) → IsPushing old (((one ++ two) ++ three) ∷ []) all → IsPushing old (one ∷ two ∷ three ∷ []) all
in-pieces old one two three all p =
    let same : ((one ++ two) ++ three) ++ [] ≡ one ++ (two ++ (three ++ [])) = append_assoc (one ++ two) three [] ∙ append_assoc one two (three ++ []) in
    record {
      items = ap (λ (left : List ℕ). old.items ++ left) (sym same) ∙ p.items;
      room = subst (λ (left : List ℕ). vec_len old + length left ≤ vec_capacity old) same p.room;
      short = subst (λ (left : List ℕ). length left < 2 ^ 32) same p.short;
    }

-- ---- what is known of tracks

less : (a b : ℕ) → nat_lt a b ≡ true → a < b
less a b e = grind (arith, e)

last-one : (a b : ℕ) → nat_lt a b ≡ false → a < b + 1 → a ≡ b
last-one a b e lt = grind (arith, e, lt)

pub reaches-on : (scale : ℕ) (tracks : List PlacedTrack) (chunks : List Chunk) (places : List ℕ) (count : ℕ) (reaches : List Reach) (reach : Reach) → AreReaches scale tracks chunks places count reaches
    → IsReach scale tracks chunks places count reach → AreReaches scale tracks chunks places (count + 1) (reaches ++ reach ∷ [])
reaches-on scale tracks chunks places count reaches reach are is = record {
  len = length_push reaches reach ∙ ap (λ (n : ℕ). n + 1) are.len;
  each = λ position lt. by position lt (nat_lt position count) refl;
}
  where
    by : (position : ℕ) → position < count + 1 → (b : Bool) → nat_lt position count ≡ b → IsReach scale tracks chunks places position (reach_at (reaches ++ reach ∷ []) position)
    by position lt true e =
        let inside = less position count e in
        subst (IsReach scale tracks chunks places position) (sym (get_or_append_left reaches (reach ∷ []) _ position (omega (arith, inside, are.len)))) (are.each position inside)
    by position lt false e =
        let here : position ≡ count = last-one position count e lt in
        subst (IsReach scale tracks chunks places position) (sym (get_or_push reaches reach _ position (are.len ∙ sym here))) (subst (λ (n : ℕ). IsReach scale tracks chunks places n reach) (sym here) is)

pub no-reaches : (scale : ℕ) (tracks : List PlacedTrack) (chunks : List Chunk) (places : List ℕ) → AreReaches scale tracks chunks places 0 []
no-reaches scale tracks chunks places = record { len = refl; each = λ position lt. absurd (omega (arith, lt)) }

pub reach-is : (scale : ℕ) (tracks : List PlacedTrack) (chunks : List Chunk) (places : List ℕ) (position : ℕ) (track : PlacedTrack) (heads : List ChunkHead) (boxes : TrackBoxes) (reach : Reach)
    → ((d : PlacedTrack) → get_or tracks position d ≡ track) → heads ≡ heads_on tracks position chunks places → AreTrackBoxes track heads false boxes → boxes.movie_scale ≡ scale
    → reach.trak ≡ boxes.trak → reach.chunks ≡ length heads → reach.furthest ≡ furthest heads → IsReach scale tracks chunks places position reach
reach-is scale tracks chunks places position track heads boxes reach at heads_are are scale_is len count last = record {
  count = count ∙ ap length heads_are;
  last = last ∙ ap furthest heads_are;
  trak_len = λ d.
      subst (λ (t : PlacedTrack). BoxHasLen reach.trak (trak scale) t (heads_on tracks position chunks places) false) (sym (at d))
      (subst (λ (hs : List ChunkHead). BoxHasLen reach.trak (trak scale) track hs false) heads_are
      (subst (λ (s : ℕ). BoxHasLen reach.trak (trak s) track heads false) scale_is
      (subst (λ (n : ℕ). BoxHasLen n (trak boxes.movie_scale) track heads false) (sym len) are.trak)));
}

-- ---- loops over chunks

pub heads-next : (tracks : List PlacedTrack) (position at : ℕ) (chunks : List Chunk) (places : List ℕ) (d : Chunk) (e : ℕ) → at < length chunks → length places ≡ length chunks
    → heads_on tracks position (drop at chunks) (drop at places) ≡ heads_on tracks position (get_or chunks at d ∷ drop (at + 1) chunks) (get_or places at e ∷ drop (at + 1) places)
heads-next tracks position at chunks places d e lt same =
    let one : drop at chunks ≡ get_or chunks at d ∷ drop (at + 1) chunks = drop-cons chunks at d lt ∙ ap (λ (n : ℕ). get_or chunks at d ∷ drop n chunks) (sym (add-one at)) in
    let other : drop at places ≡ get_or places at e ∷ drop (at + 1) places = drop-cons places at e (omega (arith, lt, same)) ∙ ap (λ (n : ℕ). get_or places at e ∷ drop n places) (sym (add-one at)) in
    λ i. heads_on tracks position (one i) (other i)

pub places-next : (tracks : List PlacedTrack) (place at : ℕ) (chunks : List Chunk) (d : Chunk) → at < length chunks → places_behind tracks place (drop at chunks) ≡ places_behind tracks place (get_or chunks at d ∷ drop (at + 1) chunks)
places-next tracks place at chunks d lt = ap (places_behind tracks place) (drop-cons chunks at d lt ∙ ap (λ (n : ℕ). get_or chunks at d ∷ drop n chunks) (sym (add-one at)))

pub furthest-next : (at : ℕ) (chunks : List ChunkHead) (d : ChunkHead) → at < length chunks → furthest (drop at chunks) ≡ max (get_or chunks at d).place (furthest (drop (at + 1) chunks))
furthest-next at chunks d lt = ap furthest (drop-cons chunks at d lt ∙ ap (λ (n : ℕ). get_or chunks at d ∷ drop n chunks) (sym (add-one at)))

-- ---- one chunk of the list

-- a chunk of the track is said something of, another isn't
pub said-own : (tracks : List PlacedTrack) (position : ℕ) (chunk : Chunk) (chunks : List Chunk) (place : ℕ) (places : List ℕ) (said all : List ChunkHead) → (chunk.track == position) ≡ true
    → said ++ heads_on tracks position (chunk ∷ chunks) (place ∷ places) ≡ all → (said ++ head_at tracks chunk place ∷ []) ++ heads_on tracks position chunks places ≡ all
said-own tracks position chunk chunks place places said all own is =
    append_assoc said (head_at tracks chunk place ∷ []) (heads_on tracks position chunks places)
    ∙ (ap (λ (b : Bool). said ++ cond b (head_at tracks chunk place ∷ heads_on tracks position chunks places) (heads_on tracks position chunks places)) (sym own) ∙ is)

pub said-other : (tracks : List PlacedTrack) (position : ℕ) (chunk : Chunk) (chunks : List Chunk) (place : ℕ) (places : List ℕ) (said all : List ChunkHead) → (chunk.track == position) ≡ false
    → said ++ heads_on tracks position (chunk ∷ chunks) (place ∷ places) ≡ all → said ++ heads_on tracks position chunks places ≡ all
said-other tracks position chunk chunks place places said all other is =
    ap (λ (b : Bool). said ++ cond b (head_at tracks chunk place ∷ heads_on tracks position chunks places) (heads_on tracks position chunks places)) (sym other) ∙ is
