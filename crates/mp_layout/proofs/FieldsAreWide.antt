-- The places of the chunks of each track fit its field.
use Rattle.std.proofs.Common.{◌≡◌, ℕ, zero, suc, ◌+◌, ◌-◌, ◌^◌, ◌<◌, ◌≤◌, Bool, true, false, cond, ◌||◌, ◌==◌, nat_le, List, [], ◌∷◌, All, length, map, get_or, refl, sym, ap, subst, ◌∙◌, arith}
use Rattle.std.specs.Prelude.{max}
use Rattle.std.specs.List.{AllByRecursion}
use Rattle.std.proofs.lemmas.List.Elements.{All-from_recursion}
use Rattle.mp_boxes.specs.Table.{capped}
use Rattle.mp_columns.specs.declared.columns.TheConstants.{MOST_ITEMS}
use Rattle.mp_chunks.specs.declared.push.ChunkHead.{ChunkHead}
use Rattle.mp_movie.specs.Placed.{PlacedTrack}
use Rattle.mp_interleave.specs.declared.chunk.Chunk.{Chunk}
use Rattle.mp_layout.specs.declared.wide.Reach.{Reach}
use Rattle.mp_layout.specs.Written.{CanBePlaced}
use Rattle.mp_layout.specs.Wide.{IsLeastSet, IsShortReach, is_near, place_of, reach_at}
use Rattle.mp_layout.specs.Chunked.{AreReaches, CanAllBePlaced, head_at, heads_on, furthest}
use Rattle.mp_layout.proofs.PlacesFit.{passes-at, same-flag}
use Rattle.mp_layout.proofs.ReachesAreNear.{some-near}

-- ---- places that fit their fields

or-true : (b : Bool) → (b || true) ≡ true
or-true true = refl
or-true false = refl

nat-le-is : (a b : ℕ) → nat_le a b ≡ true → a ≤ b
nat-le-is a b e = grind (arith, e)

is-le : (a b : ℕ) → a ≤ b → nat_le a b ≡ true
is-le a b le = grind (arith, le)

near-fit : (place position : ℕ) (tracks : List PlacedTrack) (plan : List Chunk) (places : List ℕ)
    → (let heads = heads_on tracks position plan places in ((length heads == 0) || nat_le (place + furthest heads) (2 ^ 32 - 1)) ≡ true)
    → AllByRecursion (λ chunk. chunk.place < 2 ^ 32) (heads_on tracks position plan (map (λ behind. capped (place + behind)) places))
near-fit place position tracks [] places near = tt
near-fit place position tracks (chunk ∷ plan) [] near = tt
near-fit place position tracks (chunk ∷ plan) (behind ∷ places) near =
    by (chunk.track == position) near (near-fit place position tracks plan places)
  where
    later : List ChunkHead
    later = heads_on tracks position plan places

    by : (own : Bool) → ((length (cond own (head_at tracks chunk behind ∷ later) later) == 0) || nat_le (place + furthest (cond own (head_at tracks chunk behind ∷ later) later)) (2 ^ 32 - 1)) ≡ true
        → (((length later == 0) || nat_le (place + furthest later) (2 ^ 32 - 1)) ≡ true → AllByRecursion (λ (c : ChunkHead). c.place < 2 ^ 32) (heads_on tracks position plan (map (λ b. capped (place + b)) places)))
        → AllByRecursion (λ (c : ChunkHead). c.place < 2 ^ 32) (cond own (head_at tracks chunk (capped (place + behind)) ∷ heads_on tracks position plan (map (λ b. capped (place + b)) places)) (heads_on tracks position plan (map (λ b. capped (place + b)) places)))
    by true near more =
        let most : place + max behind (furthest later) ≤ 2 ^ 32 - 1 = nat-le-is _ _ (sym (some-near place (head_at tracks chunk behind) later) ∙ near) in (
          omega (arith, most),
          more (ap (λ b. (length later == 0) || b) (is-le (place + furthest later) (2 ^ 32 - 1) (omega (arith, most))) ∙ or-true (length later == 0)),
        )
    by false near more = more near

all-fit : (place position : ℕ) (tracks : List PlacedTrack) (plan : List Chunk) (places : List ℕ) → AllByRecursion (λ chunk. chunk.place < 2 ^ 64) (heads_on tracks position plan (map (λ behind. capped (place + behind)) places))
all-fit place position tracks [] places = tt
all-fit place position tracks (chunk ∷ plan) [] = tt
all-fit place position tracks (chunk ∷ plan) (behind ∷ places) = by (chunk.track == position) (all-fit place position tracks plan places)
  where
    by : (own : Bool) → AllByRecursion (λ (c : ChunkHead). c.place < 2 ^ 64) (heads_on tracks position plan (map (λ b. capped (place + b)) places))
        → AllByRecursion (λ (c : ChunkHead). c.place < 2 ^ 64) (cond own (head_at tracks chunk (capped (place + behind)) ∷ heads_on tracks position plan (map (λ b. capped (place + b)) places)) (heads_on tracks position plan (map (λ b. capped (place + b)) places)))
    by true more = (omega arith, more)
    by false more = more

pub few-heads : (tracks : List PlacedTrack) (position : ℕ) (plan : List Chunk) (places : List ℕ) → length (heads_on tracks position plan places) ≤ length plan
few-heads tracks position [] places = omega arith
few-heads tracks position (chunk ∷ plan) [] = omega arith
few-heads tracks position (chunk ∷ plan) (place ∷ places) = by (chunk.track == position) (few-heads tracks position plan places)
  where
    by : (own : Bool) → length (heads_on tracks position plan places) ≤ length plan
        → length (cond own (head_at tracks chunk place ∷ heads_on tracks position plan places) (heads_on tracks position plan places)) ≤ suc (length plan)
    by true le = omega (arith, le)
    by false le = omega (arith, le)

-- the numbers of chunks fit 32 bits
pub short-reaches : (scale : ℕ) (tracks : List PlacedTrack) (plan : List Chunk) (places : List ℕ) (reaches : List Reach) → AreReaches scale tracks plan places (length tracks) reaches → length plan ≤ MOST_ITEMS → All IsShortReach reaches
short-reaches scale tracks plan places reaches are few =
    λ position d lt. let here = are.each position (omega (arith, lt, are.len)) in
    subst IsShortReach (same-reach reaches position d lt) (omega (arith, here.count, few, few-heads tracks position plan places))
  where
    same-reach : (reaches : List Reach) (position : ℕ) (d : Reach) → position < length reaches → reach_at reaches position ≡ get_or reaches position d
    same-reach [] position d lt = absurd (omega arith)
    same-reach (reach ∷ reaches) zero d lt = refl
    same-reach (reach ∷ reaches) (suc position) d lt = same-reach reaches position d (omega arith)

-- with the least set the places of each track fit their field
pub can-all-be-placed : (scale : ℕ) (tracks : List PlacedTrack) (plan : List Chunk) (places : List ℕ) (reaches : List Reach) (base place : ℕ) (set : List Bool)
    → AreReaches scale tracks plan places (length tracks) reaches → length plan ≤ MOST_ITEMS → IsLeastSet base reaches set → place ≡ place_of base reaches set
    → CanAllBePlaced tracks plan (map (λ behind. capped (place + behind)) places) set
can-all-be-placed scale tracks plan places reaches base place set are few least is position lt =
    let moved = map (λ behind. capped (place + behind)) places in
    let inside : position < length reaches = omega (arith, lt, are.len) in
    let here = are.each position lt in
    let test = passes-at (λ at. get_or set at true || is_near (place_of base reaches set) (reach_at reaches at)) 0 (length reaches) position position least.closed inside (omega arith) in
    let near : (get_or set position false || is_near place (reach_at reaches position)) ≡ true =
    ap (λ b. b || is_near place (reach_at reaches position)) (sym (same-flag set position (omega (arith, inside, least.flags)))) ∙ (ap (λ (p : ℕ). get_or set position true || is_near p (reach_at reaches position)) is ∙ test) in
    by (get_or set position false) near here.count here.last
  where
    by : (flag : Bool) → (flag || is_near place (reach_at reaches position)) ≡ true → (reach_at reaches position).chunks ≡ length (heads_on tracks position plan places)
        → (reach_at reaches position).furthest ≡ furthest (heads_on tracks position plan places)
        → CanBePlaced (heads_on tracks position plan (map (λ behind. capped (place + behind)) places)) flag
    by true near count last = record {
      few = omega (arith, few, few-heads tracks position plan (map (λ behind. capped (place + behind)) places));
      fit = All-from_recursion _ _ (all-fit place position tracks plan places);
    }
    by false near count last = record {
      few = omega (arith, few, few-heads tracks position plan (map (λ behind. capped (place + behind)) places));
      fit = All-from_recursion _ _ (near-fit place position tracks plan places ((λ i. (sym count i == 0) || nat_le (place + sym last i) (2 ^ 32 - 1)) ∙ near));
    }
