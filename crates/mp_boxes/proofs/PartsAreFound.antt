-- The parts of boxes that are written one after another are these boxes.
use Rattle.std.proofs.Common.{◌≡◌, ℕ, zero, suc, ◌+◌, ◌^◌, ◌<◌, false, List, [], ◌∷◌, ◌++◌, length, map, drop, Option, Some, None, Result, Ok, Err, refl, ap, ◌∙◌, subst, arith}
use Rattle.std.specs.List.{AllByRecursion}
use Rattle.std.proofs.lemmas.List.{map-append}
use Rattle.mp_ports.specs.declared.code.Code.{Code}
use Rattle.mp_ports.specs.declared.fault.Bad.{Bad}
use Rattle.mp_ports.specs.Checks.{◌>>=◌, placed}
use Rattle.mp_boxes.specs.declared.head.TopHead.{TopHead}
use Rattle.mp_boxes.specs.Head.{head_at}
use Rattle.mp_boxes.specs.Boxes.{Box, IsCut, boxes, front_box, walk}
use Rattle.mp_boxes.specs.Field.{Part, boxes_bytes}
use Rattle.mp_boxes.specs.Parts.{HasCompactType, listed}
use Rattle.mp_boxes.specs.Format.{part_of, parts_of}
use Rattle.mp_boxes.proofs.CutInOneWay.{walk-cut}
use Rattle.mp_boxes.proofs.PartsAreRead.{parts-cut, parts-read}

pub parts-again : (place : ℕ) (parts : List Part) → map part_of (listed place parts) ≡ parts
parts-again place [] = refl
parts-again place (part ∷ parts) = rw (parts-again (place + (8 + length part.body)) parts) refl

pub parts_of-read : (parts : List Part) → AllByRecursion HasCompactType parts → length (boxes_bytes parts) < 2 ^ 32 → parts_of (boxes_bytes parts) ≡ Ok parts
parts_of-read parts kinds short = rw (parts-read false 0 parts kinds short, parts-again 0 parts) refl

pub parts_of-behind : (parts : List Part) (after : List ℕ) (more : List Box) → AllByRecursion HasCompactType parts → length (boxes_bytes parts) < 2 ^ 32 → IsCut false (length (boxes_bytes parts)) after more []
    → parts_of (boxes_bytes parts ++ after) ≡ Ok (parts ++ map part_of more)
parts_of-behind parts after more kinds short cut =
    let here : IsCut false (0 + length (boxes_bytes parts)) after more [] = subst (λ (place : ℕ). IsCut false place after more []) (omega arith) cut in
    let text = boxes_bytes parts ++ after in
    let read : boxes false 0 text ≡ Ok (listed 0 parts ++ more) = walk-cut (length text) false 0 text (listed 0 parts ++ more) (parts-cut false 0 parts after more kinds short here) (omega arith) in
    rw (read, map-append part_of (listed 0 parts) more, parts-again 0 parts) refl

-- ---- a text has the same parts wherever it stands

abbrev in_parts : Result (List Box) Bad → Option (List Part)
in_parts (Ok found) = Some (map part_of found)
in_parts (Err bad) = None

one_more : (some other : Result (List Box) Bad) (box second : Box) → part_of box ≡ part_of second → in_parts some ≡ in_parts other
    → in_parts (some >>= λ found. Ok (box ∷ found)) ≡ in_parts (other >>= λ found. Ok (second ∷ found))
one_more (Ok found) (Ok others) box second e q = let same : map part_of found ≡ map part_of others = cc in rw (e, same) refl
one_more (Ok found) (Err bad) box second e q = absurd cc
one_more (Err bad) (Ok others) box second e q = absurd cc
one_more (Err bad) (Err other) box second e q = refl

walk-anywhere : (most : ℕ) (place other : ℕ) (text : List ℕ) → in_parts (walk most false place text) ≡ in_parts (walk most false other text)
unfolding walk
walk-anywhere zero place other text = refl
walk-anywhere (suc most) place other [] = refl
walk-anywhere (suc most) place other (byte ∷ bytes) = by (head_at false (byte ∷ bytes)) (λ head. walk-anywhere most (place + head.len) (other + head.len) (drop head.len (byte ∷ bytes)))
  where
    by : (found : Result TopHead Code)
        → ((head : TopHead) → in_parts (walk most false (place + head.len) (drop head.len (byte ∷ bytes))) ≡ in_parts (walk most false (other + head.len) (drop head.len (byte ∷ bytes))))
        → in_parts (placed place found >>= λ head. walk most false (place + head.len) (drop head.len (byte ∷ bytes)) >>= λ found. Ok (front_box head place (byte ∷ bytes) ∷ found))
        ≡ in_parts (placed other found >>= λ head. walk most false (other + head.len) (drop head.len (byte ∷ bytes)) >>= λ found. Ok (front_box head other (byte ∷ bytes) ∷ found))
    by (Ok head) same = one_more _ _ (front_box head place (byte ∷ bytes)) (front_box head other (byte ∷ bytes)) refl (same head)
    by (Err code) same = refl

parts_are : (r : Result (List Box) Bad) (found : List Box) → in_parts r ≡ Some (map part_of found) → (r >>= λ boxes. Ok (map part_of boxes)) ≡ Ok (map part_of found)
parts_are (Ok boxes) found e = cc
parts_are (Err bad) found e = absurd cc

pub parts_of-anywhere : (place : ℕ) (text : List ℕ) (found : List Box) → boxes false place text ≡ Ok found → parts_of text ≡ Ok (map part_of found)
parts_of-anywhere place text found e = parts_are (boxes false 0 text) found (walk-anywhere (length text) 0 place text ∙ ap in_parts e)
