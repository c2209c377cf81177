-- Boxes that are written one after another are read as just these boxes.
use Rattle.std.proofs.Common.{◌≡◌, ℕ, ◌+◌, ◌^◌, ◌<◌, Bool, List, [], ◌∷◌, ◌++◌, length, Ok, refl, sym, ap, subst, ◌∙◌, append_assoc, arith}
use Rattle.std.specs.List.{AllByRecursion}
use Rattle.std.specs.Int.{w32, to_be_bytes}
use Rattle.std.proofs.lemmas.List.{append-nil, length-append}
use Rattle.mp_boxes.specs.Header.{Short, IsHeader}
use Rattle.mp_boxes.specs.Boxes.{Box, IsCut, boxes}
use Rattle.mp_boxes.specs.Field.{Part, box_bytes, boxes_bytes}
use Rattle.mp_boxes.specs.Parts.{HasCompactType, listed}
use Rattle.mp_boxes.proofs.CutInOneWay.{walk-cut}
use Rattle.mp_boxes.proofs.Lengths.{box_bytes-len}

header : Part → List ℕ
header part = to_be_bytes w32 (8 + length part.body) ++ part.kind

header-len : (part : Part) → HasCompactType part → length (header part) ≡ 8
unfolding header
header-len part k = let four = k.four in omega (arith, length-append (to_be_bytes w32 (8 + length part.body)) part.kind)

is_header : (top : Bool) (after : List ℕ) (part : Part) → HasCompactType part → 8 + length part.body < 2 ^ 32 → IsHeader top part.kind (length part.body) after (header part)
unfolding header
is_header top after part k short = record {
  spelling = Short;
  more = [];
  kind_len = k.four;
  more_len = rw k.plain refl;
  allowed = omega (arith, header-len part k);
  text = ap (λ (n : ℕ). to_be_bytes w32 n ++ part.kind) (omega arith) ∙ sym (append-nil _);
}

-- parts in front of a text are cut off as just these boxes
pub parts-cut : (top : Bool) (place : ℕ) (parts : List Part) (after : List ℕ) (more : List Box) → AllByRecursion HasCompactType parts → length (boxes_bytes parts) < 2 ^ 32
    → IsCut top (place + length (boxes_bytes parts)) after more [] → IsCut top place (boxes_bytes parts ++ after) (listed place parts ++ more) []
unfolding header box_bytes boxes_bytes
parts-cut top place [] after more kinds lt c = subst (λ (k : ℕ). IsCut top k after more []) (omega arith) c
parts-cut top place (part ∷ parts) after more kinds lt c =
    let len = box_bytes-len part in
    let four = kinds.0.four in
    let all : length (box_bytes part ++ boxes_bytes parts) ≡ (8 + length part.body) + length (boxes_bytes parts) = omega (arith, length-append (box_bytes part) (boxes_bytes parts)) in
    let later : IsCut top (place + (8 + length part.body) + length (boxes_bytes parts)) after more [] = subst (λ (k : ℕ). IsCut top k after more []) (omega arith) c in (
      boxes_bytes parts ++ after,
      is_header top (boxes_bytes parts ++ after) part kinds.0 (omega arith),
      append_assoc (header part ++ part.body) (boxes_bytes parts) after ∙ append_assoc (header part) part.body (boxes_bytes parts ++ after),
      refl,
      subst (λ (k : ℕ). IsCut top k (boxes_bytes parts ++ after) (listed (place + (8 + length part.body)) parts ++ more) []) (omega (arith, header-len part kinds.0))
          (parts-cut top (place + (8 + length part.body)) parts after more kinds.1 (omega arith) later),
    )

-- parts are read as they were written
pub parts-read : (top : Bool) (place : ℕ) (parts : List Part) → AllByRecursion HasCompactType parts → length (boxes_bytes parts) < 2 ^ 32 → boxes top place (boxes_bytes parts) ≡ Ok (listed place parts)
parts-read top place parts kinds lt =
    let cut : IsCut top place (boxes_bytes parts ++ []) (listed place parts ++ []) [] = parts-cut top place parts [] [] kinds lt refl in
    let text : IsCut top place (boxes_bytes parts) (listed place parts ++ []) [] = subst (λ (t : List ℕ). IsCut top place t (listed place parts ++ []) []) (append-nil (boxes_bytes parts)) cut in
    walk-cut (length (boxes_bytes parts)) top place (boxes_bytes parts) (listed place parts)
    (subst (λ (bs : List Box). IsCut top place (boxes_bytes parts) bs []) (append-nil (listed place parts)) text) (omega arith)
