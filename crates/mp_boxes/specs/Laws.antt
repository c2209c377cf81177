-- The laws of numbers, heads and boxes (ISO/IEC 14496-12, 4.2), each as what the call of its name ensures.
use Rattle.std.specs.Prelude.{◌≡◌, ℕ, ◌+◌, ◌-◌, ◌<◌, ◌^◌, Bool, false, List, [], ◌++◌, length, map, take, drop, min, Ok, Err}
use Rattle.std.specs.Int.{w16, w32, w64, to_be_bytes}
use Rattle.std.specs.List.{AllByRecursion, flat_map}
use Rattle.mp_ports.specs.declared.fault.Bad.{Bad}
use Rattle.mp_boxes.specs.declared.head.TopHead.{TopHead}
use Rattle.mp_boxes.specs.Number.{u16_at, u32_at, u64_at, kind_at}
use Rattle.mp_boxes.specs.Header.{IsHeader}
use Rattle.mp_boxes.specs.Head.{IsWhole, head_at, head_from}
use Rattle.mp_boxes.specs.Boxes.{IsBytes, Box, IsCut, IsFirstFault, IsOnItsOwn, boxes, whole_box}

-- a number is read where it was written, and so is a type
pub record NumbersAreRead : Type 0 where
  pub two : (front rest : List ℕ) (n : ℕ) → n < 2 ^ 16 → u16_at (front ++ (to_be_bytes w16 n ++ rest)) (length front) ≡ n
  pub four : (front rest : List ℕ) (n : ℕ) → n < 2 ^ 32 → u32_at (front ++ (to_be_bytes w32 n ++ rest)) (length front) ≡ n
  pub eight : (front rest : List ℕ) (n : ℕ) → n < 2 ^ 64 → u64_at (front ++ (to_be_bytes w64 n ++ rest)) (length front) ≡ n
  pub kind : (front rest kind : List ℕ) → length kind ≡ 4 → kind_at (front ++ (kind ++ rest)) (length front) ≡ kind

-- each spelling of a header is read, what is read is spelled so, and the first 24 bytes tell it
pub record HeadsAreRead : Type 0 where
  pub read : (top : Bool) (kind header body after : List ℕ) → IsHeader top kind (length body) after header
      → head_at top (header ++ (body ++ after)) ≡ Ok (record { kind = kind; head = length header; len = length header + length body })
  pub spelled : (top : Bool) (text : List ℕ) (head : TopHead) → IsBytes text → head_at top text ≡ Ok head
      → IsHeader top head.kind (head.len - head.head) (drop head.len text) (take head.head text)
  pub told : (top : Bool) (few : ℕ) (text : List ℕ) → few ≡ min (length text) 24 → head_from top (take few text) (length text) ≡ head_at top text

-- a text is cut into boxes in at most one way; what is cut so is read so, and where some box is faulty, the first such is answered
pub record BoxesAreRead : Type 0 where
  pub one_way : (top : Bool) (place : ℕ) (text : List ℕ) (some other : List Box) → IsCut top place text some [] → IsCut top place text other [] → some ≡ other
  pub found : (top : Bool) (place : ℕ) (text : List ℕ) (cut : List Box) → IsCut top place text cut [] → boxes top place text ≡ Ok cut
  pub spelled : (top : Bool) (place : ℕ) (text : List ℕ) (cut : List Box) → IsBytes text → boxes top place text ≡ Ok cut → IsCut top place text cut []
  pub refused : (top : Bool) (place : ℕ) (text : List ℕ) (bad : Bad) → IsFirstFault top place text bad → boxes top place text ≡ Err bad
  pub first : (top : Bool) (place : ℕ) (text : List ℕ) (bad : Bad) → IsBytes text → boxes top place text ≡ Err bad → IsFirstFault top place text bad

-- each box of a container is whole on its own, and whole boxes one after another are a container
pub record BoxesAreWhole : Type 0 where
  pub alone : (place : ℕ) (text : List ℕ) (cut : List Box) → IsCut false place text cut [] → AllByRecursion IsOnItsOwn cut
  pub joined : (place : ℕ) (texts : List (List ℕ)) → AllByRecursion IsBytes texts → AllByRecursion IsWhole texts
      → (cut : List Box) × IsCut false place (flat_map (λ text. text) texts) cut [] × (map whole_box cut ≡ texts)
