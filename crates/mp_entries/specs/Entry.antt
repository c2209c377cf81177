-- What a sample entry is (ISO/IEC 14496-12, 8.5.2).
use Rattle.std.specs.Prelude.{◌≡◌, ℕ, ◌+◌, ◌≤◌, Bool, false, List, [], ◌∷◌, length, Ok, codes}
use Rattle.std.specs.List.{list_any}
use Rattle.std.specs.Str.{bytes_eq}
use Rattle.mp_boxes.specs.declared.head.TopHead.{TopHead}
use Rattle.mp_boxes.specs.Head.{head_at}
use Rattle.mp_boxes.specs.Number.{u16_at}

-- the types of protected entries (8.12)
abbrev pub is_protected : List ℕ → Bool
is_protected kind = list_any (bytes_eq kind) (codes "encv" ∷ codes "enca" ∷ codes "enct" ∷ codes "encs" ∷ [])

-- the data reference index of an entry whose body begins at `from`: behind six reserved bytes
abbrev pub reference : List ℕ → ℕ → ℕ
reference bytes from = u16_at bytes (from + 6)

-- a whole box with at least these eight bytes, not protected, of the first data reference
pub record IsEntry (bytes : List ℕ) : Type 0 where
  pub head : TopHead
  pub read : head_at false bytes ≡ Ok head
  pub ends : head.len ≡ length bytes
  pub room : head.head + 8 ≤ length bytes
  pub plain : is_protected head.kind ≡ false
  pub first : reference bytes head.head ≡ 1
