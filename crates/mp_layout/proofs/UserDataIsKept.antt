-- A container of parts, with user data behind them.
use Rattle.std.proofs.Common.{◌≡◌, ℕ, ◌+◌, ◌-◌, ◌^◌, ◌<◌, inl, inr, true, false, List, [], ◌∷◌, ◌++◌, length, map, take, drop, Option, Some, None, Ok, refl, sym, ap, subst, ◌∙◌, append_assoc, arith}
use Rattle.std.specs.Prelude.{codes, filter}
use Rattle.std.specs.Str.{bytes_eq}
use Rattle.std.specs.List.{list_all}
use Rattle.std.proofs.lemmas.List.{append-nil, length-append, length-drop, take-append-drop}
use Rattle.std.proofs.lemmas.List.Elements.{filter-append}
use Rattle.mp_boxes.specs.declared.head.TopHead.{TopHead}
use Rattle.mp_boxes.specs.Head.{head_at}
use Rattle.mp_boxes.specs.Header.{IsHeader, IsAllowed, Spelling, Short, Long, Open}
use Rattle.mp_boxes.specs.Boxes.{IsBytes, Box, body_place, boxes, IsCut, whole_box}
use Rattle.mp_boxes.specs.Child.{of_kind}
use Rattle.mp_boxes.specs.Format.{part_of}
use Rattle.mp_boxes.specs.Field.{Part, boxes_bytes, optional}
use Rattle.mp_boxes.specs.Parts.{listed}
use Rattle.mp_boxes.specs.Table.{BoxesHaveLengths, box_len}
use Rattle.std.proofs.lemmas.List.Sums.{sum_by-append, sum_by-cons}
use Rattle.mp_movie.specs.Children.{children, first_whole, user_data}
use Rattle.mp_movie.specs.WellFormed.{IsUserData}
use Rattle.mp_layout.proofs.Laws.{BoxLaws}
use Rattle.mp_layout.proofs.BoxesAreFound.{HasParts, is_plain, kind-none, listed-parts, with-more, with_more-parts}

-- ---- a whole box

-- inside a container a header says the same, whatever follows its box
anywhere : (kind : List ℕ) (len : ℕ) (after other header : List ℕ) → IsHeader false kind len after header → IsHeader false kind len other header
anywhere kind len after other header h = record {
  spelling = h.spelling;
  more = h.more;
  kind_len = h.kind_len;
  more_len = h.more_len;
  allowed = by h.spelling h.allowed;
  text = h.text;
}
  where
    by : (spelling : Spelling) → IsAllowed false after (length header + len) spelling → IsAllowed false other (length header + len) spelling
    by Short fits = fits
    by Long fits = fits
    by Open open_end = absurd cc

-- the box that a whole text is
abbrev whole : TopHead → ℕ → List ℕ → Box
whole head place bytes = record { kind = head.kind; header = take head.head bytes; body = drop head.head bytes; place = place }

whole-is : (head : TopHead) (place : ℕ) (bytes : List ℕ) → whole_box (whole head place bytes) ≡ bytes
whole-is head place bytes = take-append-drop head.head bytes

whole-cut : BoxLaws → (bytes : List ℕ) (head : TopHead) → IsBytes bytes → head_at false bytes ≡ Ok head → head.len ≡ length bytes → (place : ℕ) (rest : List ℕ) (more : List Box)
    → IsCut false (place + length bytes) rest more [] → IsCut false place (bytes ++ rest) (whole head place bytes ∷ more) []
whole-cut read bytes head are is ends place rest more cut =
    let body_len : length (drop head.head bytes) ≡ head.len - head.head = omega (arith, ends, length-drop head.head bytes) in
    let header : IsHeader false head.kind (length (drop head.head bytes)) rest (take head.head bytes) =
    subst (λ (n : ℕ). IsHeader false head.kind n rest (take head.head bytes)) (sym body_len) (anywhere head.kind (head.len - head.head) (drop head.len bytes) rest (take head.head bytes) (read.heads.spelled false bytes head are is)) in
    let len : place + length bytes ≡ place + length (take head.head bytes) + length (drop head.head bytes) = omega (arith, ap length (take-append-drop head.head bytes), length-append (take head.head bytes) (drop head.head bytes)) in (
      rest,
      header,
      ap (λ (b : List ℕ). b ++ rest) (sym (take-append-drop head.head bytes)) ∙ append_assoc (take head.head bytes) (drop head.head bytes) rest,
      refl,
      subst (λ (n : ℕ). IsCut false n rest more []) len cut,
    )

-- ---- user data

-- a box of user data, where there is one
abbrev pub udta_part : Option (List ℕ) → Option Part
udta_part None = None
udta_part (Some body) = Some (record { kind = codes "udta"; body = body })

-- the boxes that user data are
record AreBoxes (place : ℕ) (udta : List ℕ) : Type 0 where
  pub more : List Box
  pub cut : IsCut false place udta more []
  pub tail : Option (List ℕ)
  pub parts : map part_of more ≡ optional (udta_part tail)
  pub first : first_whole (of_kind (codes "udta") more) ≡ udta

named : (kind body : List ℕ) → kind ≡ codes "udta" → (let part : Part = record { kind = kind; body = body } in part ∷ []) ≡ optional (udta_part (Some body))
named kind body e = ap (λ (k : List ℕ). (let part : Part = record { kind = k; body = body } in part ∷ [])) e

picked : (box : Box) (bytes : List ℕ) → box.kind ≡ codes "udta" → whole_box box ≡ bytes → first_whole (of_kind (codes "udta") (box ∷ [])) ≡ bytes
picked box bytes k e = rw k e

udta-boxes : BoxLaws → (place : ℕ) (udta : List ℕ) → IsUserData udta → AreBoxes place udta
udta-boxes read place udta (inl none) = record { more = []; cut = none; tail = None; parts = refl; first = sym none }
udta-boxes read place udta (inr h) = record {
  more = whole h.head place udta ∷ [];
  cut = subst (λ (t : List ℕ). IsCut false place t (whole h.head place udta ∷ []) []) (append-nil udta) (whole-cut read udta h.head h.are_bytes h.read h.ends place [] [] refl);
  tail = Some (whole h.head place udta).body;
  parts = named h.head.kind (whole h.head place udta).body h.kind;
  first = picked (whole h.head place udta) udta h.kind (whole-is h.head place udta);
}

-- a container with user data behind its parts
pub record HasUserData (box : Box) (parts : List Part) (udta : List ℕ) : Type 0 where
  pub tail : Option (List ℕ)
  pub parts_are : HasParts box (parts ++ optional (udta_part tail))
  pub is : user_data box ≡ udta

user_data-ok : (box : Box) (all front more : List Box) (udta : List ℕ) → boxes false (body_place box) box.body ≡ Ok all → all ≡ front ++ more → of_kind (codes "udta") front ≡ [] → first_whole (of_kind (codes "udta") more) ≡ udta → user_data box ≡ udta
unfolding user_data children
user_data-ok box all front more udta e1 e2 e3 e4 = rw (e1, e2, filter-append (λ (box : Box). bytes_eq box.kind (codes "udta")) front more, e3) e4

pub has-user-data : BoxLaws → (box : Box) (parts : List Part) (udta : List ℕ) → box.body ≡ boxes_bytes parts ++ udta → list_all is_plain parts ≡ true → filter (λ part. bytes_eq part.kind (codes "udta")) parts ≡ []
    → length (boxes_bytes parts) < 2 ^ 32 → IsUserData udta → HasUserData box parts udta
has-user-data read box parts udta body plain none short is =
    let tail = udta-boxes read (body_place box + length (boxes_bytes parts)) udta is in
    let found = with_more-parts read box parts udta tail.more body plain short tail.cut in
    record {
      tail = tail.tail;
      parts_are = subst (HasParts box) (ap (λ (more : List Part). parts ++ more) tail.parts) found;
      is = user_data-ok box _ (listed (body_place box) parts) tail.more udta (with-more read box parts udta tail.more body plain short tail.cut) refl
          (kind-none (listed (body_place box) parts) parts (codes "udta") (listed-parts (body_place box) parts) none) tail.first;
    }

-- ---- lengths

pub nil-len : length (boxes_bytes []) ≡ 0
unfolding boxes_bytes
nil-len = refl

pub length-boxes : BoxesHaveLengths → (part : Part) (parts : List Part) → length part.kind ≡ 4 → length (boxes_bytes (part ∷ parts)) ≡ 8 + length part.body + length (boxes_bytes parts)
length-boxes lengths part parts four = omega (arith, four, lengths.all (part ∷ parts), lengths.all parts, sum_by-cons box_len part parts)

pub boxes-append : BoxesHaveLengths → (parts others : List Part) → length (boxes_bytes (parts ++ others)) ≡ length (boxes_bytes parts) + length (boxes_bytes others)
boxes-append lengths parts others = omega (arith, lengths.all (parts ++ others), lengths.all parts, lengths.all others, sum_by-append box_len parts others)
