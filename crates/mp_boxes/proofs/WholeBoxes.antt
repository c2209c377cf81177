-- Each box of a container is whole on its own.
use Rattle.std.proofs.Common.{◌≡◌, ℕ, ◌+◌, ◌≤◌, false, List, [], ◌++◌, ◌∷◌, length, take, drop, map, Ok, refl, sym, ap, subst, ◌∙◌, append_assoc, arith, rules, slice_range, Fits, w8, get_or}
use Rattle.std.specs.List.{AllByRecursion, flat_map}
use Rattle.std.proofs.lemmas.Bool.{false≢true}
use Rattle.std.proofs.lemmas.List.{append-nil, length-append, get_or-drop, same_lists, places, take_all}
use Rattle.mp_boxes.specs.declared.head.TopHead.{TopHead}
use Rattle.mp_boxes.specs.Header.{IsHeader, IsAllowed, Spelling}
use Rattle.mp_boxes.specs.Header.Spelling.{Short, Long, Open}
use Rattle.mp_boxes.specs.Head.{IsWhole, head_at}
use Rattle.mp_boxes.specs.Boxes.{Box, IsBytes, IsCut, IsOnItsOwn, front_box, whole_box}
use Rattle.mp_boxes.proofs.HeadersAreRead.{head_at-written}
use Rattle.mp_boxes.proofs.HeadsWereSpelled.{Reads, head_at-spelled}

allowed_before : (after other : List ℕ) (whole : ℕ) (spelling : Spelling) → IsAllowed false after whole spelling → IsAllowed false other whole spelling
allowed_before after other whole Short a = a
allowed_before after other whole Long a = a
allowed_before after other whole Open a = absurd (false≢true a.0)

-- the header of a box in a container stays one whatever follows
header_before : (kind header after other : List ℕ) (len : ℕ) → IsHeader false kind len after header → IsHeader false kind len other header
header_before kind header after other len h = record { spelling = h.spelling; more = h.more; kind_len = h.kind_len; more_len = h.more_len; allowed = allowed_before after other (length header + len) h.spelling h.allowed; text = h.text }

-- its head, where nothing follows
read_alone : (kind header body after : List ℕ) → IsHeader false kind (length body) after header → head_at false (header ++ body) ≡ Ok (record { kind = kind; head = length header; len = length header + length body })
read_alone kind header body after h =
    ap (λ (t : List ℕ). head_at false (header ++ t)) (sym (append-nil body)) ∙ head_at-written false kind body [] header (header_before kind header after [] (length body) h)

on_its_own : (box : Box) (after : List ℕ) → IsHeader false box.kind (length box.body) after box.header → IsOnItsOwn box
on_its_own box after h = record {
  whole = record { head = record { kind = box.kind; head = length box.header; len = length box.header + length box.body }; read = read_alone box.kind box.header box.body after h; ends = sym (length-append box.header box.body) };
  kind = refl;
  header = refl;
}

pub all_whole : (place : ℕ) (text : List ℕ) (cut : List Box) → IsCut false place text cut [] → AllByRecursion IsOnItsOwn cut
all_whole place text [] c = tt
all_whole place text (box ∷ boxes) c = (on_its_own box c.0 c.1, all_whole (place + length box.header + length box.body) c.0 boxes c.4)

joined : (head len : ℕ) (text : List ℕ) → head ≤ len → take head text ++ drop head (take len text) ≡ take len text
joined head len text le = same_lists _ _ (search (rules, places)) (λ k d q. grind (arith, places))

-- what is read at the front of a text is a whole box
front_whole : (text : List ℕ) (head : TopHead) → IsBytes text → head_at false text ≡ Ok head → IsWhole (take head.len text)
front_whole text head bytes e =
    let r = head_at-spelled false text head bytes e in
    let header = r.header_len in
    let whole = r.whole_len in
    let le : head.head ≤ head.len = omega arith in
    let these : take head.head text ++ drop head.head (take head.len text) ≡ take head.len text = joined head.head head.len text le in
    let len : length (take head.head text ++ drop head.head (take head.len text)) ≡ length (take head.head text) + length (drop head.head (take head.len text)) = length-append _ _ in
    subst IsWhole these (record {
      head = record { kind = head.kind; head = length (take head.head text); len = length (take head.head text) + length (drop head.head (take head.len text)) };
      read = read_alone head.kind (take head.head text) (drop head.head (take head.len text)) (drop head.len text) r.spelled;
      ends = sym len;
    })

-- the same at a place
pub whole_at : (at : ℕ) (bytes : List ℕ) (head : TopHead) → ((i : ℕ) → Fits w8 (get_or bytes i 0)) → head_at false (drop at bytes) ≡ Ok head → IsWhole (slice_range bytes at (at + head.len))
whole_at at bytes head fits e =
    let is_bytes : IsBytes (drop at bytes) = λ i. rw get_or-drop (omega (arith, fits (at + i))) in
    subst (λ (n : ℕ). IsWhole (take n (drop at bytes))) (omega arith) (front_whole (drop at bytes) head is_bytes e)

front_is : (text : List ℕ) (head : TopHead) → head.len ≡ length text → Reads false text head → take head.head text ++ drop head.head (take head.len text) ≡ text
front_is text head ends r =
    let header = r.header_len in
    let whole = r.whole_len in
    joined head.head head.len text (omega arith) ∙ take_all head.len text (omega (arith, ends))

-- whole boxes one after another are a container
pub joined_cut : (place : ℕ) (texts : List (List ℕ)) → AllByRecursion IsBytes texts → AllByRecursion IsWhole texts → (cut : List Box) × IsCut false place (flat_map (λ text. text) texts) cut [] × (map whole_box cut ≡ texts)
joined_cut place [] bytes whole = ([], refl, refl)
joined_cut place (text ∷ texts) bytes whole =
    let head = whole.0.head in
    let r = head_at-spelled false text head bytes.0 whole.0.read in
    let header = take head.head text in
    let body = drop head.head (take head.len text) in
    let ends = whole.0.ends in
    let text_is : header ++ body ≡ text = front_is text head whole.0.ends r in
    let others = joined_cut (place + length header + length body) texts bytes.1 whole.1 in
    let rest = flat_map (λ (t : List ℕ). t) texts in (
      front_box head place text ∷ others.0,
      (rest, header_before head.kind header (drop head.len text) rest (length body) r.spelled, ap (λ (t : List ℕ). t ++ rest) (sym text_is) ∙ append_assoc header body rest, refl, others.1),
      rw (text_is, others.2) refl,
    )
