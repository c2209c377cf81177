-- What is kept and what is written are sample entries.
use Rattle.std.proofs.Common.{◌≡◌, ℕ, ◌+◌, ◌-◌, ◌^◌, ◌<◌, ◌≤◌, Bool, false, List, [], ◌∷◌, ◌++◌, length, get_or, take, drop, None, Result, Ok, Err, IfOk, refl, sym, ap, subst, ◌∙◌, append_assoc, arith}
use Rattle.std.specs.Prelude.{codes}
use Rattle.std.specs.Int.{w32, to_be_bytes}
use Rattle.std.specs.Str.{bytes_eq}
use Rattle.std.specs.declared.alloc.Global.{Global}
use Rattle.std.specs.declared.vec.Vec.{Vec}
use Rattle.std.proofs.lemmas.List.{append-nil, drop_all, length-append, length-take, length-drop, get_or-append-add}
use Rattle.std.proofs.Math.Seq.{take-add}
use Rattle.mp_boxes.specs.declared.head.TopHead.{TopHead}
use Rattle.mp_boxes.specs.Boxes.{IsBytes}
use Rattle.mp_boxes.specs.Number.{u16_at}
use Rattle.mp_boxes.specs.Header.{Short, IsHeader}
use Rattle.mp_boxes.specs.Head.{head_at}
use Rattle.mp_boxes.specs.Laws.{HeadsAreRead}
use Rattle.mp_boxes.specs.Field.{Part, box_bytes}
use Rattle.mp_boxes.specs.Table.{BoxesHaveLengths}
use Rattle.mp_entries.specs.Entry.{IsEntry, is_protected, reference}
use Rattle.mp_entries.specs.Kept.{entry_fault, with_first_reference}
use Rattle.mp_entries.specs.Esds.{EsdsRecord, mp4a, mp4v}
use Rattle.mp_entries.specs.Whole.{HeadStays, WrittenIsWhole}
use Rattle.mp_entries.specs.Avc1.{avcc, avc1_entry, most_configuration}

same_head : (a b : TopHead) → a.kind ≡ b.kind → a.head ≡ b.head → a.len ≡ b.len → a ≡ b
same_head a b p q r = λ i. record { kind = p i; head = q i; len = r i }

pub head_stays : HeadsAreRead → HeadStays
head_stays law text body head bytes read ends len =
    let header = take head.head text in
    let size : head.len - head.head ≡ length body = omega arith in
    let none : drop head.len text ≡ [] = drop_all head.len text (omega arith) in
    let is : IsHeader false head.kind (length body) [] header = rw (size, none) at (law.spelled false text head bytes read) in
    let header_len : length header ≡ head.head = omega (arith, length-take head.head text) in
    let again = law.read false head.kind header body [] is in
    ap (λ (t : List ℕ). head_at false (header ++ t)) (sym (append-nil body))
    ∙ (again ∙ ap (λ (h : TopHead). Ok h) (same_head _ head refl header_len (omega arith)))

pub written_is_whole : HeadsAreRead → WrittenIsWhole
unfolding box_bytes
written_is_whole law part plain small =
    let header = to_be_bytes w32 (8 + length part.body) ++ part.kind in
    let size : length header ≡ 8 = let four = plain.four in omega (arith, length-append (to_be_bytes w32 (8 + length part.body)) part.kind) in
    let is : IsHeader false part.kind (length part.body) [] header = record {
      spelling = Short;
      more = [];
      kind_len = plain.four;
      more_len = let not_uuid = plain.plain in rw not_uuid refl;
      allowed = omega arith;
      text = sym (append-nil header);
    } in
    ap (λ (t : List ℕ). head_at false (header ++ t)) (sym (append-nil part.body))
    ∙ (law.read false part.kind header part.body [] is ∙ ap (λ (h : TopHead). Ok h) (same_head _ _ refl size (omega arith)))

entry_room : (bytes : List ℕ) (local : List Bool) (head : TopHead) → entry_fault head.kind head.head bytes local ≡ None → head.head + 8 ≤ length bytes
entry_room bytes local head fine = grind (arith, fine)

entry_plain : (bytes : List ℕ) (local : List Bool) (head : TopHead) → entry_fault head.kind head.head bytes local ≡ None → is_protected head.kind ≡ false
entry_plain bytes local head fine = grind (arith, fine)

-- the body of the entry that is kept
kept_body : ℕ → List ℕ → List ℕ
kept_body from bytes = take 6 (drop from bytes) ++ (0 ∷ 1 ∷ drop (from + 8) bytes)

kept_is : (bytes : List ℕ) (from : ℕ) → with_first_reference from bytes ≡ take from bytes ++ kept_body from bytes
unfolding kept_body
kept_is bytes from =
    append_assoc (take (from + 6) bytes) (0 ∷ 1 ∷ []) (drop (from + 8) bytes)
    ∙ rw (take-add from 6 bytes) (append_assoc (take from bytes) (take 6 (drop from bytes)) (0 ∷ 1 ∷ drop (from + 8) bytes))

length-kept_body : (bytes : List ℕ) (from : ℕ) → from + 8 ≤ length bytes → from + length (kept_body from bytes) ≡ length bytes
unfolding kept_body
length-kept_body bytes from le =
    omega
    (arith, length-append (take 6 (drop from bytes)) (0 ∷ 1 ∷ drop (from + 8) bytes), length-take 6 (drop from bytes), length-drop from bytes, length-drop (from + 8) bytes)

length-kept : (bytes : List ℕ) (from : ℕ) → from + 8 ≤ length bytes → length (with_first_reference from bytes) ≡ length bytes
length-kept bytes from le =
    let body = length-kept_body bytes from le in
    omega (arith, ap length (kept_is bytes from), length-append (take from bytes) (kept_body from bytes), length-take from bytes)

-- a byte behind a part of known length
behind : (front rest : List ℕ) (at i : ℕ) → at ≡ length front + i → get_or (front ++ rest) at 0 ≡ get_or rest i 0
behind front rest at i e = rw e (get_or-append-add front rest i 0)

reference-kept : (bytes : List ℕ) (from : ℕ) → from + 8 ≤ length bytes → reference (with_first_reference from bytes) from ≡ 1
unfolding u16_at
reference-kept bytes from le =
    let front = take (from + 6) bytes in
    let rest = 0 ∷ 1 ∷ drop (from + 8) bytes in
    let len : length front ≡ from + 6 = omega (arith, length-take (from + 6) bytes) in
    rw (append_assoc front (0 ∷ 1 ∷ []) (drop (from + 8) bytes), behind front rest (from + 6) 0 (omega arith), behind front rest (from + 6 + 1) 1 (omega arith)) refl

pub kept_is_entry : (bytes : List ℕ) (local : List Bool) (head : TopHead) → IsBytes bytes → head_at false bytes ≡ Ok head → head.len ≡ length bytes → entry_fault head.kind head.head bytes local ≡ None
    → HeadStays → IsEntry (with_first_reference head.head bytes)
kept_is_entry bytes local head all read ends fine stays =
    let from = head.head in
    let room = entry_room bytes local head fine in
    let len = length-kept bytes from room in
    let again = stays bytes (kept_body from bytes) head all read ends (length-kept_body bytes from room) in
    record {
      head = head;
      read = ap (head_at false) (kept_is bytes from) ∙ again;
      ends = ends ∙ sym len;
      room = omega arith;
      plain = entry_plain bytes local head fine;
      first = reference-kept bytes from room;
    }

part_is_entry : (a b c d : ℕ) (rest : List ℕ) → bytes_eq (a ∷ b ∷ c ∷ d ∷ []) (codes "uuid") ≡ false → is_protected (a ∷ b ∷ c ∷ d ∷ []) ≡ false → WrittenIsWhole
    → 8 + length (0 ∷ 0 ∷ 0 ∷ 0 ∷ 0 ∷ 0 ∷ 0 ∷ 1 ∷ rest) < 2 ^ 32 → IsEntry (box_bytes (record { kind = a ∷ b ∷ c ∷ d ∷ []; body = 0 ∷ 0 ∷ 0 ∷ 0 ∷ 0 ∷ 0 ∷ 0 ∷ 1 ∷ rest }))
unfolding box_bytes u16_at
part_is_entry a b c d rest plain open_ whole small =
    let part : Part = record { kind = a ∷ b ∷ c ∷ d ∷ []; body = 0 ∷ 0 ∷ 0 ∷ 0 ∷ 0 ∷ 0 ∷ 0 ∷ 1 ∷ rest } in
    record {
      head = record { kind = part.kind; head = 8; len = 8 + length part.body };
      read = whole part (record { four = refl; plain = plain }) small;
      ends = omega arith;
      room = omega arith;
      plain = open_;
      first = refl;
    }

-- the entries that are written
pub sound_is_entry : (e : EsdsRecord) → WrittenIsWhole → 8 + length (mp4a e).body < 2 ^ 32 → IsEntry (box_bytes (mp4a e))
sound_is_entry e whole small = part_is_entry 109 112 52 97 _ refl refl whole small

pub picture_is_entry : (e : EsdsRecord) → WrittenIsWhole → 8 + length (mp4v e).body < 2 ^ 32 → IsEntry (box_bytes (mp4v e))
picture_is_entry e whole small = part_is_entry 109 112 52 118 _ refl refl whole small

pub avc1_is_entry : BoxesHaveLengths → WrittenIsWhole → (bytes : List ℕ) (width height : ℕ) → length bytes ≤ most_configuration → IsEntry (box_bytes (avc1_entry bytes width height))
avc1_is_entry law whole bytes width height le = part_is_entry 97 118 99 49 _ refl refl whole (omega (arith, law.all (avcc bytes ∷ []), length-append bytes []))

-- what was written is an entry
pub entry_is : {E : Type 0} → BoxesHaveLengths → (r : Result (Vec ℕ Global) E) (part : Part) → length part.kind ≡ 4 → (8 + length part.body < 2 ^ 32 → IsEntry (box_bytes part)) → IfOk r (λ out. out.items ≡ box_bytes part) → IfOk r (λ out. length out.items ≤ 65668)
    → IfOk r (λ out. IsEntry out.items)
entry_is law (Ok out) part four is text short = subst IsEntry (sym text) (is (omega (arith, ap length text, law.one part, four)))
entry_is law (Err e) part four is text short = tt
