-- Handlers, user data and sample entries that are read.
use Rattle.std.proofs.Common.{◌≡◌, ◌≢◌, ℕ, zero, suc, ◌+◌, Bool, true, false, List, [], ◌∷◌, ◌++◌, length, take, drop, Option, Some, None, Result, Ok, Err, inl, inr, refl, subst, ◌∙◌, arith}
use Rattle.std.specs.Prelude.{codes}
use Rattle.std.specs.Int.{w16, to_be_bytes}
use Rattle.std.specs.List.{AllByRecursion}
use Rattle.std.specs.Str.{bytes_eq}
use Rattle.std.proofs.lemmas.Slice.Eq.{bytes_eq-Decides}
use Rattle.mp_ports.specs.declared.code.Code.{Code}
use Rattle.mp_ports.specs.declared.fault.Bad.{Bad}
use Rattle.mp_ports.specs.Checks.{placed, unless, ◌>>=◌}
use Rattle.mp_boxes.specs.declared.head.TopHead.{TopHead}
use Rattle.mp_boxes.specs.Boxes.{Box, IsBytes, IsOnItsOwn, body_place, boxes, whole_box}
use Rattle.mp_boxes.specs.Child.{of_kind}
use Rattle.mp_boxes.specs.FullBox.{first_row}
use Rattle.mp_boxes.specs.Number.{kind_at}
use Rattle.mp_boxes.specs.Reading.{value_or}
use Rattle.mp_boxes.specs.Laws.{BoxesAreRead, BoxesAreWhole}
use Rattle.mp_headers.specs.Handler.{IsHandler, handler_of, hdlr_fault, hdlr_of}
use Rattle.mp_entries.specs.Description.{KeptAreEntries, description_fault, kept_entries, stsd_of}
use Rattle.mp_entries.specs.Kept.{entry_fault, kept_entry, with_first_reference}
use Rattle.mp_movie.specs.Children.{children, first_whole, user_data}
use Rattle.mp_movie.specs.Entries.{entries_of}
use Rattle.mp_movie.specs.Readings.{fault_of}
use Rattle.mp_movie.specs.WellFormed.{IsEntryBox, IsUserData, IsUserDataBox}
use Rattle.mp_read.proofs.BytesStay.{dropped, joined, taken}
use Rattle.mp_read.proofs.ByteBoxes.{AreBytes, walked_are}
use Rattle.mp_read.proofs.Ranges.{bind_then}

-- ---- handlers

kind_len : (xs : List ℕ) (at : ℕ) → length (kind_at xs at) ≡ 4
unfolding kind_at
kind_len xs at = refl

not_hint : (handler : List ℕ) → bytes_eq handler (codes "hint") ≡ false → handler ≢ codes "hint"
not_hint handler other same = let is = (bytes_eq-Decides handler (codes "hint")).1 same in absurd cc

hint_fault : (body : List ℕ) → hdlr_fault body ≡ None → bytes_eq (handler_of body) (codes "hint") ≡ false
hint_fault body e = grind (arith, e)

no_fault : {A : Type 0} (place : ℕ) (fault : Option Code) (value : A) → fault_of (placed place (unless fault value)) ≡ None → fault ≡ None
no_fault place None value e = refl
no_fault place (Some code) value e = absurd cc

pub handler_is : (place : ℕ) (body : List ℕ) → fault_of (hdlr_of place body) ≡ None → IsHandler (handler_of body)
handler_is place body e = record { four = kind_len body _; not_hint = not_hint (handler_of body) (hint_fault body (no_fault place (hdlr_fault body) (handler_of body) e)) }

-- ---- whole boxes

-- a box of bytes that is whole on its own
record IsWholeBox (box : Box) : Type 0 where
  own : IsOnItsOwn box
  bytes : AreBytes box

both : (xs : List Box) → AllByRecursion IsOnItsOwn xs → AllByRecursion AreBytes xs → AllByRecursion IsWholeBox xs
both [] own bytes = tt
both (x ∷ xs) own bytes = (record { own = own.0; bytes = bytes.0 }, both xs own.1 bytes.1)

cut_whole : BoxesAreRead → BoxesAreWhole → (place : ℕ) (text : List ℕ) → IsBytes text → AllByRecursion IsWholeBox (value_or [] (boxes false place text))
cut_whole read whole place text bytes = by (boxes false place text) refl (walked_are false place text bytes)
  where
    by : (r : Result (List Box) Bad) → boxes false place text ≡ r → AllByRecursion AreBytes (value_or [] r) → AllByRecursion IsWholeBox (value_or [] r)
    by (Ok cut) e are = both cut (whole.alone place text cut (read.spelled false place text cut bytes e)) are
    by (Err bad) e are = tt

whole_bytes : (box : Box) → IsWholeBox box → IsBytes (whole_box box)
whole_bytes box h = joined box.header box.body h.bytes.header h.bytes.body

-- ---- user data

data_box : (box : Box) → bytes_eq box.kind (codes "udta") ≡ true → IsWholeBox box → IsUserDataBox (whole_box box)
data_box box kind h = record {
  head = h.own.whole.head;
  read = h.own.whole.read;
  ends = h.own.whole.ends;
  kind = h.own.kind ∙ (bytes_eq-Decides box.kind (codes "udta")).0 kind;
  are_bytes = whole_bytes box h;
}

first_is : (cut : List Box) → AllByRecursion IsWholeBox cut → IsUserData (first_whole (of_kind (codes "udta") cut))
first_is [] all = inl refl
first_is (box ∷ cut) all = by (bytes_eq box.kind (codes "udta")) refl (first_is cut all.1)
  where
    by : (b : Bool) → bytes_eq box.kind (codes "udta") ≡ b → IsUserData (first_whole (of_kind (codes "udta") cut)) → IsUserData (first_whole (of_kind (codes "udta") (box ∷ cut)))
    by true e others = rw e (inr (data_box box e all.0))
    by false e others = rw e others

pub user_data_is : BoxesAreRead → BoxesAreWhole → (box : Box) → IsBytes box.body → IsUserData (user_data box)
unfolding user_data children
user_data_is read whole box bytes = first_is (value_or [] (boxes false (body_place box) box.body)) (cut_whole read whole (body_place box) box.body bytes)

-- ---- sample entries

reference_bytes : IsBytes (to_be_bytes w16 1)
reference_bytes zero = omega arith
reference_bytes (suc zero) = omega arith
reference_bytes (suc (suc i)) = omega arith

entry_is : KeptAreEntries → (box : Box) (local : List Bool) (kept : List ℕ) → IsWholeBox box → kept_entry box.place (whole_box box) local ≡ Ok kept → IsEntryBox kept
entry_is law box local kept h e =
    let head = h.own.whole.head in
    let bytes = whole_bytes box h in
    let read = h.own.whole.read in
    record {
      entry = law.each box.place (whole_box box) local kept bytes h.own.whole e;
      are_bytes = by head bytes (entry_fault head.kind head.head (whole_box box) local) (rw read at e);
    }
  where
    by : (head : TopHead) → IsBytes (whole_box box) → (fault : Option Code) → placed box.place (unless fault (with_first_reference head.head (whole_box box))) ≡ Ok kept → IsBytes kept
    by head bytes None same =
        let text = whole_box box in
        let is : with_first_reference head.head text ≡ kept = cc in
        subst IsBytes is (joined (take (head.head + 6) text ++ to_be_bytes w16 1) (drop (head.head + 8) text) (joined (take (head.head + 6) text) (to_be_bytes w16 1) (taken (head.head + 6) text bytes) reference_bytes) (dropped (head.head + 8) text bytes))
    by head bytes (Some code) same = absurd cc

got : {A : Type 0} (x y : A) → let f : A → Result A Bad = λ v. Ok v in f x ≡ f y → x ≡ y
got x y e = cc

kept_are : KeptAreEntries → (local : List Bool) (cut : List Box) (kept : List (List ℕ)) → AllByRecursion IsWholeBox cut → kept_entries local cut ≡ Ok kept → AllByRecursion IsEntryBox kept
kept_are law local [] kept all e = subst (AllByRecursion IsEntryBox) (got [] kept e) tt
kept_are law local (box ∷ cut) kept all e =
    bind_then (λ first. kept_entry box.place (whole_box box) local ≡ Ok first) (AllByRecursion IsEntryBox) (kept_entry box.place (whole_box box) local) (λ first. kept_entries local cut >>= λ others. Ok (first ∷ others)) (λ first q. q)
    (λ first q. bind_then (λ others. kept_entries local cut ≡ Ok others) (AllByRecursion IsEntryBox) (kept_entries local cut) (λ others. Ok (first ∷ others)) (λ others q. q)
    (λ others r all_kept is. subst (AllByRecursion IsEntryBox) (got (first ∷ others) all_kept is) (entry_is law box local first all.0 q, kept_are law local cut others all.1 r))) kept e

read_are : BoxesAreRead → BoxesAreWhole → KeptAreEntries → (place base : ℕ) (local : List Bool) (body : List ℕ) (kept : List (List ℕ)) → IsBytes body → stsd_of place base local body ≡ Ok kept → AllByRecursion IsEntryBox kept
unfolding stsd_of
read_are read alone law place base local body kept bytes e = by (description_fault place base body) (boxes false (base + first_row) (drop first_row body)) refl e
  where
    by : (fault : Option Bad) (r : Result (List Box) Bad) → boxes false (base + first_row) (drop first_row body) ≡ r → (unless fault (drop first_row body) >>= λ text. boxes false (base + first_row) text >>= kept_entries local) ≡ Ok kept → AllByRecursion IsEntryBox kept
    by None (Ok cut) q same =
        let whole = cut_whole read alone (base + first_row) (drop first_row body) (dropped first_row body bytes) in
        let all : kept_entries local cut ≡ Ok kept = rw q at same in
        kept_are law local cut kept (rw q at whole) all
    by None (Err bad) q same = let none : Err bad ≡ Ok kept = rw q at same in absurd cc
    by (Some bad) r q same = absurd cc

pub entries_are : BoxesAreRead → BoxesAreWhole → KeptAreEntries → (local : List Bool) (stsd : Box) → IsBytes stsd.body → AllByRecursion IsEntryBox (entries_of local stsd)
unfolding entries_of
entries_are read alone law local stsd bytes = by (stsd_of stsd.place (body_place stsd) local stsd.body) refl
  where
    by : (r : Result (List (List ℕ)) Bad) → stsd_of stsd.place (body_place stsd) local stsd.body ≡ r → AllByRecursion IsEntryBox (value_or [] r)
    by (Ok kept) e = read_are read alone law stsd.place (body_place stsd) local stsd.body kept bytes e
    by (Err bad) e = tt
