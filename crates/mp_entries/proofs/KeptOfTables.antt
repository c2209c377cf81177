-- What is kept of entries are entries, and not too many.
use Rattle.std.proofs.Common.{◌≡◌, ℕ, ◌+◌, ◌<◌, ◌≤◌, Bool, true, false, not, nat_lt, ◌||◌, List, [], ◌∷◌, length, drop, Option, Some, None, Result, Ok, Err, refl, ap, subst, ◌∙◌, arith}
use Rattle.std.specs.Prelude.{◌==◌}
use Rattle.std.proofs.lemmas.Bool.{ltb-false}
use Rattle.mp_ports.specs.declared.code.Code.{Code}
use Rattle.mp_ports.specs.declared.code.Code.TheVariants.{EntryLimit, TableLength}
use Rattle.mp_ports.specs.declared.fault.Bad.{Bad}
use Rattle.mp_ports.specs.Checks.{fault_at, first_code, first_some, placed, unless, ◌>>=◌}
use Rattle.mp_boxes.specs.declared.head.TopHead.{TopHead}
use Rattle.mp_boxes.specs.Boxes.{Box, IsBytes, boxes}
use Rattle.mp_boxes.specs.Counted.{counted_fault, number_fault, numbered_fault}
use Rattle.mp_boxes.specs.FullBox.{first_row, row_count, table_fault}
use Rattle.mp_boxes.specs.Head.{IsWhole, head_at}
use Rattle.mp_entries.specs.Description.{entries_in, kept_entries, least_entry, most_entries, stsd_of}
use Rattle.mp_entries.specs.Entry.{IsEntry}
use Rattle.mp_entries.specs.Kept.{entry_fault, kept_entry, with_first_reference}
use Rattle.mp_entries.specs.Whole.{HeadStays}
use Rattle.mp_entries.proofs.EntriesInOrder.{kept_len}
use Rattle.mp_entries.proofs.Keeping.{kept_is_entry}

pub each_is : HeadStays → (base : ℕ) (bytes : List ℕ) (local : List Bool) (kept : List ℕ) → IsBytes bytes → IsWhole bytes → kept_entry base bytes local ≡ Ok kept → IsEntry kept
each_is stays base bytes local kept all whole e =
    let head = whole.head in
    let read = whole.read in
    by head read whole.ends (entry_fault head.kind head.head bytes local) refl (rw read at e)
  where
    by : (head : TopHead) → head_at false bytes ≡ Ok head → head.len ≡ length bytes → (fault : Option Code) → entry_fault head.kind head.head bytes local ≡ fault
        → placed base (unless fault (with_first_reference head.head bytes)) ≡ Ok kept → IsEntry kept
    by head read ends None fine same =
        let is : with_first_reference head.head bytes ≡ kept = cc in
        subst IsEntry is (kept_is_entry bytes local head all read ends fine stays)
    by head read ends (Some code) fine same = absurd cc

-- none of three checks fails where something is read behind them
passed : {A B : Type 0} (a b c : Option Bad) (value : A) (next : A → Result B Bad) (kept : B) → (unless (first_some (a ∷ b ∷ c ∷ [])) value >>= next) ≡ Ok kept → (b ≡ None) × (c ≡ None) × (next value ≡ Ok kept)
passed None None None value next kept e = (refl, refl, e)
passed None None (Some bad) value next kept e = absurd cc
passed None (Some bad) c value next kept e = absurd cc
passed (Some bad) b c value next kept e = absurd cc

limit_is : (test : Bool) → fault_at 0 (first_code ((test, EntryLimit) ∷ [])) ≡ None → test ≡ false
limit_is true e = absurd cc
limit_is false e = refl

number_is : (place : ℕ) (short same : Bool) → fault_at place (first_code ((short || not same, TableLength) ∷ [])) ≡ None → same ≡ true
number_is place true same e = absurd cc
number_is place false true e = refl
number_is place false false e = absurd cc

same_count : (a b : ℕ) → (a == b) ≡ true → a ≡ b
same_count a b e = grind arith

-- as many are kept as the number in front says
counted_kept : (count least place base : ℕ) (local : List Bool) (text : List ℕ) (kept : List (List ℕ)) → counted_fault count least place base text ≡ None → entries_in base local text ≡ Ok kept → length kept ≡ count
counted_kept count least place base local text kept fine e = by (boxes false base text) refl
  where
    by : (r : Result (List Box) Bad) → boxes false base text ≡ r → length kept ≡ count
    by (Ok children) read =
        let none : number_fault count least place children ≡ None = rw read at fine in
        let all : kept_entries local children ≡ Ok kept = rw read at e in
        kept_len local children kept all ∙ same_count (length children) count (number_is place _ (length children == count) none)
    by (Err bad) read = let refused : Err bad ≡ Ok kept = rw read at e in absurd cc

pub few_read : (place base : ℕ) (local : List Bool) (body : List ℕ) (kept : List (List ℕ)) → stsd_of place base local body ≡ Ok kept → length kept ≤ most_entries
unfolding stsd_of
few_read place base local body kept e =
    let limit = fault_at 0 (first_code ((nat_lt most_entries (row_count body), EntryLimit) ∷ [])) in
    let each = passed (fault_at place (table_fault 0 0 body)) limit (numbered_fault least_entry place base body) (drop first_row body) (entries_in (base + first_row) local) kept e in
    let number = counted_kept (row_count body) least_entry place (base + first_row) local (drop first_row body) kept each.1 each.2 in
    let few = ltb-false most_entries (row_count body) (limit_is _ each.0) in
    omega (arith, number, few)
