-- Records that are read one after another, and the fault at which that ends.
use Rattle.std.proofs.Common.{◌≡◌, ◌≢◌, ℕ, pos, zero, suc, ◌+◌, ◌-◌, ◌*◌, ◌^◌, ◌<◌, ◌≤◌, ◌==◌, Bool, false, List, [], ◌∷◌, ◌++◌, length, drop, All, Option, Some, None, IfSome, refl, sym, ap, subst, ◌∙◌, append_assoc, append-nil, length-append, arith, eq-eqb, ne_eqb}
use Rattle.std.proofs.lemmas.List.{drop-drop, length-map, map_push}
use Rattle.std.proofs.lemmas.List.Elements.{All-push}
use Rattle.mp_ports.specs.Checks.{bad_at, fault_at, first_some}
use Rattle.mp_ports.specs.declared.fault.Bad.{Bad}
use Rattle.mp_ports.specs.declared.code.Code.TheVariants.{NhntCut}
use Rattle.mp_columns.specs.declared.columns.TheConstants.{MOST_ITEMS}
use Rattle.nhnt_import.specs.declared.unit.AccessUnit.{AccessUnit}
use Rattle.nhnt_import.specs.Head.{head_len, is_wide}
use Rattle.nhnt_import.specs.Unit.{is_sync, record_count, record_len, unit_fault, unit_of, units, units_in}
use Rattle.nhnt_import.specs.Fault.{cut_fault, end_place, records_fault, units_fault}
use Rattle.nhnt_import.specs.Placed.{IsUnitPiece, piece_of, pieces_of}
use Rattle.mp_movie.specs.Placed.{mark_of}
use Rattle.nhnt_import.specs.Times.{gaps}
use Rattle.nhnt_import.specs.Kept.{AreRead, UnitColumns, columns_so_far, kept_delta, last_decode, offset_of, with_unit}
use Rattle.nhnt_import.proofs.Growing.{columns_grow, last_decode_push, length-gaps}

-- so many records are left, and they are tested from here on
pub record Walked (wide : Bool) (size at before left : ℕ) (bytes : List ℕ) (done : List AccessUnit) : Type 0 where
  pub whole : units_in bytes ≡ done ++ units wide left (drop at bytes)
  pub fault : units_fault (record_len wide) size head_len 0 (units_in bytes) ≡ units_fault (record_len wide) size at before (units wide left (drop at bytes))

-- the walk stands at `at`, behind units that are in the columns
pub record Stands (told : Option (List ℕ)) (wide : Bool) (file size at before left count : ℕ) (columns : UnitColumns) : Type 0 where
  pub done : List AccessUnit
  pub is : columns ≡ columns_so_far file done
  pub number : length done + left ≡ count
  pub place : at + left * record_len wide ≡ head_len + count * record_len wide
  pub last : before ≡ last_decode 0 done
  pub each : All (IsUnitPiece file size) (pieces_of file done)
  pub read : IfSome told (λ bytes. Walked wide size at before left bytes done)

-- what is known of the table
abbrev pub IsTable : Option (List ℕ) → Bool → ℕ → Type 0
IsTable told wide count = IfSome told (λ bytes. (wide ≡ is_wide bytes) × (count ≡ record_count bytes))

one_less : (left len : ℕ) → 0 < left → left * len ≡ len + (left - 1) * len
one_less zero len some = absurd (omega arith)
one_less (suc left) len some = let less : suc left - 1 ≡ left = omega arith in rw less (omega arith)

-- the next record lies in the table
pub record_inside : (at left len end size : ℕ) → 0 < left → at + left * len ≡ end → end ≤ size → at + len ≤ size
record_inside at left len end size some place inside = omega (arith, one_less left len some)

-- nothing is read yet
pub starts : (told : Option (List ℕ)) (wide : Bool) (file size count : ℕ) (columns : UnitColumns) → IsTable told wide count → ((file : ℕ) → columns ≡ columns_so_far file [])
    → Stands told wide file size head_len 0 count count columns
starts told wide file size count columns table empty = record {
  done = [];
  is = empty file;
  number = omega arith;
  place = refl;
  last = refl;
  each = λ k d lt. absurd (omega arith);
  read = all told table;
}
  where
    all : (told : Option (List ℕ)) → IsTable told wide count → IfSome told (λ bytes. Walked wide size head_len 0 count bytes [])
    all None table = tt
    all (Some bytes) table =
        let whole : units_in bytes ≡ units wide count (drop head_len bytes) = rw (table.0, table.1) refl in
        record { whole = whole; fault = ap (units_fault (record_len wide) size head_len 0) whole }

-- the records that are left begin with this one
next_units : (wide : Bool) (left at : ℕ) (bytes : List ℕ) → 0 < left
    → units wide left (drop at bytes) ≡ unit_of wide (drop at bytes) ∷ units wide (left - 1) (drop (at + record_len wide) bytes)
unfolding units
next_units wide zero at bytes some = absurd (omega arith)
next_units wide (suc left) at bytes some =
    let less : suc left - 1 ≡ left = omega arith in
    rw (less, sym (drop-drop (record_len wide) at bytes)) refl

tested : (len size at before : ℕ) (unit : AccessUnit) (rest : List AccessUnit) → fault_at at (unit_fault size before unit) ≡ None
    → units_fault len size at before (unit ∷ rest) ≡ units_fault len size (at + len) unit.decode rest
unfolding units_fault
tested len size at before unit rest none = rw none (alone (units_fault len size (at + len) unit.decode rest))
  where
    alone : (fault : Option Bad) → first_some (fault ∷ []) ≡ fault
    alone None = refl
    alone (Some bad) = refl

failed : (len size at before : ℕ) (unit : AccessUnit) (rest : List AccessUnit) (bad : Bad) → fault_at at (unit_fault size before unit) ≡ Some bad
    → units_fault len size at before (unit ∷ rest) ≡ Some bad
unfolding units_fault
failed len size at before unit rest bad some = rw some refl

first_is : (units cut : Option Bad) (bad : Bad) → units ≡ Some bad → first_some (units ∷ cut ∷ []) ≡ Some bad
first_is units cut bad is = rw is refl

only_cut : (units cut : Option Bad) → units ≡ None → first_some (units ∷ cut ∷ []) ≡ cut
only_cut units None none = rw none refl
only_cut units (Some bad) none = rw none refl

-- a record more
pub goes_on : (told : Option (List ℕ)) (wide : Bool) (file size at before left count : ℕ) (columns : UnitColumns) (unit : AccessUnit)
    → 0 < left → unit.len < 2 ^ 24 → unit.from + unit.len ≤ size → IfSome told (λ bytes. unit ≡ unit_of wide (drop at bytes)) → fault_at at (unit_fault size before unit) ≡ None
    → Stands told wide file size at before left count columns
    → Stands told wide file size (at + record_len wide) unit.decode (left - 1) count (with_unit file columns before unit)
goes_on told wide file size at before left count columns unit some short inside is none s = record {
  done = s.done ++ unit ∷ [];
  is = rw (s.is, s.last) (columns_grow file s.done unit);
  number = omega (arith, length-append s.done (unit ∷ []), s.number);
  place = omega (arith, one_less left (record_len wide) some, s.place);
  last = sym (last_decode_push 0 s.done unit);
  each = rw (map_push (piece_of file) s.done unit) (All-push (IsUnitPiece file size) (pieces_of file s.done) (piece_of file unit) s.each (record { names = refl; inside = inside; bare = refl; short = short }));
  read = all told is s.read;
}
  where
    all : (told : Option (List ℕ)) → IfSome told (λ bytes. unit ≡ unit_of wide (drop at bytes)) → IfSome told (λ bytes. Walked wide size at before left bytes s.done)
        → IfSome told (λ bytes. Walked wide size (at + record_len wide) unit.decode (left - 1) bytes (s.done ++ unit ∷ []))
    all None is walked = tt
    all (Some bytes) is walked =
        let rest = units wide (left - 1) (drop (at + record_len wide) bytes) in
        let next : units wide left (drop at bytes) ≡ unit ∷ rest = next_units wide left at bytes some ∙ ap (λ (u : AccessUnit). u ∷ rest) (sym is) in
        record {
          whole = walked.whole ∙ ap (λ (units : List AccessUnit). s.done ++ units) next ∙ sym (append_assoc s.done (unit ∷ []) rest);
          fault = walked.fault ∙ ap (units_fault (record_len wide) size at before) next ∙ tested (record_len wide) size at before unit rest none;
        }

-- a record that isn't as it should be is the first fault of the records
pub refused : (told : Option (List ℕ)) (wide : Bool) (file size at before left count : ℕ) (columns : UnitColumns) (unit : AccessUnit) (bad : Bad)
    → IsTable told wide count → 0 < left → IfSome told (λ bytes. unit ≡ unit_of wide (drop at bytes)) → fault_at at (unit_fault size before unit) ≡ Some bad
    → Stands told wide file size at before left count columns → IfSome told (λ bytes. records_fault size bytes ≡ Some bad)
unfolding records_fault
refused None wide file size at before left count columns unit bad table some is fault s = tt
refused (Some bytes) wide file size at before left count columns unit bad table some is fault s =
    let rest = units wide (left - 1) (drop (at + record_len wide) bytes) in
    let next : units wide left (drop at bytes) ≡ unit ∷ rest = next_units wide left at bytes some ∙ ap (λ (u : AccessUnit). u ∷ rest) (sym is) in
    let here = failed (record_len wide) size at before unit rest bad fault in
    let first : units_fault (record_len wide) size head_len 0 (units_in bytes) ≡ Some bad = s.read.fault ∙ ap (units_fault (record_len wide) size at before) next ∙ here in
    first_is _ (cut_fault bytes) bad (subst (λ (w : Bool). units_fault (record_len w) size head_len 0 (units_in bytes) ≡ Some bad) table.0 first)

-- what stands behind the last whole record
no_more : (told : Option (List ℕ)) (wide : Bool) (file size at before left count : ℕ) (columns : UnitColumns) → IsTable told wide count → left ≡ 0
    → (s : Stands told wide file size at before left count columns)
    → IfSome told (λ bytes. (s.done ≡ units_in bytes) × (at ≡ end_place bytes) × (records_fault size bytes ≡ cut_fault bytes))
unfolding records_fault units_fault units
no_more None wide file size at before left count columns table none s = tt
no_more (Some bytes) wide file size at before left count columns table none s =
    let empty : units wide left (drop at bytes) ≡ [] = ap (λ n. units wide n (drop at bytes)) none in
    let done : s.done ≡ units_in bytes = sym (s.read.whole ∙ ap (λ (units : List AccessUnit). s.done ++ units) empty ∙ append-nil s.done) in
    let nothing : left * record_len wide ≡ 0 = ap (λ n. n * record_len wide) none ∙ omega arith in
    let at_is : at ≡ head_len + count * record_len wide = omega (arith, s.place, nothing) in
    let place : at ≡ end_place bytes = at_is ∙ ap (λ n. head_len + n * record_len wide) table.1 ∙ ap (λ (w : Bool). head_len + record_count bytes * record_len w) table.0 in
    let first : units_fault (record_len wide) size head_len 0 (units_in bytes) ≡ None = s.read.fault ∙ ap (units_fault (record_len wide) size at before) empty in
    (done, place, only_cut _ (cut_fault bytes) (subst (λ (w : Bool). units_fault (record_len w) size head_len 0 (units_in bytes) ≡ None) table.0 first))

-- where the table ends there, all its units are read
pub all_read : (told : Option (List ℕ)) (wide : Bool) (file size at before left count len : ℕ) (columns : UnitColumns) → IsTable told wide count → left ≡ 0 → count ≤ MOST_ITEMS
    → IfSome told (λ bytes. len ≡ length bytes) → at ≡ len → Stands told wide file size at before left count columns → AreRead told file size columns
all_read told wide file size at before left count len columns table none few whole ends s = record {
  units = s.done;
  are = record { is = s.is; parts = record { few = omega (arith, s.number, few); each_one = s.each } };
  read = all told whole (no_more told wide file size at before left count columns table none s);
}
  where
    uncut : (bytes : List ℕ) → length bytes ≡ end_place bytes → cut_fault bytes ≡ None
    uncut bytes same = rw (eq-eqb (end_place bytes) (length bytes) (sym same)) refl

    all : (told : Option (List ℕ)) → IfSome told (λ bytes. len ≡ length bytes)
        → IfSome told (λ bytes. (s.done ≡ units_in bytes) × (at ≡ end_place bytes) × (records_fault size bytes ≡ cut_fault bytes))
        → IfSome told (λ bytes. (s.done ≡ units_in bytes) × (records_fault size bytes ≡ None))
    all None whole end = tt
    all (Some bytes) whole end =
        let same : length bytes ≡ end_place bytes = sym whole ∙ sym ends ∙ end.1 in
        (end.0, end.2 ∙ uncut bytes same)

-- and where it doesn't, it is cut there
pub is_cut : (told : Option (List ℕ)) (wide : Bool) (file size at before left count len : ℕ) (columns : UnitColumns) (bad : Bad) → IsTable told wide count → left ≡ 0
    → IfSome told (λ bytes. len ≡ length bytes) → at ≢ len → bad ≡ bad_at NhntCut at → Stands told wide file size at before left count columns
    → IfSome told (λ bytes. records_fault size bytes ≡ Some bad)
is_cut told wide file size at before left count len columns bad table none whole cut is s =
    all told whole (no_more told wide file size at before left count columns table none s)
  where
    all : (told : Option (List ℕ)) → IfSome told (λ bytes. len ≡ length bytes)
        → IfSome told (λ bytes. (s.done ≡ units_in bytes) × (at ≡ end_place bytes) × (records_fault size bytes ≡ cut_fault bytes))
        → IfSome told (λ bytes. records_fault size bytes ≡ Some bad)
    all None whole end = tt
    all (Some bytes) whole end =
        let other : (end_place bytes == length bytes) ≡ false = ne_eqb (end_place bytes) (length bytes) (λ e. cut (end.1 ∙ e ∙ sym whole)) in
        end.2 ∙ rw other (ap (λ place. Some (bad_at NhntCut place)) (sym end.1) ∙ ap Some (sym is))

-- the columns have room for one unit more
pub record Room (columns : UnitColumns) : Type 0 where
  pub deltas : length columns.deltas + 1 ≤ MOST_ITEMS
  pub offsets : length columns.offsets + 1 ≤ MOST_ITEMS
  pub syncs : length columns.syncs + 1 ≤ MOST_ITEMS
  pub sizes : length columns.sizes + 1 ≤ MOST_ITEMS

pub room : (told : Option (List ℕ)) (wide : Bool) (file size at before left count : ℕ) (columns : UnitColumns) → 0 < left → count ≤ MOST_ITEMS → Stands told wide file size at before left count columns → Room columns
unfolding columns_so_far
room told wide file size at before left count columns some few s =
    let fits : length s.done + 1 ≤ MOST_ITEMS = omega (arith, s.number, some, few) in
    subst (λ (c : UnitColumns). Room c) (sym s.is) (record {
      deltas = omega (arith, fits, length-map (gaps 0 s.done) kept_delta, length-gaps 0 s.done);
      offsets = omega (arith, fits, length-map s.done offset_of);
      syncs = omega (arith, fits, length-map s.done (λ (u : AccessUnit). mark_of (is_sync u)));
      sizes = omega (arith, fits, length-map s.done (λ (u : AccessUnit). pos u.len));
    })
