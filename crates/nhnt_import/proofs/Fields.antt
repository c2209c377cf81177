-- A front of bytes has the fields of the bytes.
use Rattle.std.proofs.Common.{◌≡◌, ◌+◌, ◌≤◌, ◌<◌, ℕ, Bool, true, false, List, take, drop, length, refl, sym, ap, ◌∙◌, arith, Option, Some, None, IfSome, lit<, lit≤, le-ltb, lt-ltb, length-take, nat_lt}
use Rattle.std.proofs.lemmas.List.{get_or-take}
use Rattle.mp_ports.specs.Checks.{bad_at, fault_at}
use Rattle.mp_ports.specs.declared.fault.Bad.{Bad}
use Rattle.mp_ports.specs.declared.code.Code.{Code}
use Rattle.mp_ports.specs.declared.code.Code.TheVariants.{NhntHead}
use Rattle.mp_boxes.specs.Number.{kind_at, u32_at, u64_at}
use Rattle.nhnt_import.specs.declared.head.Head.{Head}
use Rattle.nhnt_import.specs.declared.unit.AccessUnit.{AccessUnit}
use Rattle.nhnt_import.specs.Number.{u24_at}
use Rattle.nhnt_import.specs.Head.{head_fault, head_len, head_of}
use Rattle.nhnt_import.specs.Unit.{record_len, unit_of}

u24_at-take : (n : ℕ) (bytes : List ℕ) (at : ℕ) → at + 3 ≤ n → u24_at (take n bytes) at ≡ u24_at bytes at
unfolding u24_at
u24_at-take n bytes at le =
    rw (get_or-take n bytes at 0 (omega arith), get_or-take n bytes (at + 1) 0 (omega arith), get_or-take n bytes (at + 2) 0 (omega arith)) refl

u32_at-take : (n : ℕ) (bytes : List ℕ) (at : ℕ) → at + 4 ≤ n → u32_at (take n bytes) at ≡ u32_at bytes at
unfolding u32_at
u32_at-take n bytes at le =
    rw (get_or-take n bytes at 0 (omega arith), get_or-take n bytes (at + 1) 0 (omega arith), get_or-take n bytes (at + 2) 0 (omega arith), get_or-take n bytes (at + 3) 0 (omega arith)) refl

u64_at-take : (n : ℕ) (bytes : List ℕ) (at : ℕ) → at + 8 ≤ n → u64_at (take n bytes) at ≡ u64_at bytes at
unfolding u64_at
u64_at-take n bytes at le =
    rw (
      get_or-take n bytes at 0 (omega arith),
      get_or-take n bytes (at + 1) 0 (omega arith),
      get_or-take n bytes (at + 2) 0 (omega arith),
      get_or-take n bytes (at + 3) 0 (omega arith),
      get_or-take n bytes (at + 4) 0 (omega arith),
      get_or-take n bytes (at + 5) 0 (omega arith),
      get_or-take n bytes (at + 6) 0 (omega arith),
      get_or-take n bytes (at + 7) 0 (omega arith),
    ) refl

-- a record is read from its own bytes
pub unit_of-take : (wide : Bool) (bytes : List ℕ) → unit_of wide (take (record_len wide) bytes) ≡ unit_of wide bytes
unit_of-take true bytes =
    rw (u24_at-take 28 bytes 0 (lit≤ tt), get_or-take 28 bytes 3 0 (lit< tt), u64_at-take 28 bytes 4 (lit≤ tt), u64_at-take 28 bytes 12 (lit≤ tt), u64_at-take 28 bytes 20 (lit≤ tt)) refl
unit_of-take false bytes =
    rw (u24_at-take 16 bytes 0 (lit≤ tt), get_or-take 16 bytes 3 0 (lit< tt), u32_at-take 16 bytes 4 (lit≤ tt), u32_at-take 16 bytes 8 (lit≤ tt), u32_at-take 16 bytes 12 (lit≤ tt)) refl

-- so are the bytes of one
pub unit_read : (told : Option (List ℕ)) (wide : Bool) (at : ℕ) (got : List ℕ) (unit : AccessUnit) → IfSome told (λ bytes. got ≡ take (length got) (drop at bytes)) → length got ≡ record_len wide
    → unit ≡ unit_of wide got → IfSome told (λ bytes. unit ≡ unit_of wide (drop at bytes))
unit_read None wide at got unit part len is = tt
unit_read (Some bytes) wide at got unit part len is =
    is ∙ ap (unit_of wide) (part ∙ ap (λ n. take n (drop at bytes)) len) ∙ unit_of-take wide (drop at bytes)

kind_at-take : (n : ℕ) (bytes : List ℕ) → 4 ≤ n → kind_at (take n bytes) 0 ≡ kind_at bytes 0
unfolding kind_at
kind_at-take n bytes le =
    rw (get_or-take n bytes 0 0 (omega arith), get_or-take n bytes 1 0 (omega arith), get_or-take n bytes 2 0 (omega arith), get_or-take n bytes 3 0 (omega arith)) refl

-- the head is read from the first bytes of a table
head_of-take : (bytes : List ℕ) → head_of (take head_len bytes) ≡ head_of bytes
head_of-take bytes =
    rw (
      kind_at-take 24 bytes (lit≤ tt),
      get_or-take 24 bytes 5 0 (lit< tt),
      get_or-take 24 bytes 6 0 (lit< tt),
      u24_at-take 24 bytes 9 (lit≤ tt),
      u32_at-take 24 bytes 12 (lit≤ tt),
      u32_at-take 24 bytes 16 (lit≤ tt),
      u32_at-take 24 bytes 20 (lit≤ tt),
    ) refl

head_fault-take : (bytes : List ℕ) → head_len ≤ length bytes → head_fault (take head_len bytes) ≡ head_fault bytes
unfolding head_fault
head_fault-take bytes long =
    let short : nat_lt (length (take 24 bytes)) 24 ≡ false = le-ltb (length (take 24 bytes)) 24 (omega (arith, length-take 24 bytes, long)) in
    let all : nat_lt (length bytes) 24 ≡ false = le-ltb (length bytes) 24 long in
    rw (short, all, kind_at-take 24 bytes (lit≤ tt), get_or-take 24 bytes 5 0 (lit< tt), get_or-take 24 bytes 6 0 (lit< tt), u32_at-take 24 bytes 20 (lit≤ tt)) refl

-- what is read of the front of a table holds of the table
pub head_read : (told : Option (List ℕ)) (size : ℕ) (front : List ℕ) (head : Head) → IfSome told (λ bytes. size ≡ length bytes) → IfSome told (λ bytes. front ≡ take (length front) (drop 0 bytes)) → length front ≡ head_len
    → head_len ≤ size → head_fault front ≡ None → head ≡ head_of front → IfSome told (λ bytes. (head_fault bytes ≡ None) × (head ≡ head_of bytes))
head_read None size front head all part len long none is = tt
head_read (Some bytes) size front head all part len long none is =
    let same : front ≡ take head_len bytes = part ∙ ap (λ n. take n bytes) len in
    (sym (head_fault-take bytes (omega (arith, all, long))) ∙ ap head_fault (sym same) ∙ none, is ∙ ap head_of same ∙ head_of-take bytes)

-- and so does its fault
pub head_refused : (told : Option (List ℕ)) (size : ℕ) (front : List ℕ) (code : Code) (bad : Bad) → IfSome told (λ bytes. size ≡ length bytes) → IfSome told (λ bytes. front ≡ take (length front) (drop 0 bytes)) → length front ≡ head_len
    → head_len ≤ size → head_fault front ≡ Some code → bad ≡ bad_at code 0 → IfSome told (λ bytes. fault_at 0 (head_fault bytes) ≡ Some bad)
head_refused None size front code bad all part len long some is = tt
head_refused (Some bytes) size front code bad all part len long some is =
    let same : front ≡ take head_len bytes = part ∙ ap (λ n. take n bytes) len in
    let fault : head_fault bytes ≡ Some code = sym (head_fault-take bytes (omega (arith, all, long))) ∙ ap head_fault (sym same) ∙ some in
    ap (fault_at 0) fault ∙ ap Some (sym is)

-- a table that is shorter than a head has none
pub too_short : (told : Option (List ℕ)) (size : ℕ) (bad : Bad) → IfSome told (λ bytes. size ≡ length bytes) → size < head_len → bad ≡ bad_at NhntHead 0 → IfSome told (λ bytes. fault_at 0 (head_fault bytes) ≡ Some bad)
unfolding head_fault
too_short None size bad all short is = tt
too_short (Some bytes) size bad all short is =
    let test : nat_lt (length bytes) 24 ≡ true = lt-ltb (length bytes) 24 (omega (arith, all, short)) in
    rw test (ap Some (sym is))
