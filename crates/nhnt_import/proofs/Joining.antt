-- The checks of a pair, one after another, make its first fault; where none fails, the answer stands for the movie.
use Rattle.std.proofs.Common.{◌≡◌, ℕ, ◌+◌, ◌-◌, ◌/◌, ◌<◌, ◌≤◌, Bool, true, false, nat_lt, not, List, [], ◌∷◌, length, get_or, Option, Some, None, IfSome, Result, Ok, Err, refl, sym, ap, ◌∙◌, le-ltb, lt-ltb, ltb-false}
use Rattle.mp_ports.specs.Checks.{bad_at, fault_at, first_code, first_some, unless}
use Rattle.mp_ports.specs.Gives.{Gives, read_fail, read_refusal, refusal}
use Rattle.mp_ports.specs.declared.fault.Bad.{Bad}
use Rattle.mp_ports.specs.declared.fault.Fail.{Fail}
use Rattle.mp_ports.specs.declared.fault.Fail.TheVariants.{Bad as Refusing, NoMemory}
use Rattle.mp_ports.specs.declared.fault.ReadFail.{ReadFail}
use Rattle.mp_ports.specs.declared.code.Code.TheVariants.{NhntOrder, NhntRange, NhntUnit, SampleLimit}
use Rattle.mp_columns.specs.declared.columns.TheConstants.{MOST_ITEMS}
use Rattle.mp_movie.specs.Placed.{PlacedMovie}
use Rattle.mp_movie.specs.StandsFor.{Reads, stands_for}
use Rattle.nhnt_import.specs.declared.head.Head.{Head}
use Rattle.nhnt_import.specs.declared.unit.AccessUnit.{AccessUnit}
use Rattle.nhnt_import.specs.Head.{IsHead, head_fault, head_len, head_of, is_wide}
use Rattle.nhnt_import.specs.Unit.{is_whole, record_count, record_len, unit_fault, units_in}
use Rattle.nhnt_import.specs.Times.{limit_fault}
use Rattle.nhnt_import.specs.Fault.{count_fault, cut_fault, info_fault, most_info, pair_fault, records_fault, units_fault}
use Rattle.nhnt_import.specs.Placed.{IsImported, pair_places, placed_movie}
use Rattle.nhnt_import.specs.Pair.{pair_movie}
use Rattle.nhnt_import.specs.Kept.{AreRead, UnitColumns}
use Rattle.nhnt_import.proofs.Standing.{Rising, stands}

-- what is read of the head, of the `.info` file and of the length of the table
abbrev pub HeadRead : Option (List ℕ) → Head → Type 0
HeadRead told head = IfSome told (λ table. (head_fault table ≡ None) × (head ≡ head_of table))

abbrev pub InfoRead : Option (List ℕ) → List ℕ → Type 0
InfoRead info read = IfSome info (λ bytes. read ≡ bytes)

-- the answer, where all is told
abbrev pub Placed : Option (List ℕ) → Option (List ℕ) → ℕ → ℕ → Result PlacedMovie ReadFail → Type 0
Placed told info file size result = IfSome told (λ table. IfSome info (λ info. Gives read_refusal (λ movie. movie) result (pair_places file size table info)))

-- a refusal, where all is told
abbrev pub Refused : Option (List ℕ) → Option (List ℕ) → ℕ → ℕ → Option Bad → Type 0
Refused told info file size refusal = IfSome told (λ table. IfSome info (λ info. IfSome refusal (λ bad. pair_places file size table info ≡ Err bad)))

pub by_head : (told info : Option (List ℕ)) (file size : ℕ) (refusal : Option Bad) → IfSome told (λ table. IfSome refusal (λ bad. fault_at 0 (head_fault table) ≡ Some bad)) → Refused told info file size refusal
unfolding pair_fault
by_head None info file size refusal fault = tt
by_head (Some table) None file size refusal fault = tt
by_head (Some table) (Some info) file size None fault = tt
by_head (Some table) (Some info) file size (Some bad) fault = rw fault refl

pub by_info : (told info : Option (List ℕ)) (file size : ℕ) (head : Head) (refusal : Option Bad) → HeadRead told head → IfSome info (λ info. IfSome refusal (λ bad. info_fault info ≡ Some bad))
    → Refused told info file size refusal
unfolding pair_fault
by_info None info file size head refusal read fault = tt
by_info (Some table) None file size head refusal read fault = tt
by_info (Some table) (Some info) file size head None read fault = tt
by_info (Some table) (Some info) file size head (Some bad) read fault = rw (read.0, fault) refl

short_info : (info : List ℕ) → length info ≤ most_info → info_fault info ≡ None
short_info info short = rw (le-ltb most_info (length info) short) refl

pub by_count : (told info : Option (List ℕ)) (file size len : ℕ) (head : Head) (read : List ℕ) (bad : Bad) → HeadRead told head → InfoRead info read → length read ≤ most_info
    → IfSome told (λ table. len ≡ length table) → MOST_ITEMS < (len - head_len) / record_len head.wide → bad ≡ bad_at SampleLimit 0 → Refused told info file size (Some bad)
unfolding pair_fault
by_count None info file size len head read bad table same short whole many is = tt
by_count (Some table) None file size len head read bad known same short whole many is = tt
by_count (Some table) (Some info) file size len head read bad known same short whole many is =
    let wide = ap (λ (h : Head). h.wide) known.1 in
    let test : nat_lt MOST_ITEMS (record_count table) ≡ true = lt-ltb MOST_ITEMS (record_count table) (rw (whole, wide) at many) in
    rw (known.0, short_info info (rw same at short), test, is) refl

few_records : (table : List ℕ) (len count : ℕ) (head : Head) → head ≡ head_of table → len ≡ length table → count ≡ (len - head_len) / record_len head.wide → count ≤ MOST_ITEMS → count_fault table ≡ None
few_records table len count head known whole is few =
    let wide = ap (λ (h : Head). h.wide) known in
    let all : record_count table ≡ count = sym (rw (whole, wide) at is) in
    rw (le-ltb MOST_ITEMS (record_count table) (rw all few)) refl

pub by_records : (told info : Option (List ℕ)) (file size len count : ℕ) (head : Head) (read : List ℕ) (refusal : Option Bad) → HeadRead told head → InfoRead info read → length read ≤ most_info
    → IfSome told (λ table. len ≡ length table) → count ≡ (len - head_len) / record_len head.wide → count ≤ MOST_ITEMS
    → IfSome told (λ table. IfSome refusal (λ bad. records_fault size table ≡ Some bad)) → Refused told info file size refusal
unfolding pair_fault
by_records None info file size len count head read refusal known same short whole is few fault = tt
by_records (Some table) None file size len count head read refusal known same short whole is few fault = tt
by_records (Some table) (Some info) file size len count head read None known same short whole is few fault = tt
by_records (Some table) (Some info) file size len count head read (Some bad) known same short whole is few fault =
    rw (known.0, short_info info (rw same at short), few_records table len count head known.1 whole is few, fault) refl

-- behind all of these checks the limits of the units are left
last_check : (file size len count : ℕ) (table info : List ℕ) (head : Head) (read : List ℕ) (units : List AccessUnit) → head_fault table ≡ None → head ≡ head_of table → read ≡ info → length read ≤ most_info
    → len ≡ length table → count ≡ (len - head_len) / record_len head.wide → count ≤ MOST_ITEMS → units ≡ units_in table → records_fault size table ≡ None
    → pair_places file size table info ≡ unless (fault_at 0 (limit_fault units)) (placed_movie head read file units)
unfolding pair_fault
last_check file size len count table info head read units none known same short whole is few all passed =
    rw (none, short_info info (rw same at short), few_records table len count head known whole is few, passed, sym all, sym known, same)
    (alone (fault_at 0 (limit_fault units)))
  where
    alone : (fault : Option Bad) → unless (first_some (fault ∷ [])) (placed_movie head info file units) ≡ unless fault (placed_movie head info file units)
    alone None = refl
    alone (Some bad) = refl

-- what the pair's movie is, where all is told
abbrev pub Wanted : Option (List ℕ) → Option (List ℕ) → ℕ → ℕ → Result PlacedMovie Bad → Type 0
Wanted told info file size wanted = IfSome told (λ table. IfSome info (λ info. pair_places file size table info ≡ wanted))

pub by_limits : (told info : Option (List ℕ)) (file size len count : ℕ) (head : Head) (read : List ℕ) (columns : UnitColumns) → HeadRead told head → InfoRead info read → length read ≤ most_info
    → IfSome told (λ table. len ≡ length table) → count ≡ (len - head_len) / record_len head.wide → count ≤ MOST_ITEMS
    → (units : AreRead told file size columns) → Wanted told info file size (unless (fault_at 0 (limit_fault units.units)) (placed_movie head read file units.units))
by_limits None info file size len count head read columns known same short whole is few units = tt
by_limits (Some table) None file size len count head read columns known same short whole is few units = tt
by_limits (Some table) (Some info) file size len count head read columns known same short whole is few units =
    last_check file size len count table info head read units.units known.0 known.1 same short whole is few units.read.0 units.read.1

-- the movie of the pair is the answer
pub ends_ok : (told info : Option (List ℕ)) (file size : ℕ) (wanted : Result PlacedMovie Bad) (movie : PlacedMovie) → Wanted told info file size wanted → wanted ≡ Ok movie
    → Placed told info file size (Ok movie)
ends_ok None info file size wanted movie is ok = tt
ends_ok (Some table) None file size wanted movie is ok = tt
ends_ok (Some table) (Some info) file size wanted movie is ok = is ∙ ok

-- or its refusal
pub ends_err : (told info : Option (List ℕ)) (file size : ℕ) (wanted : Result PlacedMovie Bad) (fail : Fail) → Wanted told info file size wanted → IfSome (refusal fail) (λ bad. wanted ≡ Err bad)
    → Placed told info file size (Err (read_fail fail))
ends_err None info file size wanted fail is err = tt
ends_err (Some table) None file size wanted fail is err = tt
ends_err (Some table) (Some info) file size wanted (Refusing bad) is err = is ∙ err
ends_err (Some table) (Some info) file size wanted NoMemory is err = tt

-- where no record has a fault, none is decoded before the one before it
rising : (len size place before : ℕ) (units : List AccessUnit) → units_fault len size place before units ≡ None → Rising before units
unfolding units_fault unit_fault
rising len size place before [] none = tt
rising len size place before (unit ∷ units) none =
    let passes = passed (not (is_whole unit)) (nat_lt unit.decode before) (nat_lt size (unit.from + unit.len)) (units_fault len size (place + len) unit.decode units) none in
    (ltb-false unit.decode before passes.0, rising len size (place + len) unit.decode units passes.1)
  where
    passed : (part late outside : Bool) (rest : Option Bad)
        → first_some (fault_at place (first_code ((part, NhntUnit) ∷ (late, NhntOrder) ∷ (outside, NhntRange) ∷ [])) ∷ rest ∷ []) ≡ None → (late ≡ false) × (rest ≡ None)
    passed true late outside rest none = cc
    passed false true outside rest none = cc
    passed false false true rest none = cc
    passed false false false (Some bad) none = cc
    passed false false false None none = (refl, refl)

records_rise : (size : ℕ) (table info : List ℕ) → pair_fault size table info ≡ None → Rising 0 (units_in table)
unfolding pair_fault records_fault
records_rise size table info none =
    rising (record_len (is_wide table)) size head_len 0 (units_in table)
    (inner (units_fault (record_len (is_wide table)) size head_len 0 (units_in table)) (cut_fault table)
    (outer (fault_at 0 (head_fault table)) (info_fault info) (count_fault table) (records_fault size table) (fault_at 0 (limit_fault (units_in table))) none))
  where
    outer : (head info count records limit : Option Bad) → first_some (head ∷ info ∷ count ∷ records ∷ limit ∷ []) ≡ None → records ≡ None
    outer (Some bad) info count records limit none = cc
    outer None (Some bad) count records limit none = cc
    outer None None (Some bad) records limit none = cc
    outer None None None (Some bad) limit none = cc
    outer None None None None limit none = refl

    inner : (units cut : Option Bad) → first_some (units ∷ cut ∷ []) ≡ None → units ≡ None
    inner (Some bad) cut none = cc
    inner None cut none = refl

-- the refusal is that of the bytes
refused_told : (file size : ℕ) (table bytes info : List ℕ) (refusal fault : Option Bad) → pair_fault size table info ≡ fault → size ≡ length bytes
    → IfSome refusal (λ bad. unless fault (placed_movie (head_of table) info file (units_in table)) ≡ Err bad) → IfSome refusal (λ bad. pair_movie table bytes info ≡ Err bad)
refused_told file size table bytes info None fault is all gives = tt
refused_told file size table bytes info (Some bad) None is all gives = cc
refused_told file size table bytes info (Some bad) (Some found) is all gives = let same : found ≡ bad = cc in rw (sym all, is) (ap Err same)

-- the answer stands for the movie of the bytes
stands_told : (files : List (List ℕ)) (file size : ℕ) (table bytes info : List ℕ) (fault : Option Bad) (result : Result PlacedMovie ReadFail) → pair_fault size table info ≡ fault → get_or files file [] ≡ bytes
    → size ≡ length bytes → Gives read_refusal (λ movie. movie) result (unless fault (placed_movie (head_of table) info file (units_in table)))
    → Gives read_refusal (stands_for files) result (pair_movie table bytes info)
stands_told files file size table bytes info fault (Err fail) is held all gives = refused_told file size table bytes info (read_refusal fail) fault is all gives
stands_told files file size table bytes info (Some bad) (Ok movie) is held all gives = cc
stands_told files file size table bytes info None (Ok movie) is held all gives =
    let same : placed_movie (head_of table) info file (units_in table) ≡ movie = cc in
    let stand = stands files (head_of table) info file (units_in table) (records_rise size table info is) in
    rw (sym all, is, sym held) (ap Ok (sym stand ∙ ap (stands_for files) same))

pub movie_told : (told media info : Option (List ℕ)) (file size : ℕ) (result : Result PlacedMovie ReadFail) → IfSome media (λ bytes. size ≡ length bytes) → Placed told info file size result
    → IfSome told (λ table. IfSome media (λ bytes. IfSome info (λ info. Reads file bytes result (pair_movie table bytes info))))
movie_told None media info file size result all placed = tt
movie_told (Some table) None info file size result all placed = tt
movie_told (Some table) (Some bytes) None file size result all placed = tt
movie_told (Some table) (Some bytes) (Some info) file size result all placed =
    λ files held. stands_told files file size table bytes info (pair_fault size table info) result refl held all placed

movie_is : (fault : Option Bad) (value movie : PlacedMovie) → unless fault value ≡ Ok movie → movie ≡ value
movie_is None value movie gives = cc
movie_is (Some bad) value movie gives = cc

-- whatever is told, the movie is one of units
pub imported : (told : Option (List ℕ)) (head : Head) (info : List ℕ) (file size : ℕ) (columns : UnitColumns) (movie : PlacedMovie) → IsHead head → (read : AreRead told file size columns)
    → unless (fault_at 0 (limit_fault read.units)) (placed_movie head info file read.units) ≡ Ok movie → IsImported file size movie
imported told head info file size columns movie fits read gives = record {
  head = head;
  info = info;
  units = read.units;
  fits = fits;
  parts = read.are.parts;
  is = movie_is (fault_at 0 (limit_fault read.units)) (placed_movie head info file read.units) movie gives;
}

-- the records are counted as the table has them
pub table_is : (told : Option (List ℕ)) (head : Head) (len count : ℕ) → HeadRead told head → IfSome told (λ table. len ≡ length table) → count ≡ (len - head_len) / record_len head.wide
    → IfSome told (λ table. (head.wide ≡ is_wide table) × (count ≡ record_count table))
table_is None head len count known whole is = tt
table_is (Some table) head len count known whole is =
    let wide : head.wide ≡ is_wide table = ap (λ (h : Head). h.wide) known.1 in
    (wide, is ∙ ap (λ (n : ℕ). (n - head_len) / record_len head.wide) whole ∙ ap (λ (w : Bool). (length table - head_len) / record_len w) wide)
