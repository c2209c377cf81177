-- A table is left out exactly where it says nothing.
use Rattle.std.proofs.Common.{◌≡◌, ℕ, suc, ◌+◌, ◌≤◌, Bool, true, false, cond, ◌&&◌, List, [], ◌∷◌, length, ℤ, pos, refl, sym, ◌∙◌, arith}
use Rattle.std.specs.List.{list_all}
use Rattle.std.specs.Ordering.{int_eq}
use Rattle.std.proofs.lemmas.List.{append-nil}
use Rattle.mp_boxes.specs.Field.{Part, box_bytes, boxes_bytes, optional}
use Rattle.mp_times.specs.Sync.{is_sync}
use Rattle.mp_times.specs.Written.{ctts, offset_table, stss, sync_numbers, sync_table}

pub few_syncs : (number : ℕ) (xs : List ℤ) → length (sync_numbers number xs) ≤ length xs
few_syncs number [] = omega arith
few_syncs number (x ∷ xs) = by (few_syncs (number + 1) xs) (is_sync x)
  where
    by : length (sync_numbers (number + 1) xs) ≤ length xs → (b : Bool) → length (cond b (number ∷ sync_numbers (number + 1) xs) (sync_numbers (number + 1) xs)) ≤ suc (length xs)
    by few true = omega arith
    by few false = omega arith

all_sync : (number : ℕ) (xs : List ℤ) → length (sync_numbers number xs) ≡ length xs → list_all is_sync xs ≡ true
all_sync number [] e = refl
all_sync number (x ∷ xs) e = by (all_sync (number + 1) xs) (is_sync x) e
  where
    by : (length (sync_numbers (number + 1) xs) ≡ length xs → list_all is_sync xs ≡ true) → (b : Bool) → length (cond b (number ∷ sync_numbers (number + 1) xs) (sync_numbers (number + 1) xs)) ≡ suc (length xs) → (b && list_all is_sync xs) ≡ true
    by rest true h = rest (omega (arith, h))
    by rest false h = absurd (omega (arith, h, few_syncs (number + 1) xs))

not_all_sync : (number : ℕ) (xs : List ℤ) → (length (sync_numbers number xs) ≡ length xs → ⊥) → list_all is_sync xs ≡ false
not_all_sync number [] ne = absurd (ne refl)
not_all_sync number (x ∷ xs) ne = by (not_all_sync (number + 1) xs) (is_sync x) ne
  where
    by : ((length (sync_numbers (number + 1) xs) ≡ length xs → ⊥) → list_all is_sync xs ≡ false) → (b : Bool) → (length (cond b (number ∷ sync_numbers (number + 1) xs) (sync_numbers (number + 1) xs)) ≡ suc (length xs) → ⊥) → (b && list_all is_sync xs) ≡ false
    by rest true h = rest (λ e. h (omega (arith, e)))
    by rest false h = refl

-- ---- what stands

pub no_stss : (syncs samples : ℕ) (marks : List ℤ) → syncs ≡ length (sync_numbers 1 marks) → samples ≡ length marks → syncs ≡ samples → optional (stss marks) ≡ []
no_stss syncs samples marks count len e = rw (all_sync 1 marks (sym count ∙ (e ∙ len))) refl

pub one_stss : (syncs samples : ℕ) (marks : List ℤ) → syncs ≡ length (sync_numbers 1 marks) → samples ≡ length marks → (syncs ≡ samples → ⊥) → optional (stss marks) ≡ sync_table marks ∷ []
one_stss syncs samples marks count len ne = rw (not_all_sync 1 marks (λ e. ne (count ∙ (e ∙ sym len)))) refl

pub no_ctts : (zero : Bool) (offsets : List ℤ) → zero ≡ list_all (int_eq (pos 0)) offsets → zero ≡ true → optional (ctts offsets) ≡ []
no_ctts zero offsets is e = rw (sym is ∙ e) refl

pub one_ctts : (zero : Bool) (offsets : List ℤ) → zero ≡ list_all (int_eq (pos 0)) offsets → zero ≡ false → optional (ctts offsets) ≡ offset_table offsets ∷ []
one_ctts zero offsets is e = rw (sym is ∙ e) refl

-- one box alone
pub one_box : (part : Part) → boxes_bytes (part ∷ []) ≡ box_bytes part
unfolding boxes_bytes
one_box part = append-nil (box_bytes part)

pub no_box : boxes_bytes [] ≡ []
unfolding boxes_bytes
no_box = refl
