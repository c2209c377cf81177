-- A walk over data references tells of each whether its data is in the file.
use Rattle.std.proofs.Common.{◌≡◌, ℕ, ◌+◌, ◌≤◌, Bool, false, List, [], ◌∷◌, ◌++◌, length, map, Ok, refl, sym, ap, subst, ◌∙◌, append_assoc, slice_range}
use Rattle.std.specs.List.{AllByRecursion}
use Rattle.std.proofs.lemmas.List.{append-nil}
use Rattle.mp_boxes.specs.declared.head.BoxHead.{BoxHead}
use Rattle.mp_boxes.specs.Boxes.{AreLeft, Box, boxes}
use Rattle.mp_boxes.specs.Child.{IsFirstOf}
use Rattle.mp_boxes.specs.Counted.{IsCounted}
use Rattle.mp_boxes.specs.FullBox.{first_field}
use Rattle.mp_entries.specs.Reference.{is_local, local_references}

-- it has version and flags
abbrev IsFull : Box → Type 0
IsFull box = first_field ≤ length box.body

-- what is told of the references in front of `at`, and these are left
pub record Told (base : ℕ) (bytes : List ℕ) (at : ℕ) (local : List Bool) : Type 0 where
  pub all : List Box
  pub read : boxes false base bytes ≡ Ok all
  pub left : List Box
  pub cut : AreLeft base at bytes left
  pub full : AllByRecursion IsFull left
  pub same : local ++ map is_local left ≡ map is_local all

pub nothing_told : (base count : ℕ) (bytes : List ℕ) → IsCounted count first_field base bytes → Told base bytes 0 []
nothing_told base count bytes c = record { all = c.boxes.children; read = c.boxes.read; left = c.boxes.children; cut = c.boxes.left; full = c.long; same = refl }

full_first : (base : ℕ) (bytes : List ℕ) (at : ℕ) (local : List Bool) (b : BoxHead) (t : Told base bytes at local) (f : IsFirstOf (λ boxes. boxes) base bytes t.left b) → AllByRecursion IsFull (f.first ∷ f.others)
full_first base bytes at local b t f = subst (AllByRecursion IsFull) f.both t.full

-- the body of the next reference is long enough to be read
pub next_full : (base : ℕ) (bytes : List ℕ) (at : ℕ) (local : List Bool) (b : BoxHead) (t : Told base bytes at local) → IsFirstOf (λ boxes. boxes) base bytes t.left b
    → first_field ≤ length (slice_range bytes (b.place + b.head) (b.place + b.len))
next_full base bytes at local b t f = subst (λ (body : List ℕ). first_field ≤ length body) (sym f.head.span.body) (full_first base bytes at local b t f).0

pub one_told : (base : ℕ) (bytes : List ℕ) (at : ℕ) (local : List Bool) (b : BoxHead) (t : Told base bytes at local) → IsFirstOf (λ boxes. boxes) base bytes t.left b
    → Told base bytes (b.place + b.len) (local ++ is_local (record { kind = []; header = []; body = slice_range bytes (b.place + b.head) (b.place + b.len); place = 0 }) ∷ [])
one_told base bytes at local b t f = record {
  all = t.all;
  read = t.read;
  left = f.others;
  cut = f.cut;
  full = (full_first base bytes at local b t f).1;
  same = rw f.head.span.body (append_assoc local (is_local f.first ∷ []) (map is_local f.others) ∙ (ap (λ (xs : List Bool). local ++ xs) (sym (ap (map is_local) f.both)) ∙ t.same));
}

pub all_told : (base : ℕ) (bytes : List ℕ) (at : ℕ) (local : List Bool) (t : Told base bytes at local) → t.left ≡ [] → local_references base bytes ≡ Ok local
all_told base bytes at local t none =
    let same : local ≡ map is_local t.all = sym (append-nil local) ∙ (ap (λ (xs : List Bool). local ++ xs) (sym (ap (map is_local) none)) ∙ t.same) in
    rw (t.read, same) refl
