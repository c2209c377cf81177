-- A walk over sample entries keeps one after another, or stops at the first fault.
use Rattle.std.proofs.Common.{◌≡◌, ◌≤◌, ℕ, suc, ◌+◌, false, List, [], ◌∷◌, ◌++◌, Bool, length, Result, Ok, Err, IfOk, refl, sym, ap, ◌∙◌, append_assoc, slice_range, arith}
use Rattle.std.specs.List.{AllByRecursion}
use Rattle.std.specs.declared.alloc.Global.{Global}
use Rattle.std.specs.declared.vec.Vec.{Vec}
use Rattle.std.proofs.lemmas.List.{append-nil}
use Rattle.mp_ports.specs.Checks.{◌>>=◌}
use Rattle.mp_ports.specs.declared.fault.Bad.{Bad}
use Rattle.mp_ports.specs.declared.fault.Fail.{Fail}
use Rattle.mp_ports.specs.Gives.{Gives, refusal}
use Rattle.mp_boxes.specs.declared.head.BoxHead.{BoxHead}
use Rattle.mp_boxes.specs.Boxes.{AreLeft, Box, IsContainer, boxes, whole_box}
use Rattle.mp_boxes.specs.Child.{IsFirstOf}
use Rattle.mp_boxes.specs.Counted.{IsCounted}
use Rattle.mp_entries.specs.Description.{entries_in, kept_entries}
use Rattle.mp_entries.specs.Kept.{kept_entry}

-- what is kept in front of others
abbrev behind : List (List ℕ) → Result (List (List ℕ)) Bad → Result (List (List ℕ)) Bad
behind kept later = later >>= λ others. Ok (kept ++ others)

-- these entries are kept of those in front of `at`, and these are left
pub record Kept (base : ℕ) (bytes : List ℕ) (local : List Bool) (at : ℕ) (kept : List (List ℕ)) : Type 0 where
  pub all : List Box
  pub read : boxes false base bytes ≡ Ok all
  pub left : List Box
  pub cut : AreLeft base at bytes left
  pub same : kept_entries local all ≡ behind kept (kept_entries local left)

behind_nothing : (r : Result (List (List ℕ)) Bad) → r ≡ behind [] r
behind_nothing (Ok others) = refl
behind_nothing (Err bad) = refl

pub nothing_kept : (base : ℕ) (bytes : List ℕ) (local : List Bool) → IsContainer base bytes → Kept base bytes local 0 []
nothing_kept base bytes local c = record { all = c.children; read = c.read; left = c.children; cut = c.left; same = behind_nothing (kept_entries local c.children) }

-- the first of those that are left, as it stands in the bytes
abbrev next_entry : ℕ → List ℕ → List Bool → BoxHead → Result (List ℕ) Bad
next_entry base bytes local b = kept_entry (base + b.place) (slice_range bytes b.place (b.place + b.len)) local

next_is : (base : ℕ) (bytes : List ℕ) (local : List Bool) (left : List Box) (b : BoxHead) (f : IsFirstOf (λ boxes. boxes) base bytes left b) (r : Result (List ℕ) Bad) → next_entry base bytes local b ≡ r
    → kept_entries local left ≡ (r >>= λ kept. kept_entries local f.others >>= λ others. Ok (kept ∷ others))
next_is base bytes local left b f r e =
    let this : kept_entry f.first.place (whole_box f.first) local ≡ r = rw (← f.head.whole, ← f.head.span.place) e in
    ap (kept_entries local) f.both ∙ rw this refl

behind_more : (kept : List (List ℕ)) (entry : List ℕ) (r : Result (List (List ℕ)) Bad) → behind kept (r >>= λ others. Ok (entry ∷ others)) ≡ behind (kept ++ entry ∷ []) r
behind_more kept entry (Ok others) = ap (λ (xs : List (List ℕ)). Ok xs) (sym (append_assoc kept (entry ∷ []) others))
behind_more kept entry (Err bad) = refl

pub one_kept : (base : ℕ) (bytes : List ℕ) (local : List Bool) (at : ℕ) (kept : List (List ℕ)) (entry : List ℕ) (b : BoxHead) (k : Kept base bytes local at kept) → IsFirstOf (λ boxes. boxes) base bytes k.left b
    → next_entry base bytes local b ≡ Ok entry → Kept base bytes local (b.place + b.len) (kept ++ entry ∷ [])
one_kept base bytes local at kept entry b k f e = record {
  all = k.all;
  read = k.read;
  left = f.others;
  cut = f.cut;
  same = k.same ∙ (ap (behind kept) (next_is base bytes local k.left b f (Ok entry) e) ∙ behind_more kept entry (kept_entries local f.others));
}

pub one_refused : (base : ℕ) (bytes : List ℕ) (local : List Bool) (at : ℕ) (kept : List (List ℕ)) (bad : Bad) (b : BoxHead) (k : Kept base bytes local at kept) → IsFirstOf (λ boxes. boxes) base bytes k.left b
    → next_entry base bytes local b ≡ Err bad → entries_in base local bytes ≡ Err bad
one_refused base bytes local at kept bad b k f e = ap (λ (r : Result (List Box) Bad). r >>= kept_entries local) k.read ∙ (k.same ∙ ap (behind kept) (next_is base bytes local k.left b f (Err bad) e))

pub all_kept : (base : ℕ) (bytes : List ℕ) (local : List Bool) (at : ℕ) (kept : List (List ℕ)) (k : Kept base bytes local at kept) → k.left ≡ [] → entries_in base local bytes ≡ Ok kept
all_kept base bytes local at kept k none =
    ap (λ (r : Result (List Box) Bad). r >>= kept_entries local) k.read
    ∙ (k.same ∙ (ap (λ (left : List Box). behind kept (kept_entries local left)) none ∙ ap (λ (xs : List (List ℕ)). Ok xs) (append-nil kept)))

pub all_more : {A : Type 0} (P : A → Type 0) (items : List A) (item : A) → AllByRecursion P items → P item → AllByRecursion P (items ++ item ∷ [])
all_more P [] item all one = (one, tt)
all_more P (first ∷ items) item all one = (all.0, all_more P items item all.1 one)

-- an entry is kept of each box
pub kept_len : (local : List Bool) (children : List Box) (kept : List (List ℕ)) → kept_entries local children ≡ Ok kept → length kept ≡ length children
kept_len local [] kept e = let none : [] ≡ kept = cc in ap length (sym none)
kept_len local (child ∷ children) kept e = by (kept_entry child.place (whole_box child) local) (kept_entries local children) refl e (kept_len local children)
  where
    by : (first : Result (List ℕ) Bad) (rest : Result (List (List ℕ)) Bad) → kept_entries local children ≡ rest → (first >>= λ entry. rest >>= λ others. Ok (entry ∷ others)) ≡ Ok kept
        → ((others : List (List ℕ)) → kept_entries local children ≡ Ok others → length others ≡ length children) → length kept ≡ length (child ∷ children)
    by (Ok entry) (Ok others) q e ih = let all : entry ∷ others ≡ kept = cc in ap length (sym all) ∙ ap suc (ih others q)
    by (Ok entry) (Err bad) q e ih = absurd cc
    by (Err bad) rest q e ih = absurd cc

pub few_kept : (count least base most : ℕ) (bytes : List ℕ) (local : List Bool) (r : Result (Vec (List ℕ) Global) Fail) → count ≤ most → IsCounted count least base bytes → Gives refusal (λ kept. kept.items) r (entries_in base local bytes)
    → IfOk r (λ kept. length kept.items ≤ most)
few_kept count least base most bytes local (Ok kept) few counted e =
    let all = kept_len local counted.boxes.children kept.items (rw counted.boxes.read at e) in
    omega (arith, counted.number)
few_kept count least base most bytes local (Err fail) few counted e = tt
