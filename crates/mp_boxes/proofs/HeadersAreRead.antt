-- A header that was spelled is read, whatever follows it.
use Rattle.std.proofs.Common.{◌≡◌, ℕ, ◌+◌, ◌^◌, ◌<◌, ◌≤◌, Bool, false, not, ◌&&◌, ltb, eqb, List, ◌++◌, length, Ok, refl, sym, ap, ◌∙◌, append_assoc, arith}
use Rattle.std.specs.Int.{w32, w64, to_be_bytes}
use Rattle.std.proofs.lemmas.Bool.{le-ltb, ne_eqb}
use Rattle.std.proofs.lemmas.List.{length-append}
use Rattle.mp_boxes.specs.Number.{u32_at, u64_at, kind_at}
use Rattle.mp_boxes.specs.Header.{Spelling, Short, Long, Open, header_of, IsAllowed, IsHeader}
use Rattle.mp_boxes.proofs.NumbersAreRead.{u32_at-written, kind_at-behind, u64_at-behind}
use Rattle.mp_boxes.specs.Head.{header_len, box_size, head_from, head_at}

-- the type behind the size, and the long size behind the type
kind_at-second : (n : ℕ) (kind rest : List ℕ) → length kind ≡ 4 → kind_at (to_be_bytes w32 n ++ (kind ++ rest)) 4 ≡ kind
kind_at-second n kind rest four = kind_at-behind (to_be_bytes w32 n) kind rest 4 refl four

u64_at-third : (m n : ℕ) (kind rest : List ℕ) → length kind ≡ 4 → n < 2 ^ 64 → u64_at (to_be_bytes w32 m ++ (kind ++ (to_be_bytes w64 n ++ rest))) 8 ≡ n
u64_at-third m n kind rest four h =
    ap (λ (x : List ℕ). u64_at x 8) (sym (append_assoc (to_be_bytes w32 m) kind (to_be_bytes w64 n ++ rest)))
    ∙ u64_at-behind (to_be_bytes w32 m ++ kind) n rest 8 (omega (arith, length-append (to_be_bytes w32 m) kind)) h

-- reading succeeds where each test passes
head_from-ok : (top : Bool) (front : List ℕ) (rest : ℕ) (kind : List ℕ) (head len : ℕ) → kind_at front 4 ≡ kind → header_len front ≡ head → box_size front rest ≡ len
    → ((eqb (u32_at front 0) 0) && not top) ≡ false → 8 ≤ head → head ≤ len → len ≤ rest → head_from top front rest ≡ Ok (record { kind = kind; head = head; len = len })
head_from-ok top front rest kind head len k h l closed a b c =
    let t1 : ltb rest 8 ≡ false = le-ltb _ _ (omega arith) in
    let t2 : ltb rest head ≡ false = le-ltb _ _ (omega arith) in
    let t3 : ltb len head ≡ false = le-ltb _ _ (omega arith) in
    let t4 : ltb rest len ≡ false = le-ltb _ _ (omega arith) in
    rw (h, l, k, t1, t2, closed, t3, t4) refl

-- the pieces of a header, with what follows it
short_is : (size : ℕ) (kind more rest : List ℕ) → (to_be_bytes w32 size ++ kind ++ more) ++ rest ≡ to_be_bytes w32 size ++ (kind ++ (more ++ rest))
short_is size kind more rest = append_assoc (to_be_bytes w32 size ++ kind) more rest ∙ append_assoc (to_be_bytes w32 size) kind (more ++ rest)

long_is : (size : ℕ) (kind wide more rest : List ℕ) → (to_be_bytes w32 size ++ kind ++ wide ++ more) ++ rest ≡ to_be_bytes w32 size ++ (kind ++ (wide ++ (more ++ rest)))
long_is size kind wide more rest =
    append_assoc (to_be_bytes w32 size ++ kind ++ wide) more rest ∙ (append_assoc (to_be_bytes w32 size ++ kind) wide (more ++ rest) ∙ append_assoc (to_be_bytes w32 size) kind (wide ++ (more ++ rest)))

short_len : (size : ℕ) (kind more : List ℕ) → length kind ≡ 4 → length (to_be_bytes w32 size ++ kind ++ more) ≡ 8 + length more
short_len size kind more e = omega (arith, length-append (to_be_bytes w32 size ++ kind) more, length-append (to_be_bytes w32 size) kind)

long_len : (size n : ℕ) (kind more : List ℕ) → length kind ≡ 4 → length (to_be_bytes w32 size ++ kind ++ to_be_bytes w64 n ++ more) ≡ 16 + length more
long_len size n kind more e =
    omega (arith, length-append (to_be_bytes w32 size ++ kind ++ to_be_bytes w64 n) more, length-append (to_be_bytes w32 size ++ kind) (to_be_bytes w64 n), length-append (to_be_bytes w32 size) kind)

-- a written header is read, whatever follows
pub head_at-written : (top : Bool) (kind body rest header : List ℕ) → IsHeader top kind (length body) rest header
    → head_at top (header ++ (body ++ rest)) ≡ Ok (record { kind = kind; head = length header; len = length header + length body })
head_at-written top kind body rest header h = go h.spelling h.allowed h.text
  where
    n : ℕ
    n = length body

    tail : List ℕ
    tail = body ++ rest

    whole : length (header ++ tail) ≡ length header + (n + length rest)
    whole = omega (arith, length-append header tail, length-append body rest)

    go : (s : Spelling) → IsAllowed top rest (length header + n) s → header ≡ header_of s kind h.more n → head_at top (header ++ tail) ≡ Ok (record { kind = kind; head = length header; len = length header + n })
    go Short a t =
        let size : ℕ = 8 + length h.more + n in
        let text : header ++ tail ≡ to_be_bytes w32 size ++ (kind ++ (h.more ++ tail)) = ap (λ (x : List ℕ). x ++ tail) t ∙ short_is size kind h.more tail in
        let len : length header ≡ 8 + length h.more = ap length t ∙ short_len size kind h.more h.kind_len in
        let fits : size < 2 ^ 32 = omega (arith, a, len) in
        let read : u32_at (header ++ tail) 0 ≡ size = rw text (u32_at-written size (kind ++ (h.more ++ tail)) fits) in
        let is_kind : kind_at (header ++ tail) 4 ≡ kind = rw text (kind_at-second size kind (h.more ++ tail) h.kind_len) in
        let not1 : eqb size 1 ≡ false = ne_eqb size 1 (λ e. omega arith) in
        let not0 : eqb size 0 ≡ false = ne_eqb size 0 (λ e. omega arith) in
        head_from-ok top (header ++ tail) (length (header ++ tail)) kind (length header) (length header + n) is_kind
        (rw (read, is_kind, not1) (omega (arith, h.more_len, len))) (rw (read, not1, not0) (omega (arith, len))) (rw (read, not0) refl) (omega (arith, len)) (omega arith) (omega (arith, whole))
    go Long a t =
        let size : ℕ = 16 + length h.more + n in
        let text : header ++ tail ≡ to_be_bytes w32 1 ++ (kind ++ (to_be_bytes w64 size ++ (h.more ++ tail))) = ap (λ (x : List ℕ). x ++ tail) t ∙ long_is 1 kind (to_be_bytes w64 size) h.more tail in
        let len : length header ≡ 16 + length h.more = ap length t ∙ long_len 1 size kind h.more h.kind_len in
        let fits : size < 2 ^ 64 = omega (arith, a, len) in
        let read : u32_at (header ++ tail) 0 ≡ 1 = rw text (u32_at-written 1 (kind ++ (to_be_bytes w64 size ++ (h.more ++ tail))) (omega arith)) in
        let is_kind : kind_at (header ++ tail) 4 ≡ kind = rw text (kind_at-second 1 kind (to_be_bytes w64 size ++ (h.more ++ tail)) h.kind_len) in
        let wide : u64_at (header ++ tail) 8 ≡ size = rw text (u64_at-third 1 size kind (h.more ++ tail) h.kind_len fits) in
        head_from-ok top (header ++ tail) (length (header ++ tail)) kind (length header) (length header + n) is_kind
        (rw (read, is_kind) (omega (arith, h.more_len, len))) (rw (read, wide) (omega (arith, len))) (rw read refl) (omega (arith, len)) (omega arith) (omega (arith, whole))
    go Open a t =
        let text : header ++ tail ≡ to_be_bytes w32 0 ++ (kind ++ (h.more ++ tail)) = ap (λ (x : List ℕ). x ++ tail) t ∙ short_is 0 kind h.more tail in
        let len : length header ≡ 8 + length h.more = ap length t ∙ short_len 0 kind h.more h.kind_len in
        let read : u32_at (header ++ tail) 0 ≡ 0 = rw text (u32_at-written 0 (kind ++ (h.more ++ tail)) (omega arith)) in
        let is_kind : kind_at (header ++ tail) 4 ≡ kind = rw text (kind_at-second 0 kind (h.more ++ tail) h.kind_len) in
        let none : length rest ≡ 0 = ap length a.1 in
        head_from-ok top (header ++ tail) (length (header ++ tail)) kind (length header) (length header + n) is_kind
        (rw (read, is_kind) (omega (arith, h.more_len, len))) (rw read (omega (arith, whole, none))) (rw (read, a.0) refl) (omega (arith, len)) (omega arith) (omega (arith, whole))

-- a header has at least 8 bytes
pub IsHeader-long : (top : Bool) (kind : List ℕ) (n : ℕ) (rest header : List ℕ) → IsHeader top kind n rest header → 8 ≤ length header
IsHeader-long top kind n rest header h = go h.spelling h.text
  where
    go : (s : Spelling) → header ≡ header_of s kind h.more n → 8 ≤ length header
    go Short t = omega (arith, ap length t, short_len (8 + length h.more + n) kind h.more h.kind_len)
    go Long t = omega (arith, ap length t, long_len 1 (16 + length h.more + n) kind h.more h.kind_len)
    go Open t = omega (arith, ap length t, short_len 0 kind h.more h.kind_len)
