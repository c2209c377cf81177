-- The items of each table, by the number at their place in its body.
use Rattle.std.proofs.Common.{◌≡◌, ℕ, zero, suc, ◌+◌, ◌*◌, ◌/◌, ◌%◌, ◌<◌, Bool, true, false, List, [], ◌∷◌, length, drop, slice_index, refl, sym, ap, ◌∙◌, arith}
use Rattle.std.proofs.lemmas.Bool.{ne_eqb}
use Rattle.std.proofs.lemmas.List.{get_or-take, get_or-drop, get_or-replicate}
use Rattle.mp_boxes.specs.Number.{u16_at, u32_at, u64_at}
use Rattle.mp_chunks.specs.declared.chunks.ChunkRun.{ChunkRun}
use Rattle.mp_boxes.specs.FullBox.{row_count}
use Rattle.mp_chunks.specs.Sizes.{sample_count, common_size, stsz_of, stz2_of, halves, field_bits}
use Rattle.mp_chunks.specs.Chunks.{chunk_offsets_of, stsc_of, run_at, no_run}
use Rattle.mp_chunks.proofs.RowsAreRead.{get_or-map-rows_of, length-map-rows_of, u16_in_row, u32_in_row, u64_in_row}

pub wide_offset : (wide : Bool) (body : List ℕ) (j : ℕ) → wide ≡ true → j < row_count body → u64_at body (8 + 8 * j) ≡ slice_index (chunk_offsets_of wide body) j
unfolding chunk_offsets_of
wide_offset wide body j e lt =
    rw e
    (sym
    (get_or-map-rows_of (λ (row : List ℕ). u64_at row 0) (row_count body) 8 j (drop 8 body) 0 lt ∙ (u64_in_row 8 8 (8 * j) 0 body (omega arith) ∙ ap (u64_at body) (omega arith))))

pub short_offset : (wide : Bool) (body : List ℕ) (j : ℕ) → wide ≡ false → j < row_count body → u32_at body (8 + 4 * j) ≡ slice_index (chunk_offsets_of wide body) j
unfolding chunk_offsets_of
short_offset wide body j e lt =
    rw e
    (sym
    (get_or-map-rows_of (λ (row : List ℕ). u32_at row 0) (row_count body) 4 j (drop 8 body) 0 lt ∙ (u32_in_row 4 8 (4 * j) 0 body (omega arith) ∙ ap (u32_at body) (omega arith))))

pub offsets_len : (wide : Bool) (body : List ℕ) → length (chunk_offsets_of wide body) ≡ row_count body
unfolding chunk_offsets_of
offsets_len true body = length-map-rows_of (λ (row : List ℕ). u64_at row 0) (row_count body) 8 (drop 8 body)
offsets_len false body = length-map-rows_of (λ (row : List ℕ). u32_at row 0) (row_count body) 4 (drop 8 body)

-- a run by its three numbers
same_run : (run other : ChunkRun) → run.first ≡ other.first → run.samples ≡ other.samples → run.entry ≡ other.entry → run ≡ other
same_run run other p q r = λ i. record { first = p i; samples = q i; entry = r i }

pub run_read : (body : List ℕ) (j first samples entry : ℕ) → j < row_count body → first ≡ u32_at body (8 + 12 * j) → samples ≡ u32_at body (8 + 12 * j + 4) → entry ≡ u32_at body (8 + 12 * j + 8)
    → ◌≡◌ {A = ChunkRun} record { first = first; samples = samples; entry = entry } (run_at (stsc_of body) j)
unfolding stsc_of
run_read body j first samples entry lt p q r =
    same_run _ _ (p ∙ sym (u32_in_row 12 8 (12 * j) 0 body (omega arith) ∙ ap (u32_at body) (omega arith))) (q ∙ sym (u32_in_row 12 8 (12 * j) 4 body (omega arith))) (r ∙ sym (u32_in_row 12 8 (12 * j) 8 body (omega arith)))
    ∙ sym (get_or-map-rows_of (λ (row : List ℕ). record { first = u32_at row 0; samples = u32_at row 4; entry = u32_at row 8 }) (row_count body) 12 j (drop 8 body) no_run lt)

pub stsc_len : (body : List ℕ) → length (stsc_of body) ≡ row_count body
unfolding stsc_of
stsc_len body = length-map-rows_of _ (row_count body) 12 (drop 8 body)

pub own_size : (body : List ℕ) (j : ℕ) → u32_at body 4 ≡ 0 → j < sample_count body → u32_at body (12 + 4 * j) ≡ slice_index (stsz_of body) j
unfolding stsz_of
own_size body j e lt =
    rw e
    (sym
    (get_or-map-rows_of (λ (row : List ℕ). u32_at row 0) (sample_count body) 4 j (drop 12 body) 0 lt ∙ (u32_in_row 4 12 (4 * j) 0 body (omega arith) ∙ ap (u32_at body) (omega arith))))

pub same_size : (body : List ℕ) (j : ℕ) → (u32_at body 4 ≡ 0 → ⊥) → j < sample_count body → u32_at body 4 ≡ slice_index (stsz_of body) j
unfolding stsz_of
same_size body j ne lt = rw (ne_eqb (u32_at body 4) 0 ne) (sym (get_or-replicate (sample_count body) j (common_size body) 0 lt))

-- the halves of the byte before which there are k
high_half : (bytes : List ℕ) (k : ℕ) → k < length bytes → slice_index (halves bytes) (2 * k) ≡ slice_index bytes k / 16
high_half [] k lt = absurd (omega arith)
high_half (b ∷ bytes) zero lt = refl
high_half (b ∷ bytes) (suc k) lt = let e : 2 * suc k ≡ suc (suc (2 * k)) = omega arith in rw e (high_half bytes k (omega arith))

low_half : (bytes : List ℕ) (k : ℕ) → k < length bytes → slice_index (halves bytes) (suc (2 * k)) ≡ slice_index bytes k % 16
low_half [] k lt = absurd (omega arith)
low_half (b ∷ bytes) zero lt = refl
low_half (b ∷ bytes) (suc k) lt = let e : 2 * suc k ≡ suc (suc (2 * k)) = omega arith in rw e (low_half bytes k (omega arith))

pub even_half : (body : List ℕ) (j byte : ℕ) → j % 2 ≡ 0 → j / 2 < length (drop 12 body) → byte ≡ slice_index body (12 + j / 2) → byte / 16 ≡ slice_index (halves (drop 12 body)) j
even_half body j byte even lt e =
    let twice : 2 * (j / 2) ≡ j = omega arith in
    ap (λ (b : ℕ). b / 16) (e ∙ sym (get_or-drop 12 body (j / 2) 0)) ∙ (sym (high_half (drop 12 body) (j / 2) lt) ∙ ap (slice_index (halves (drop 12 body))) twice)

pub odd_half : (body : List ℕ) (j byte : ℕ) → (j % 2 ≡ 0 → ⊥) → j / 2 < length (drop 12 body) → byte ≡ slice_index body (12 + j / 2) → byte % 16 ≡ slice_index (halves (drop 12 body)) j
odd_half body j byte odd lt e =
    let twice : suc (2 * (j / 2)) ≡ j = omega (arith, odd) in
    ap (λ (b : ℕ). b % 16) (e ∙ sym (get_or-drop 12 body (j / 2) 0)) ∙ (sym (low_half (drop 12 body) (j / 2) lt) ∙ ap (slice_index (halves (drop 12 body))) twice)

pub half_field : (body : List ℕ) (j size : ℕ) → field_bits body ≡ 4 → j < sample_count body → size ≡ slice_index (halves (drop 12 body)) j → size ≡ slice_index (stz2_of body) j
unfolding stz2_of
half_field body j size e lt s = rw e (s ∙ sym (get_or-take (sample_count body) (halves (drop 12 body)) j 0 lt))

pub byte_field : (body : List ℕ) (j size : ℕ) → field_bits body ≡ 8 → j < sample_count body → size ≡ slice_index body (12 + j) → size ≡ slice_index (stz2_of body) j
unfolding stz2_of
byte_field body j size e lt s = rw e (s ∙ sym (get_or-take (sample_count body) (drop 12 body) j 0 lt ∙ get_or-drop 12 body j 0))

pub pair_field : (body : List ℕ) (j size : ℕ) → (field_bits body ≡ 4 → ⊥) → (field_bits body ≡ 8 → ⊥) → j < sample_count body → size ≡ u16_at body (12 + 2 * j) → size ≡ slice_index (stz2_of body) j
unfolding stz2_of
pair_field body j size four eight lt s =
    rw (ne_eqb (field_bits body) 4 four, ne_eqb (field_bits body) 8 eight)
    (s
    ∙ sym
    (get_or-map-rows_of (λ (row : List ℕ). u16_at row 0) (sample_count body) 2 j (drop 12 body) 0 lt ∙ (u16_in_row 2 12 (2 * j) 0 body (omega arith) ∙ ap (u16_at body) (omega arith))))
