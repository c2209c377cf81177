-- Offsets that are moved in three steps fit 64 bits at each.
use Rattle.std.proofs.Common.{◌≡◌, ℕ, ℤ, pos, ◌+◌, ◌-◌, ◌*◌, ◌/◌, ◌%◌, ◌^◌, ◌<◌, ◌≤◌, ◌+ℤ◌, ◌*ℤ◌, ◌≤ℤ◌, ◌<ℤ◌, neg_ℤ, FitsSigned, w64, List, [], ◌∷◌, length, map, get_or, refl, sym, ap, ◌∙◌, arith, subst}
use Rattle.std.specs.Prelude.{All}
use Rattle.std.proofs.Math.Nat.{div-add-mod'}
use Rattle.std.proofs.lemmas.Int.{ints, by_lt_z}
use Rattle.std.proofs.lemmas.Nat.{mod_below}
use Rattle.std.proofs.lemmas.List.{get_or-map, length-map}
use Rattle.std.proofs.lemmas.Simd.{map-map}
use Rattle.cut_op.specs.Placed.{FitsOffset, moved_offset}
use Rattle.cut_op.proofs.Units.{add-times, le_z-times}

module _ (factor ahead : ℕ) (some : 0 < factor) (short : factor < 2 ^ 32) where
  abbrev pub ticks : ℕ
  ticks = ahead / factor

  abbrev pub rest : ℕ
  rest = ahead % factor

  steps : (offset : ℤ) → (offset +ℤ pos ticks) *ℤ pos factor +ℤ pos rest ≡ moved_offset factor ahead offset
  steps offset =
      let product = add-times offset (pos ticks) factor in
      let whole : pos (ticks * factor) *ℤ pos 1 ≡ pos (ticks * factor) = omega (arith, ints) in
      let split = div-add-mod' ahead factor in
      rw (product) (omega (arith, ints, split))

  -- what is known of an offset that fits before and behind
  record Fit (offset : ℤ) : Type 0 where
    pub low : neg_ℤ (pos (2 ^ 31)) ≤ℤ (offset +ℤ pos ticks)
    pub high : (offset +ℤ pos ticks) <ℤ pos (2 ^ 32)
    pub few : ticks < 2 ^ 33

  fit : (offset : ℤ) → FitsOffset offset → FitsOffset (moved_offset factor ahead offset) → Fit offset
  fit offset old new =
      let is = steps offset in
      let high : (offset +ℤ pos ticks) <ℤ pos (2 ^ 32) = by_lt_z (offset +ℤ pos ticks) (pos (2 ^ 32)) (λ lt. lt)
      (λ le. let more = le_z-times (pos (2 ^ 32)) (offset +ℤ pos ticks) factor le in absurd (omega (arith, ints, is, new.high, more, some))) in
      record { low = omega (arith, ints, old.low); high = high; few = omega (arith, ints, high, old.low) }

  signed : (z : ℤ) → neg_ℤ (pos (2 ^ 63)) ≤ℤ z → z <ℤ pos (2 ^ 63) → FitsSigned w64 z
  signed z low high = omega (arith, ints, low, high)

  module _ (offsets : List ℤ) (old : All FitsOffset offsets) (new : All (λ offset. FitsOffset (moved_offset factor ahead offset)) offsets) where
    fit_at : (k : ℕ) (d : ℤ) → k < length offsets → Fit (get_or offsets k d)
    fit_at k d lt = fit (get_or offsets k d) (old k d lt) (new k d lt)

    pub few_ticks : 0 < length offsets → ahead / factor < 2 ^ 63
    few_ticks lt = let few = (fit_at 0 (pos 0) lt).few in omega (arith, few)

    pub first_fits : All (λ x. FitsSigned w64 (x +ℤ pos (ahead / factor))) offsets
    first_fits = λ k d lt. let f = fit_at k d lt in signed (get_or offsets k d +ℤ pos ticks) (omega (arith, ints, f.low)) (omega (arith, ints, f.high))

    pub second_fits : (shifted : List ℤ) → shifted ≡ map (λ x. x +ℤ pos (ahead / factor)) offsets → All (λ x. FitsSigned w64 (x *ℤ pos factor)) shifted
    second_fits shifted is = λ k d lt.
        let long : length shifted ≡ length offsets = ap length is ∙ length-map offsets (λ x. x +ℤ pos ticks) in
        let item : get_or shifted k d ≡ get_or offsets k (pos 0) +ℤ pos ticks = ap (λ (xs : List ℤ). get_or xs k d) is ∙ get_or-map (λ x. x +ℤ pos ticks) offsets k (pos 0) d (omega (arith, lt, long)) in
        let there = new k (pos 0) (omega (arith, lt, long)) in
        let small = mod_below ahead factor some in
        let whole = steps (get_or offsets k (pos 0)) in
        let low = there.low in
        let high = there.high in
        subst (λ (z : ℤ). FitsSigned w64 (z *ℤ pos factor)) (sym item)
        (signed ((get_or offsets k (pos 0) +ℤ pos ticks) *ℤ pos factor) (omega (arith, ints, whole, low, small, short)) (omega (arith, ints, whole, high)))

    pub third_fits : (shifted scaled : List ℤ) → shifted ≡ map (λ x. x +ℤ pos (ahead / factor)) offsets → scaled ≡ map (λ x. x *ℤ pos factor) shifted → All (λ x. FitsSigned w64 (x +ℤ pos (ahead % factor))) scaled
    third_fits shifted scaled is next = λ k d lt.
        let both : scaled ≡ map (λ x. (x +ℤ pos ticks) *ℤ pos factor) offsets = next ∙ (ap (map (λ x. x *ℤ pos factor)) is ∙ map-map (λ x. x *ℤ pos factor) (λ x. x +ℤ pos ticks) offsets) in
        let long : length scaled ≡ length offsets = ap length both ∙ length-map offsets (λ x. (x +ℤ pos ticks) *ℤ pos factor) in
        let item : get_or scaled k d ≡ (get_or offsets k (pos 0) +ℤ pos ticks) *ℤ pos factor = ap (λ (xs : List ℤ). get_or xs k d) both ∙ get_or-map (λ x. (x +ℤ pos ticks) *ℤ pos factor) offsets k (pos 0) d (omega (arith, lt, long)) in
        let there = new k (pos 0) (omega (arith, lt, long)) in
        let whole = steps (get_or offsets k (pos 0)) in
        let low = there.low in
        let high = there.high in
        subst (λ (z : ℤ). FitsSigned w64 (z +ℤ pos rest)) (sym item)
        (signed ((get_or offsets k (pos 0) +ℤ pos ticks) *ℤ pos factor +ℤ pos rest) (omega (arith, ints, whole, low)) (omega (arith, ints, whole, high)))

  pub all_moved : (offsets shifted scaled made : List ℤ) → shifted ≡ map (λ x. x +ℤ pos (ahead / factor)) offsets → scaled ≡ map (λ x. x *ℤ pos factor) shifted → made ≡ map (λ x. x +ℤ pos (ahead % factor)) scaled
      → made ≡ map (moved_offset factor ahead) offsets
  all_moved offsets shifted scaled made is next last =
      last ∙ (ap (map (λ x. x +ℤ pos rest)) next ∙ (ap (λ (xs : List ℤ). map (λ x. x +ℤ pos rest) (map (λ x. x *ℤ pos factor) xs)) is ∙ each offsets))
    where
      each : (xs : List ℤ) → map (λ x. x +ℤ pos rest) (map (λ x. x *ℤ pos factor) (map (λ x. x +ℤ pos ticks) xs)) ≡ map (moved_offset factor ahead) xs
      each [] = refl
      each (x ∷ xs) = rw (steps x, each xs) refl
