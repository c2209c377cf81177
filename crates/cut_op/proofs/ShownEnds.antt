-- Where what is shown of a media ends, in the unit of its pieces.
use Rattle.std.proofs.Common.{◌≡◌, ℕ, ℤ, pos, ◌+◌, ◌-◌, ◌*◌, ◌^◌, ◌<◌, ◌≤◌, min, ◌*ℤ◌, ◌-ℤ◌, ◌≤ℤ◌, Bool, true, false, cond, ltb, List, [], ◌∷◌, refl, sym, ap, subst, ◌∙◌, arith, inl, inr, true≢false}
use Rattle.std.specs.Prelude.{int_lt, unsigned_abs}
use Rattle.std.proofs.lemmas.Bool.{cases_lt, lt-ltb, le-ltb}
use Rattle.std.proofs.lemmas.Int.{ints}
use Rattle.mp_frac.specs.declared.time.Frac.{Frac}
use Rattle.mp_frac.specs.Time.{IsInRange, IsSameTime, in_ticks}
use Rattle.mp_shown.specs.Fractions.{is_before}
use Rattle.mp_clip.specs.Clipped.{IsRange, unit}
use Rattle.cut_op.specs.Between.{IsShownEnd, between}
use Rattle.cut_op.proofs.MediaShapes.{begin_is, begins_before, begins_behind, length_is, some_parts, stop_media, stop_range, times_some}
use Rattle.cut_op.proofs.Shows.{natural}
use Rattle.cut_op.proofs.Totals.{lt-from-ltb}

le-times : (a b k : ℕ) → a ≤ b → a * k ≤ b * k
le-times a b k le = grind arith

le-times-right : (k a b : ℕ) → a ≤ b → k * a ≤ k * b
le-times-right k a b le = grind arith

pub shown_end_is : (scale extent : ℕ) (to end : Frac) → 0 < scale → IsInRange to → pos 0 ≤ℤ to.n → extent < 2 ^ 57 → end ≡ cond (is_before to (in_ticks (pos extent) scale)) to (in_ticks (pos extent) scale) → IsShownEnd scale extent to end
shown_end_is scale extent to end some range after short is = by (is_before to (in_ticks (pos extent) scale)) refl is
  where
    naturals : is_before to (in_ticks (pos extent) scale) ≡ ltb (unsigned_abs to.n * scale) (extent * to.d)
    naturals = ap (λ (z : ℤ). int_lt (z *ℤ pos scale) (pos extent *ℤ pos to.d)) (natural to.n after)

    by : (b : Bool) → is_before to (in_ticks (pos extent) scale) ≡ b → end ≡ cond b to (in_ticks (pos extent) scale) → IsShownEnd scale extent to end
    by true test e =
        let lt = lt-from-ltb (unsigned_abs to.n * scale) (extent * to.d) (sym naturals ∙ test) in
        let more = le-times extent (2 ^ 57) to.d (omega (arith, short)) in
        let once = le-times-right (unsigned_abs to.n) 1 scale (omega (arith, some)) in
        let one : unsigned_abs to.n * 1 ≡ unsigned_abs to.n = omega arith in
        subst (IsShownEnd scale extent to) (sym e) (record {
          is = sym (ap (λ (b : Bool). cond b to (in_ticks (pos extent) scale)) test);
          range = range;
          after = after;
          short = omega (arith, lt, more, once, one);
        })
    by false test e =
        let more = le-times 1 scale (2 ^ 57) (omega (arith, some)) in
        subst (IsShownEnd scale extent to) (sym e) (record {
          is = sym (ap (λ (b : Bool). cond b to (in_ticks (pos extent) scale)) test);
          range = record { some = some; small = omega (arith, short) };
          after = omega (arith, ints);
          short = omega (arith, short, more);
        })

-- in the unit of the pieces
module _ (scale movie extent : ℕ) (from to end : Frac) (some_scale : 0 < scale) (some_movie : 0 < movie) (range : IsRange from to) (ends : IsShownEnd scale extent to end) where
  abbrev pub first : ℕ
  first = unsigned_abs from.n * movie * (to.d * scale)

  abbrev pub stop : ℕ
  stop = min (unsigned_abs to.n * movie * (from.d * scale)) (extent * (movie * (from.d * to.d)))

  stop_is : stop * end.d ≡ unsigned_abs end.n * (movie * scale * (from.d * to.d))
  stop_is = by (is_before to (in_ticks (pos extent) scale)) refl ends.is
    where
      naturals : is_before to (in_ticks (pos extent) scale) ≡ ltb (unsigned_abs to.n * scale) (extent * to.d)
      naturals = ap (λ (z : ℤ). int_lt (z *ℤ pos scale) (pos extent *ℤ pos to.d)) (natural to.n range.end)

      not_less : (a b : ℕ) → ltb a b ≡ false → b ≤ a
      not_less a b test = elim (cases_lt a b) [
        | inl lt ↦ absurd (true≢false (sym (lt-ltb a b lt) ∙ test))
        | inr le ↦ le
      ]

      by : (b : Bool) → is_before to (in_ticks (pos extent) scale) ≡ b → end ≡ cond b to (in_ticks (pos extent) scale) → stop * end.d ≡ unsigned_abs end.n * (movie * scale * (from.d * to.d))
      by true test e =
          subst (λ (x : Frac). stop * x.d ≡ unsigned_abs x.n * (movie * scale * (from.d * to.d))) (sym e)
          (stop_range scale movie from.d to.d (unsigned_abs from.n) (unsigned_abs to.n) extent (unsigned_abs to.n) to.d some_scale some_movie range.some_begin.some range.some_end.some range.some_end.some
          (lt-from-ltb (unsigned_abs to.n * scale) (extent * to.d) (sym naturals ∙ test)))
      by false test e =
          subst (λ (x : Frac). stop * x.d ≡ unsigned_abs x.n * (movie * scale * (from.d * to.d))) (sym e)
          (stop_media scale movie from.d to.d (unsigned_abs from.n) (unsigned_abs to.n) extent extent scale some_scale some_movie range.some_begin.some range.some_end.some some_scale
          (not_less (unsigned_abs to.n * scale) (extent * to.d) (sym naturals ∙ test)))

  naturals : is_before from end ≡ ltb (unsigned_abs from.n * end.d) (unsigned_abs end.n * from.d)
  naturals = ap (λ (z : ℤ). int_lt (z *ℤ pos end.d) (end.n *ℤ pos from.d)) (natural from.n range.begin) ∙ ap (λ (z : ℤ). int_lt (pos (unsigned_abs from.n) *ℤ pos end.d) (z *ℤ pos from.d)) (natural end.n ends.after)

  pub before : is_before from end ≡ true → first < stop
  before test =
      begins_before scale movie from.d to.d (unsigned_abs from.n) (unsigned_abs to.n) extent (unsigned_abs end.n) end.d some_scale some_movie range.some_begin.some range.some_end.some ends.range.some stop_is
      (lt-from-ltb (unsigned_abs from.n * end.d) (unsigned_abs end.n * from.d) (sym naturals ∙ test))

  pub not_before : is_before from end ≡ false → stop ≤ first
  not_before test =
      begins_behind scale movie from.d to.d (unsigned_abs from.n) (unsigned_abs to.n) extent (unsigned_abs end.n) end.d some_scale some_movie range.some_begin.some range.some_end.some ends.range.some stop_is
      (not_less (unsigned_abs from.n * end.d) (unsigned_abs end.n * from.d) (sym naturals ∙ test))
    where
      not_less : (a b : ℕ) → ltb a b ≡ false → b ≤ a
      not_less a b test = elim (cases_lt a b) [
        | inl lt ↦ absurd (true≢false (sym (lt-ltb a b lt) ∙ test))
        | inr le ↦ le
      ]

  pub some_unit : 0 < movie * scale * (from.d * to.d)
  some_unit = some_parts scale movie from.d to.d (unsigned_abs from.n) (unsigned_abs to.n) extent (unsigned_abs end.n) end.d some_scale some_movie range.some_begin.some range.some_end.some ends.range.some

  -- the begin as a time, and how long it is from there
  pub first_same : IsSameTime from (in_ticks (pos first) (unit scale movie from to))
  first_same = record {
    positive = range.some_begin.some;
    other_positive = some_unit;
    crosswise =
        ap (λ (z : ℤ). z *ℤ pos (movie * scale * (from.d * to.d))) (natural from.n range.begin)
        ∙ ap pos (sym (begin_is scale movie from.d to.d (unsigned_abs from.n) (unsigned_abs to.n) extent (unsigned_abs end.n) end.d some_scale some_movie range.some_begin.some range.some_end.some ends.range.some));
  }

  pub length_same : is_before from end ≡ true → IsSameTime (between from end) (in_ticks (pos (stop - first)) (unit scale movie from to))
  length_same test =
      let lt = lt-from-ltb (unsigned_abs from.n * end.d) (unsigned_abs end.n * from.d) (sym naturals ∙ test) in
      let difference : end.n *ℤ pos from.d -ℤ from.n *ℤ pos end.d ≡ pos (unsigned_abs end.n * from.d - unsigned_abs from.n * end.d) =
      ap (λ (z : ℤ). z *ℤ pos from.d -ℤ from.n *ℤ pos end.d) (natural end.n ends.after) ∙ (ap (λ (z : ℤ). pos (unsigned_abs end.n) *ℤ pos from.d -ℤ z *ℤ pos end.d) (natural from.n range.begin) ∙ less (unsigned_abs end.n * from.d) (unsigned_abs from.n * end.d) (omega (arith, lt))) in
      record {
        positive = times_some end.d from.d ends.range.some range.some_begin.some;
        other_positive = some_unit;
        crosswise =
            ap (λ (z : ℤ). z *ℤ pos (movie * scale * (from.d * to.d))) difference
            ∙ ap pos (sym (length_is scale movie from.d to.d (unsigned_abs from.n) (unsigned_abs to.n) extent (unsigned_abs end.n) end.d some_scale some_movie range.some_begin.some range.some_end.some ends.range.some stop_is));
      }
    where
      less : (a b : ℕ) → b ≤ a → pos a -ℤ pos b ≡ pos (a - b)
      less a b le = omega (arith, ints, le)
