-- How long pieces that are told last, and whether one of them starts late.
use Rattle.std.proofs.Common.{◌≡◌, ℕ, pos, ◌+◌, ◌-◌, ◌*◌, ◌/◌, ◌^◌, ◌<◌, ◌≤◌, max, Bool, true, false, leb, ◌||◌, List, [], ◌∷◌, map, refl, sym, ap, subst, ◌∙◌, arith, inl, inr}
use Rattle.std.specs.Int.{◌∣◌}
use Rattle.std.specs.List.{AllByRecursion, list_any}
use Rattle.std.proofs.Math.Nat.{add-mul, div-mul_cancel, eq_of_mul-eq-mul_right, mul_assoc}
use Rattle.std.proofs.lemmas.Bool.{cases_lt}
use Rattle.std.proofs.lemmas.Int.{ints}
use Rattle.std.proofs.lemmas.List.Sums.{sum_by-cons}
use Rattle.mp_frac.specs.Law.{WholenessIsDivision}
use Rattle.mp_frac.specs.Time.{IsWhole, in_ticks}
use Rattle.mp_timeline.specs.declared.segment.Segment.{Segment}
use Rattle.mp_timeline.specs.declared.segment.Segment.TheVariants.{Empty, Media}
use Rattle.mp_timeline.specs.Same.{IsSameSegment}
use Rattle.mp_edits.specs.Segments.{duration, starts_late, total}
use Rattle.mp_movie.specs.Durations.{greatest}
use Rattle.mp_clip.specs.Clipped.{TellsBack, as_times, later, starts}
use Rattle.cut_op.proofs.Units.{lt-times}

pos_same : (a b : ℕ) → pos a ≡ pos b → a ≡ b
pos_same a b e = omega (arith, ints, e)

max-times : (a b k : ℕ) → max (a * k) (b * k) ≡ max a b * k
max-times a b k = grind arith

late_or : (s b g : ℕ) → (leb (2 ^ 62) s || leb (2 ^ 62 + b) g) ≡ leb (2 ^ 62 + b) (max (s + b) g)
late_or s b g = grind arith

never_late : (b : ℕ) → false ≡ leb (2 ^ 62 + b) 0
never_late b = grind arith

module _ (unit media movie back : ℕ) where
  -- how long they last together
  pub tells_total : (pieces made : List Segment) → TellsBack unit media movie back pieces made → total made * unit ≡ total pieces * movie
  tells_total [] [] told = omega arith
  tells_total [] (one ∷ made) told = absurd told
  tells_total (piece ∷ pieces) [] told = absurd told
  tells_total (piece ∷ pieces) (one ∷ made) told =
      let here : duration one * unit ≡ duration piece * movie = by piece one told.0 in
      let rest = tells_total pieces made told.1 in
      ap (λ (x : ℕ). x * unit) (sum_by-cons duration one made) ∙ (add-mul (duration one) (total made) unit
      ∙ (ap (λ (x : ℕ). x + total made * unit) here ∙ (ap (λ (x : ℕ). duration piece * movie + x) rest ∙ (sym (add-mul (duration piece) (total pieces) movie) ∙ ap (λ (x : ℕ). x * movie) (sym (sum_by-cons duration piece pieces))))))
    where
      by : (a b : Segment) → IsSameSegment unit movie unit media a (later back b) → duration b * unit ≡ duration a * movie
      by (Empty dur) (Empty other) told = sym (pos_same (dur * movie) (other * unit) told.crosswise)
      by (Media start dur) (Media at other) told = sym (pos_same (dur * movie) (other * unit) told.1.crosswise)
      by (Empty dur) (Media at other) told = absurd told
      by (Media start dur) (Empty other) told = absurd told

  -- the greatest start, so many ticks later, and whether it is late
  record IsLate (pieces made : List Segment) : Type 0 where
    pub found : ℕ
    pub is : greatest (starts pieces) * media ≡ found * unit
    pub late : list_any starts_late made ≡ leb (2 ^ 62 + back) found

  each_late : (pieces made : List Segment) → TellsBack unit media movie back pieces made → IsLate pieces made
  each_late [] [] told = record { found = 0; is = omega arith; late = never_late back }
  each_late [] (one ∷ made) told = absurd told
  each_late (piece ∷ pieces) [] told = absurd told
  each_late (Empty dur ∷ pieces) (Empty other ∷ made) told = let rest = each_late pieces made told.1 in record { found = rest.found; is = rest.is; late = rest.late }
  each_late (Media start dur ∷ pieces) (Media at other ∷ made) told =
      let rest = each_late pieces made told.1 in
      let here : start * media ≡ (at + back) * unit = pos_same (start * media) ((at + back) * unit) told.0.0.crosswise in
      record {
        found = max (at + back) rest.found;
        is = sym (max-times start (greatest (starts pieces)) media) ∙ (ap (λ (x : ℕ). max x (greatest (starts pieces) * media)) here ∙ (ap (max ((at + back) * unit)) rest.is ∙ max-times (at + back) rest.found unit));
        late = ap (λ (b : Bool). leb (2 ^ 62) at || b) rest.late ∙ late_or at back rest.found;
      }
  each_late (Empty dur ∷ pieces) (Media at other ∷ made) told = absurd told.0
  each_late (Media start dur ∷ pieces) (Empty other ∷ made) told = absurd told.0

  pub tells_late : (pieces made : List Segment) (found : ℕ) → 0 < unit → greatest (starts pieces) * media ≡ found * unit → TellsBack unit media movie back pieces made → list_any starts_late made ≡ leb (2 ^ 62 + back) found
  tells_late pieces made found some is told =
      let late = each_late pieces made told in
      late.late ∙ ap (leb (2 ^ 62 + back)) (eq_of_mul-eq-mul_right unit some late.found found (sym late.is ∙ is))

-- ---- whole pieces can be told

-- some segments that tell the pieces
pub record CanBeTold (unit media movie back : ℕ) (pieces : List Segment) : Type 0 where
  pub made : List Segment
  pub told : TellsBack unit media movie back pieces made

module _ (law : WholenessIsDivision) (unit media movie back : ℕ) (some_unit : 0 < unit) (some_media : 0 < media) (some_movie : 0 < movie) where
  whole_ticks : (n scale : ℕ) → 0 < scale → IsWhole scale (in_ticks (pos n) unit) → n * scale / unit * unit ≡ n * scale
  whole_ticks n scale some whole = div-mul_cancel unit ((law scale (in_ticks (pos n) unit) some some_unit).0 whole)

  pub tell : (pieces : List Segment) → AllByRecursion (IsWhole media) (as_times unit (starts pieces)) → AllByRecursion (λ start. back * unit ≤ start * media) (starts pieces)
      → AllByRecursion (IsWhole movie) (as_times unit (map duration pieces)) → CanBeTold unit media movie back pieces
  tell [] begins late lasts = record { made = []; told = tt }
  tell (Empty dur ∷ pieces) begins late lasts =
      let rest = tell pieces begins late lasts.1 in
      record {
        made = Empty (dur * movie / unit) ∷ rest.made;
        told = (record { positive = some_unit; other_positive = some_movie; crosswise = ap pos (sym (whole_ticks dur movie some_movie lasts.0)) }, rest.told);
      }
  tell (Media start dur ∷ pieces) begins late lasts =
      let rest = tell pieces begins.1 late.1 lasts.1 in
      let whole = whole_ticks start media some_media begins.0 in
      let enough : back ≤ start * media / unit = at_least back (start * media / unit) unit some_unit (subst (λ (x : ℕ). back * unit ≤ x) (sym whole) late.0) in
      let more : start * media / unit - back + back ≡ start * media / unit = omega (arith, enough) in
      record {
        made = Media (start * media / unit - back) (dur * movie / unit) ∷ rest.made;
        told = (
          (
            record { positive = some_unit; other_positive = some_media; crosswise = ap pos (sym (ap (λ (x : ℕ). x * unit) more ∙ whole)) },
            record { positive = some_unit; other_positive = some_movie; crosswise = ap pos (sym (whole_ticks dur movie some_movie lasts.0)) },
          ),
          rest.told,
        );
      }
    where
      at_least : (a b k : ℕ) → 0 < k → a * k ≤ b * k → a ≤ b
      at_least a b k some le = elim (cases_lt b a) [
        | inr ge ↦ ge
        | inl less ↦ let lt = lt-times b a k some less in absurd (omega (arith, lt, le))
      ]
