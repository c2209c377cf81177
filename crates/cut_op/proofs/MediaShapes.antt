-- The shape of the pieces of a whole media, from times in lowest terms.
use Rattle.std.proofs.Common.{◌≡◌, ℕ, ℤ, zero, suc, pos, ◌+◌, ◌-◌, ◌*◌, ◌^◌, ◌<◌, ◌≤◌, min, max, ◌*ℤ◌, ◌-ℤ◌, ◌≤ℤ◌, Bool, true, false, cond, ltb, List, [], ◌∷◌, map, Option, Some, None, refl, sym, ap, subst, ◌∙◌, arith, inl, inr}
use Rattle.std.specs.Prelude.{int_lt, unsigned_abs}
use Rattle.std.specs.Int.{◌∣◌}
use Rattle.std.specs.List.{AllByRecursion}
use Rattle.std.proofs.Math.Nat.{dvd_of_mul-dvd-mul_right, dvd_refl, dvd-zero, eq_of_mul-eq-mul_right, le_of_dvd, mul-dvd-mul_right}
use Rattle.std.proofs.lemmas.Bool.{cases_lt, lt-ltb, le-ltb}
use Rattle.std.proofs.lemmas.Int.{ints}
use Rattle.mp_frac.specs.declared.time.Frac.{Frac}
use Rattle.mp_frac.specs.Divisors.{LimitedBy, most}
use Rattle.mp_frac.specs.Law.{WholenessIsDivision}
use Rattle.mp_frac.specs.Time.{IsLeastWhole, IsSameTime, IsWhole, in_ticks}
use Rattle.mp_timeline.specs.declared.segment.Segment.{Segment}
use Rattle.mp_timeline.specs.declared.segment.Segment.TheVariants.{Empty, Media}
use Rattle.mp_timeline.specs.Same.{IsSameTicks}
use Rattle.mp_edits.specs.Segments.{duration, total}
use Rattle.mp_movie.specs.Settling.{IsLeastServing, Serves, Settles}
use Rattle.mp_shown.specs.Segments.{part, pieces, whole_media}
use Rattle.mp_clip.specs.declared.shape.ClipShape.{ClipShape}
use Rattle.mp_clip.specs.Clipped.{as_times, starts}
use Rattle.mp_clip.specs.Shape.{IsShape}
use Rattle.cut_op.proofs.KeptSamples.{abs-times}
use Rattle.cut_op.proofs.Units.{sub-times}

-- ---- one time, told in two ways

same_product : (a b : Frac) → IsSameTime a b → unsigned_abs a.n * b.d ≡ unsigned_abs b.n * a.d
same_product a b same = sym (abs-times a.n b.d) ∙ (ap unsigned_abs same.crosswise ∙ abs-times b.n a.d)

pub whole_same : WholenessIsDivision → (scale : ℕ) (a b : Frac) → 0 < scale → IsSameTime a b → IsWhole scale a → IsWhole scale b
whole_same law scale a b some same whole =
    let divides : a.d ∣ unsigned_abs a.n * scale = (law scale a some same.positive).0 whole in
    let product : unsigned_abs a.n * scale * b.d ≡ unsigned_abs b.n * scale * a.d = turn (unsigned_abs a.n) scale b.d ∙ (ap (λ (x : ℕ). x * scale) (same_product a b same) ∙ turn (unsigned_abs b.n) a.d scale) in
    let both : b.d * a.d ∣ unsigned_abs b.n * scale * a.d = subst (λ (x : ℕ). x ∣ unsigned_abs b.n * scale * a.d) (swap a.d b.d) (subst (λ (x : ℕ). a.d * b.d ∣ x) product (mul-dvd-mul_right a.d divides b.d)) in
    (law scale b some same.other_positive).1 (dvd_of_mul-dvd-mul_right b.d same.positive both)
  where
    turn : (x y z : ℕ) → x * y * z ≡ x * z * y
    turn x y z = omega arith

    swap : (x y : ℕ) → x * y ≡ y * x
    swap x y = omega arith

pub same_back : (a b : Frac) → IsSameTime a b → IsSameTime b a
same_back a b same = record { positive = same.other_positive; other_positive = same.positive; crosswise = sym same.crosswise }

pub settles_one : WholenessIsDivision → (scale : ℕ) (time other : Frac) (result : Option ℕ) → IsSameTime time other → LimitedBy most (IsLeastWhole scale time) result → Settles scale (other ∷ []) result
settles_one law scale time other (Some found) same (least, within) = (
  record {
    some = least.some;
    serves = record { multiple = least.multiple; whole = (whole_same law found time other least.some same least.whole, tt) };
    divides = λ multiple serves. by multiple serves;
  },
  within,
)
  where
    by : (multiple : ℕ) → Serves scale (other ∷ []) multiple → found ∣ multiple
    by zero serves = dvd-zero found
    by (suc multiple) serves = least.divides (suc multiple) serves.multiple (whole_same law (suc multiple) other time (omega arith) (same_back time other same) serves.whole.0)
settles_one law scale time other None same (found, least, above) = λ multiple some serves.
    let divides = least.divides multiple serves.multiple (whole_same law multiple other time some (same_back time other same) serves.whole.0) in
    let le = le_of_dvd some divides in
    omega (arith, above, le)

-- ---- no pieces

pub nothing_settles : (scale : ℕ) → 0 < scale → scale ≤ most → Settles scale [] (Some scale)
nothing_settles scale some within = (
  record {
    some = some;
    serves = record { multiple = dvd_refl scale; whole = tt };
    divides = λ multiple serves. serves.multiple;
  },
  within,
)

pub no_shape : (media movie unit : ℕ) (shape : ClipShape) → 0 < media → media ≤ most → 0 < movie → movie ≤ most → 0 < unit → shape ≡ record { media_scale = media; movie_scale = movie; total = 0; least = 0; greatest = 0 }
    → IsShape media movie unit [] shape
no_shape media movie unit shape some_media within_media some_movie within_movie some is = rw (is) (record {
  media_scale = nothing_settles media some_media within_media;
  movie_scale = nothing_settles movie some_movie within_movie;
  total = none movie some_movie;
  least = none media some_media;
  greatest = none media some_media;
})
  where
    none : (scale : ℕ) → 0 < scale → IsSameTicks unit scale (pos 0) (pos 0)
    none scale some_scale = record { positive = some; other_positive = some_scale; crosswise = omega (arith, ints) }

-- ---- one piece

pub one_shape : (media movie unit start dur : ℕ) (shape : ClipShape) → 0 < unit → Settles media (in_ticks (pos start) unit ∷ []) (Some shape.media_scale) → Settles movie (in_ticks (pos dur) unit ∷ []) (Some shape.movie_scale)
    → dur * shape.movie_scale ≡ shape.total * unit → start * shape.media_scale ≡ shape.least * unit → shape.greatest ≡ shape.least → IsShape media movie unit (Media start dur ∷ []) shape
one_shape media movie unit start dur shape some media_is movie_is total_is start_is same = record {
  media_scale = media_is;
  movie_scale = movie_is;
  total = let whole : 0 + dur ≡ dur = omega arith in record { positive = some; other_positive = movie_is.0.some; crosswise = ap pos (ap (λ (x : ℕ). x * shape.movie_scale) whole ∙ total_is) };
  least = record { positive = some; other_positive = media_is.0.some; crosswise = ap pos start_is };
  greatest = let whole : max start 0 ≡ start = omega arith in record { positive = some; other_positive = media_is.0.some; crosswise = ap pos (ap (λ (x : ℕ). x * shape.media_scale) whole ∙ (start_is ∙ ap (λ (x : ℕ). x * unit) (sym same))) };
}

-- ---- the pieces of a whole media

whole_some : (length : ℕ) → 0 < length → whole_media length ≡ Media 0 length ∷ []
whole_some length lt = rw (lt-ltb 0 length lt) refl

pub one_piece : (from to length : ℕ) → from < min to length → pieces from to (whole_media length) ≡ Media from (min to length - from) ∷ []
one_piece from to length lt =
    let low : min from length ≡ from = omega (arith, lt) in
    let begin : 0 + from ≡ from = omega arith in
    ap (pieces from to) (whole_some length (omega (arith, lt)))
    ∙ rw (low, lt-ltb from (min to length) lt, begin) refl

pub no_piece : (from to length : ℕ) → min to length ≤ from → pieces from to (whole_media length) ≡ []
no_piece from to length le = elim (cases_lt 0 length) [
  | inl lt ↦ ap (pieces from to) (whole_some length lt) ∙ rw (le-ltb (min from length) (min to length) (omega (arith, le))) refl
  | inr none ↦ rw (le-ltb 0 length none) refl
]

lt-times : (a b k : ℕ) → 0 < k → a < b → a * k < b * k
lt-times a b k some lt = grind arith

le-times : (a b k : ℕ) → a ≤ b → a * k ≤ b * k
le-times a b k le = grind arith

pub times_some : (a b : ℕ) → 0 < a → 0 < b → 0 < a * b
times_some a b p q = grind arith

lt-cancel : (a b k : ℕ) → a * k < b * k → a < b
lt-cancel a b k lt = elim (cases_lt a b) [
  | inl less ↦ less
  | inr ge ↦ let le = le-times b a k ge in absurd (omega (arith, lt, le))
]

-- two times that are each the same as a third
pub same_through : (a b c : Frac) → IsSameTime a b → IsSameTime b c → unsigned_abs a.n * c.d ≡ unsigned_abs c.n * a.d
same_through a b c p q =
    let first = same_product a b p in
    let second = same_product b c q in
    eq_of_mul-eq-mul_right b.d p.other_positive (unsigned_abs a.n * c.d) (unsigned_abs c.n * a.d) (turn (unsigned_abs a.n) c.d b.d ∙ (ap (λ (x : ℕ). x * c.d) first ∙ (turn (unsigned_abs b.n) a.d c.d ∙ (ap (λ (x : ℕ). x * a.d) second ∙ turn (unsigned_abs c.n) b.d a.d))))
  where
    turn : (x y z : ℕ) → x * y * z ≡ x * z * y
    turn x y z = omega arith

-- the begin of a range is so many of the unit, its end, or that of the media, `stop`
module _ (scale movie c g f t extent e ed : ℕ) (some_scale : 0 < scale) (some_movie : 0 < movie) (some_c : 0 < c) (some_g : 0 < g) (some_ed : 0 < ed) where
  abbrev pub parts : ℕ
  parts = movie * scale * (c * g)

  abbrev pub begin : ℕ
  begin = f * movie * (g * scale)

  abbrev pub stop : ℕ
  stop = min (t * movie * (c * scale)) (extent * (movie * (c * g)))

  pub some_parts : 0 < parts
  some_parts = times_some (movie * scale) (c * g) (times_some movie scale some_movie some_scale) (times_some c g some_c some_g)

  pub begin_is : begin * c ≡ f * parts
  begin_is = omega arith

  -- the range ends first
  pub stop_range : t * scale < extent * g → stop * g ≡ t * parts
  stop_range lt =
      let more = lt-times (t * scale) (extent * g) (movie * c) (times_some movie c some_movie some_c) lt in
      let left : t * scale * (movie * c) ≡ t * movie * (c * scale) = omega arith in
      let right : extent * g * (movie * c) ≡ extent * (movie * (c * g)) = omega arith in
      let here : stop ≡ t * movie * (c * scale) = omega (arith, more, left, right) in
      let product : t * movie * (c * scale) * g ≡ t * parts = omega arith in
      ap (λ (x : ℕ). x * g) here ∙ product

  -- the media ends first, or with it
  pub stop_media : extent * g ≤ t * scale → stop * scale ≡ extent * parts
  stop_media le =
      let more = le-times (extent * g) (t * scale) (movie * c) le in
      let left : t * scale * (movie * c) ≡ t * movie * (c * scale) = omega arith in
      let right : extent * g * (movie * c) ≡ extent * (movie * (c * g)) = omega arith in
      let here : stop ≡ extent * (movie * (c * g)) = omega (arith, more, left, right) in
      let product : extent * (movie * (c * g)) * scale ≡ extent * parts = omega arith in
      ap (λ (x : ℕ). x * scale) here ∙ product

  module _ (is : stop * ed ≡ e * parts) where
    left_is : begin * (c * ed) ≡ f * ed * parts
    left_is = sym (mul_three begin c ed) ∙ (ap (λ (x : ℕ). x * ed) begin_is ∙ turn f parts ed)
      where
        mul_three : (a b d : ℕ) → a * b * d ≡ a * (b * d)
        mul_three a b d = omega arith

        turn : (x y z : ℕ) → x * y * z ≡ x * z * y
        turn x y z = omega arith

    right_is : stop * (c * ed) ≡ e * c * parts
    right_is = turn_first stop c ed ∙ (ap (λ (x : ℕ). x * c) is ∙ turn e parts c)
      where
        turn_first : (a b d : ℕ) → a * (b * d) ≡ a * d * b
        turn_first a b d = omega arith

        turn : (x y z : ℕ) → x * y * z ≡ x * z * y
        turn x y z = omega arith

    pub begins_before : f * ed < e * c → begin < stop
    begins_before lt =
        let more = lt-times (f * ed) (e * c) parts some_parts lt in
        lt-cancel begin stop (c * ed) (omega (arith, more, left_is, right_is))

    pub begins_behind : e * c ≤ f * ed → stop ≤ begin
    begins_behind le = elim (cases_lt begin stop) [
      | inr ge ↦ ge
      | inl lt ↦
          let more = lt-times begin stop (c * ed) (times_some c ed some_c some_ed) lt in
          let less = le-times (e * c) (f * ed) parts le in
          absurd (omega (arith, more, less, left_is, right_is))
    ]

    -- so long is the piece
    pub length_is : (stop - begin) * (ed * c) ≡ (e * c - f * ed) * parts
    length_is =
        let swap : (stop - begin) * (ed * c) ≡ (stop - begin) * (c * ed) = omega arith in
        swap ∙ (sym (sub-times stop begin (c * ed)) ∙ (ap (λ (x : ℕ). x - begin * (c * ed)) right_is ∙ (ap (λ (x : ℕ). e * c * parts - x) left_is ∙ sub-times (e * c) (f * ed) parts)))
