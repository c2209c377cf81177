-- The shape of one piece of a media, from the scales that its begin and its length need.
use Rattle.std.proofs.Common.{◌≡◌, ℕ, ℤ, pos, ◌+◌, ◌-◌, ◌*◌, ◌<◌, ◌≤◌, min, ◌*ℤ◌, ◌≤ℤ◌, Bool, true, false, List, [], ◌∷◌, Option, Some, None, refl, sym, ap, subst, ◌∙◌, arith, inl, inr, true≢false}
use Rattle.std.specs.Prelude.{int_lt, unsigned_abs}
use Rattle.std.proofs.lemmas.Int.{by_lt_z, ints}
use Rattle.mp_frac.specs.declared.time.Frac.{Frac}
use Rattle.mp_frac.specs.Divisors.{LimitedBy, most}
use Rattle.mp_frac.specs.Law.{WholenessIsDivision}
use Rattle.mp_frac.specs.Time.{IsLeastWhole, IsSameTime, IsWhole, in_ticks}
use Rattle.mp_timeline.specs.declared.segment.Segment.{Segment}
use Rattle.mp_timeline.specs.declared.segment.Segment.TheVariants.{Media}
use Rattle.mp_shown.specs.Fractions.{is_before}
use Rattle.mp_shown.specs.Segments.{pieces, whole_media}
use Rattle.mp_clip.specs.declared.shape.ClipShape.{ClipShape}
use Rattle.mp_clip.specs.Clipped.{IsRange, unit}
use Rattle.mp_clip.specs.Shape.{GivesShape}
use Rattle.cut_op.specs.Between.{IsShownEnd, between, media_pieces}
use Rattle.cut_op.proofs.MediaShapes.{no_piece, no_shape, one_piece, one_shape, same_back, same_through, settles_one, whole_same}
use Rattle.cut_op.proofs.ShownEnds.{before, first, first_same, length_same, not_before, some_unit, stop}
use Rattle.cut_op.proofs.Shows.{natural}

-- a time that comes before another is not behind it
pub before_order : (time other : Frac) → is_before time other ≡ true → (time.n *ℤ pos other.d) ≤ℤ (other.n *ℤ pos time.d)
before_order time other test = by_lt_z (time.n *ℤ pos other.d) (other.n *ℤ pos time.d) (λ lt. omega (arith, ints, lt)) (λ le. absurd (true≢false (sym test ∙ not_below (time.n *ℤ pos other.d) (other.n *ℤ pos time.d) le)))
  where
    not_below : (a b : ℤ) → b ≤ℤ a → int_lt a b ≡ false
    not_below a b le = grind (arith, ints)

-- a time that is the same as a second, which is so many ticks
same_ticks : (a b : Frac) (n u : ℕ) → pos 0 ≤ℤ a.n → IsSameTime a b → IsSameTime b (in_ticks (pos n) u) → IsSameTime a (in_ticks (pos n) u)
same_ticks a b n u after p q = record {
  positive = p.positive;
  other_positive = q.other_positive;
  crosswise = ap (λ (z : ℤ). z *ℤ pos u) (natural a.n after) ∙ ap pos (same_through a b (in_ticks (pos n) u) p q);
}

module _ (law : WholenessIsDivision) (scale movie : ℕ) (from end : Frac) (parts start dur : ℕ) (begin : IsSameTime from (in_ticks (pos start) parts)) (lasts : IsSameTime (between from end) (in_ticks (pos dur) parts)) where
  -- the begin needs too much
  pub no_begin : (found : Option ℕ) → found ≡ None → LimitedBy most (IsLeastWhole scale from) found → GivesShape scale movie parts (Media start dur ∷ []) None
  no_begin found none least = inl (settles_one law scale from (in_ticks (pos start) parts) None begin (subst (LimitedBy most (IsLeastWhole scale from)) none least))

  -- the length has too many parts
  pub no_parts : ((other : ℕ) → 0 < other → IsWhole other (between from end) → most < other) → GivesShape scale movie parts (Media start dur ∷ []) None
  no_parts above = inr (λ other some serves. above other some (whole_same law other (in_ticks (pos dur) parts) (between from end) some (same_back (between from end) (in_ticks (pos dur) parts) lasts) serves.whole.0))

  module _ (length : Frac) (after : pos 0 ≤ℤ length.n) (same : IsSameTime length (between from end)) where
    length_lasts : IsSameTime length (in_ticks (pos dur) parts)
    length_lasts = same_ticks length (between from end) dur parts after same lasts

    -- it needs too much
    pub no_length : (found : Option ℕ) → found ≡ None → LimitedBy most (IsLeastWhole movie length) found → GivesShape scale movie parts (Media start dur ∷ []) None
    no_length found none least = inr (settles_one law movie length (in_ticks (pos dur) parts) None length_lasts (subst (LimitedBy most (IsLeastWhole movie length)) none least))

    pub piece_shape : (shape : ClipShape) (media_found movie_found : Option ℕ) → media_found ≡ Some shape.media_scale → movie_found ≡ Some shape.movie_scale
        → LimitedBy most (IsLeastWhole scale from) media_found → LimitedBy most (IsLeastWhole movie length) movie_found
        → IsSameTime (in_ticks (pos shape.total) shape.movie_scale) length → IsSameTime (in_ticks (pos shape.least) shape.media_scale) from → shape.greatest ≡ shape.least
        → GivesShape scale movie parts (Media start dur ∷ []) (Some shape)
    piece_shape shape media_found movie_found media_is movie_is media_least movie_least total_same least_same same_start =
        one_shape scale movie parts start dur shape begin.other_positive
        (settles_one law scale from (in_ticks (pos start) parts) (Some shape.media_scale) begin (subst (LimitedBy most (IsLeastWhole scale from)) media_is media_least))
        (settles_one law movie length (in_ticks (pos dur) parts) (Some shape.movie_scale) length_lasts (subst (LimitedBy most (IsLeastWhole movie length)) movie_is movie_least))
        (sym (same_through (in_ticks (pos shape.total) shape.movie_scale) length (in_ticks (pos dur) parts) total_same length_lasts))
        (sym (same_through (in_ticks (pos shape.least) shape.media_scale) from (in_ticks (pos start) parts) least_same begin))
        same_start

-- ---- the whole media

module _ (scale movie extent : ℕ) (from to end : Frac) (some_scale : 0 < scale) (some_movie : 0 < movie) (range : IsRange from to) (ends : IsShownEnd scale extent to end) where
  -- the range begins behind it
  pub nothing_shown : is_before from end ≡ false → scale ≤ most → movie ≤ most → (shape : ClipShape) → shape ≡ record { media_scale = scale; movie_scale = movie; total = 0; least = 0; greatest = 0 }
      → GivesShape scale movie (unit scale movie from to) (media_pieces scale movie from to extent) (Some shape)
  nothing_shown test within_scale within_movie shape is =
      subst (λ (ps : List Segment). GivesShape scale movie (unit scale movie from to) ps (Some shape))
      (sym (no_piece (first scale movie extent from to end some_scale some_movie range ends) (unsigned_abs to.n * movie * (from.d * scale)) (extent * (movie * (from.d * to.d))) (not_before scale movie extent from to end some_scale some_movie range ends test)))
      (no_shape scale movie (unit scale movie from to) shape some_scale within_scale some_movie within_movie (some_unit scale movie extent from to end some_scale some_movie range ends) is)

  -- one piece is shown
  pub one_shown : is_before from end ≡ true → (result : Option ClipShape)
      → ((parts start dur : ℕ) → IsSameTime from (in_ticks (pos start) parts) → IsSameTime (between from end) (in_ticks (pos dur) parts) → GivesShape scale movie parts (Media start dur ∷ []) result)
      → GivesShape scale movie (unit scale movie from to) (media_pieces scale movie from to extent) result
  one_shown test result gives =
      subst (λ (ps : List Segment). GivesShape scale movie (unit scale movie from to) ps result)
      (sym (one_piece (first scale movie extent from to end some_scale some_movie range ends) (unsigned_abs to.n * movie * (from.d * scale)) (extent * (movie * (from.d * to.d))) (before scale movie extent from to end some_scale some_movie range ends test)))
      (gives (unit scale movie from to) (first scale movie extent from to end some_scale some_movie range ends)
      (stop scale movie extent from to end some_scale some_movie range ends - first scale movie extent from to end some_scale some_movie range ends)
      (first_same scale movie extent from to end some_scale some_movie range ends) (length_same scale movie extent from to end some_scale some_movie range ends test))
