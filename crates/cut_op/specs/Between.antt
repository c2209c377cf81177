-- How long it is from one time to a later one, and the pieces of a whole media.
use Rattle.std.specs.Prelude.{◌≡◌, ℕ, ◌*◌, ◌^◌, ◌≤◌, pos, ◌-ℤ◌, ◌*ℤ◌, ◌≤ℤ◌, unsigned_abs, List, if◌then◌else◌}
use Rattle.mp_frac.specs.declared.time.Frac.{Frac}
use Rattle.mp_frac.specs.Time.{IsInRange, in_ticks}
use Rattle.mp_timeline.specs.declared.segment.Segment.{Segment}
use Rattle.mp_shown.specs.Fractions.{is_before}
use Rattle.mp_shown.specs.Segments.{pieces, whole_media}

-- from a time to a later one
abbrev pub between : (time later : Frac) → Frac
between time later = record { n = later.n *ℤ pos time.d -ℤ time.n *ℤ pos later.d; d = later.d * time.d }

-- the end of a media that lasts so many ticks of its scale, or of a range that ends before it
pub record IsShownEnd (scale extent : ℕ) (to end : Frac) : Type 0 where
  pub is : end ≡ (if is_before to (in_ticks (pos extent) scale) then to else in_ticks (pos extent) scale)
  pub range : IsInRange end
  pub after : pos 0 ≤ℤ end.n
  pub short : unsigned_abs end.n ≤ 2 ^ 57 * end.d

-- the pieces, from one time up to another, of a media that lasts so many ticks of its scale, in the unit of which a second has
-- `unit scale movie from to`
abbrev pub media_pieces : (scale movie : ℕ) → (from to : Frac) → (extent : ℕ) → List Segment
media_pieces scale movie from to extent =
    pieces (unsigned_abs from.n * movie * (to.d * scale)) (unsigned_abs to.n * movie * (from.d * scale)) (whole_media (extent * (movie * (from.d * to.d))))
