-- The pieces of an edit list from one time up to another, in ticks of other scales (ISO/IEC 14496-12, 8.6.6).
use Rattle.std.specs.Prelude.{ℕ, ◌+◌, ◌*◌, ◌^◌, ◌<◌, ◌≤◌, pos, ◌≤ℤ◌, unsigned_abs, List, [], ◌∷◌, map}
use Rattle.std.specs.List.{AllZip, AllByRecursion}
use Rattle.mp_frac.specs.declared.time.Frac.{Frac}
use Rattle.mp_frac.specs.Time.{IsInRange, IsWhole, in_ticks}
use Rattle.mp_timeline.specs.declared.segment.Segment.{Segment}
use Rattle.mp_timeline.specs.declared.segment.Segment.TheVariants.{Empty, Media}
use Rattle.mp_timeline.specs.Same.{IsSameSegment}
use Rattle.mp_edits.specs.Segments.{duration, total}
use Rattle.mp_shown.specs.Segments.{in_unit, pieces}

-- how many of the unit a second has, in which both ends of a range, every start and every duration are whole
abbrev pub unit : (media movie : ℕ) → (from to : Frac) → ℕ
unit media movie from to = movie * media * (from.d * to.d)

-- the pieces of an edit list from one time up to another, in that unit
abbrev pub clipped : (media movie : ℕ) → (from to : Frac) → List Segment → List Segment
clipped media movie from to edits =
    pieces (unsigned_abs from.n * movie * (to.d * media)) (unsigned_abs to.n * movie * (from.d * media)) (map (in_unit (movie * (from.d * to.d)) (media * (from.d * to.d))) edits)

-- the starts of the segments that show media
abbrev pub starts : List Segment → List ℕ
starts [] = []
starts (Empty dur ∷ segments) = starts segments
starts (Media start dur ∷ segments) = start ∷ starts segments

-- numbers of a unit, of which a second has so many, as times
abbrev pub as_times : ℕ → List ℕ → List Frac
as_times unit numbers = map (λ number. in_ticks (pos number) unit) numbers

-- a range of time that neither begins nor ends before 0; one that ends before it begins has no pieces
pub record IsRange (from to : Frac) : Type 0 where
  pub some_begin : IsInRange from
  pub some_end : IsInRange to
  pub begin : pos 0 ≤ℤ from.n
  pub end : pos 0 ≤ℤ to.n

-- a segment whose start is so many ticks later
abbrev pub later : ℕ → Segment → Segment
later by (Empty dur) = Empty dur
later by (Media start dur) = Media (start + by) dur

-- in the new scales each start of the pieces is whole, and at tick `back` or less than 2^62 ticks behind it; each duration is whole, and
-- their sum below 2^62
pub record CanTell (unit new_media new_movie back : ℕ) (pieces : List Segment) : Type 0 where
  pub whole_starts : AllByRecursion (IsWhole new_media) (as_times unit (starts pieces))
  pub late : AllByRecursion (λ start. back * unit ≤ start * new_media) (starts pieces)
  pub early : AllByRecursion (λ start. start * new_media < (2 ^ 62 + back) * unit) (starts pieces)
  pub whole_durations : AllByRecursion (IsWhole new_movie) (as_times unit (map duration pieces))
  pub short : total pieces * new_movie < 2 ^ 62 * unit

-- the pieces, in ticks of the new scales
abbrev pub Tells : (unit new_media new_movie : ℕ) → (pieces made : List Segment) → Type 0
Tells unit new_media new_movie pieces made = AllZip (IsSameSegment unit new_movie unit new_media) pieces made

-- so are they told, each start so many ticks earlier
abbrev pub TellsBack : (unit new_media new_movie back : ℕ) → (pieces made : List Segment) → Type 0
TellsBack unit new_media new_movie back pieces made = AllZip (λ piece one. IsSameSegment unit new_movie unit new_media piece (later back one)) pieces made

-- the pieces of an edit list can be told in these scales, and are told so
abbrev pub CanClip : (media movie : ℕ) → (from to : Frac) → List Segment → (new_media new_movie back : ℕ) → Type 0
CanClip media movie from to edits new_media new_movie back = CanTell (unit media movie from to) new_media new_movie back (clipped media movie from to edits)

abbrev pub IsClip : (media movie : ℕ) → (from to : Frac) → List Segment → (new_media new_movie back : ℕ) → List Segment → Type 0
IsClip media movie from to edits new_media new_movie back made = TellsBack (unit media movie from to) new_media new_movie back (clipped media movie from to edits) made
