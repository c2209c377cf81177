-- Which ticks of a media some segments show a part of.
use Rattle.std.specs.Prelude.{◌≡◌, ℕ, ◌+◌, ◌*◌, nat_lt, Bool, false, ◌&&◌, List}
use Rattle.std.specs.List.{list_any}
use Rattle.mp_timeline.specs.declared.segment.Segment.{Segment}
use Rattle.mp_timeline.specs.declared.segment.Segment.TheVariants.{Empty, Media}
use Rattle.mp_clip.specs.declared.touching.Span.{Span}

-- the segment shows a part of the media that lies behind `start` and before `end`, where both are some time
abbrev pub shows_some : (start end : ℕ) → Segment → Bool
shows_some start end (Empty dur) = false
shows_some start end (Media from dur) = nat_lt from end && nat_lt start (from + dur)

-- the span has a tick in common with those from `start` up to, and without, `end`, where both have some
abbrev pub touches : (start end : ℕ) → Span → Bool
touches start end span = nat_lt span.from end && nat_lt start span.to

-- spans have a tick in common with a range of ticks exactly where one of the segments shows a part of it; a tick has so many of the
-- segments' unit
abbrev pub AreTouched : (tick : ℕ) → List Segment → List Span → Type 0
AreTouched tick segments spans = (start end : ℕ) → list_any (shows_some (start * tick) (end * tick)) segments ≡ list_any (touches start end) spans
