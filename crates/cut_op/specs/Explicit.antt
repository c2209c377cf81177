-- The segments that a track shows, in ticks of a scale of their own.
use Rattle.std.specs.Prelude.{ℕ, List, Option, Some, None}
use Rattle.mp_timeline.specs.declared.segment.Segment.{Segment}

-- an edit list, or else the whole media
abbrev pub shown_edits : Option (List Segment) → List Segment → List Segment
shown_edits None whole = whole
shown_edits (Some edits) whole = edits

-- their durations are ticks of the movie, or those of the whole media of the track
abbrev pub shown_scale : Option (List Segment) → (movie scale : ℕ) → ℕ
shown_scale None movie scale = scale
shown_scale (Some edits) movie scale = movie
