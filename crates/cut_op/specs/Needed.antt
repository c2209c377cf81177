-- Which samples a cut keeps (this project's own).
use Rattle.std.specs.Prelude.{ℕ, ◌+◌, ◌-◌, pos, ◌+ℤ◌, int_lt, nat_lt, Bool, false, ◌&&◌, if◌then◌else◌, List, [], ◌∷◌, take, slice_range}
use Rattle.std.specs.List.{list_any}
use Rattle.mp_timeline.specs.declared.segment.Segment.{Segment}
use Rattle.mp_timeline.specs.declared.segment.Segment.TheVariants.{Empty, Media}
use Rattle.mp_timeline.specs.Movie.{SampleRecord}

-- the time from the sample's composition time up to its end, and the time of the media that the segment shows, have a moment in
-- common; neither end is part of its time, and what lasts no time has no moment
abbrev pub meets : SampleRecord → Segment → Bool
meets sample (Empty dur) = false
meets sample (Media start dur) =
    (nat_lt 0 sample.dur && nat_lt 0 dur)
    && (int_lt sample.comp (pos (start + dur)) && int_lt (pos start) (sample.comp +ℤ pos sample.dur))

-- a sample is needed by segments, all times being in one unit, where it meets one of them
abbrev pub is_needed : List Segment → SampleRecord → Bool
is_needed segments sample = list_any (meets sample) segments

-- it is a sync sample
abbrev pub is_sync_sample : SampleRecord → Bool
is_sync_sample sample = sample.sync

-- how many items stand before the first that is so; all where none is
abbrev pub before_first : {A : Type 0} → (A → Bool) → List A → ℕ
before_first is_so [] = 0
before_first is_so (item ∷ items) = if is_so item then 0 else before_first is_so items + 1

-- how many items there are up to the last that is so; 0 where none is
abbrev pub through_last : {A : Type 0} → (A → Bool) → List A → ℕ
through_last is_so [] = 0
through_last is_so (item ∷ items) = if list_any is_so (item ∷ items) then through_last is_so items + 1 else 0

-- how many items stand before the last marked one that is the first needed one or stands before it; 0 where there is none
abbrev pub first_kept : {A : Type 0} → (is_marked is_wanted : A → Bool) → List A → ℕ
first_kept is_marked is_wanted items = through_last is_marked (take (before_first is_wanted items + 1) items) - 1

-- the items from there up to the last wanted one, with all that stand between; none where none is wanted
abbrev pub kept : {A : Type 0} → (is_marked is_wanted : A → Bool) → List A → List A
kept is_marked is_wanted items = slice_range items (first_kept is_marked is_wanted items) (through_last is_wanted items)

-- the samples, in decode order, from the last sync sample at or before the first one that the segments need, or from the first of
-- all, up to the last one that they need
abbrev pub kept_samples : List Segment → List SampleRecord → List SampleRecord
kept_samples segments samples = kept is_sync_sample (is_needed segments) samples
