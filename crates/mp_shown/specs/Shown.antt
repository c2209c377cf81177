-- What a track shows at a moment (ISO/IEC 14496-12, 8.6.6).
use Rattle.std.specs.Prelude.{ℕ, ◌+◌, ◌-◌, ◌*◌, ℤ, pos, ◌+ℤ◌, ◌*ℤ◌, int_lt, nat_lt, Bool, false, not, ◌&&◌, if◌then◌else◌, List, [], ◌∷◌, map, filter, Option, Some, None, slice_index_or}
use Rattle.mp_timeline.specs.declared.segment.Segment.{Segment}
use Rattle.mp_timeline.specs.declared.segment.Segment.TheVariants.{Empty, Media}
use Rattle.mp_timeline.specs.Movie.{SampleRecord, TrackRecord}
use Rattle.mp_shown.specs.Segments.{explicit}

-- the time in the media that segments show at a moment: each lasts from its begin up to its end, and the end is no part of it
abbrev pub media_time : List Segment → ℕ → Option ℕ
media_time [] moment = None
media_time (Empty dur ∷ segments) moment = if nat_lt moment dur then None else media_time segments (moment - dur)
media_time (Media start dur ∷ segments) moment = if nat_lt moment dur then Some (start + moment) else media_time segments (moment - dur)

-- the time is at or behind the sample's composition time, and before its end; a tick of the sample is so many of the time's unit
abbrev pub is_at : (tick : ℕ) → SampleRecord → ℕ → Bool
is_at tick sample time = not (int_lt (pos time) (sample.comp *ℤ pos tick)) && int_lt (pos time) ((sample.comp +ℤ pos sample.dur) *ℤ pos tick)

-- there is a time, and the sample is at it
abbrev pub is_at_some : (tick : ℕ) → Option ℕ → SampleRecord → Bool
is_at_some tick None sample = false
is_at_some tick (Some time) sample = is_at tick sample time

-- the track shows the sample at n / d seconds, in the unit of `explicit`
abbrev pub is_shown : (movie : ℕ) → TrackRecord → (n d : ℕ) → SampleRecord → Bool
is_shown movie track n d = is_at_some (movie * d) (media_time (explicit movie track d) (n * (movie * track.scale)))

-- what is seen of a sample: its bytes, and those of its entry
pub record Seen : Type 0 where
  pub bytes : List ℕ
  pub entry : List ℕ

-- its entry is counted from 1
abbrev pub seen : (entries : List (List ℕ)) → SampleRecord → Seen
seen entries sample = record { bytes = sample.bytes; entry = slice_index_or entries (sample.entry - 1) [] }

-- what a track shows at n / d seconds, in decode order
abbrev pub shown : (movie : ℕ) → TrackRecord → (n d : ℕ) → List Seen
shown movie track n d = map (seen track.entries) (filter (is_shown movie track n d) track.samples)

-- the numbers of the samples that are chosen, the first of them with this number
abbrev pub numbers_where : (SampleRecord → Bool) → ℕ → List SampleRecord → List ℕ
numbers_where is_chosen number [] = []
numbers_where is_chosen number (sample ∷ samples) =
    let rest = numbers_where is_chosen (number + 1) samples in
    if is_chosen sample then number ∷ rest else rest

-- the numbers, counted from 1, of the samples that a track shows at n / d seconds
abbrev pub shown_numbers : (movie : ℕ) → TrackRecord → (n d : ℕ) → List ℕ
shown_numbers movie track n d = numbers_where (is_shown movie track n d) 1 track.samples
