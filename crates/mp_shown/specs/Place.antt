-- A place in the media, without products above 128 bits.
use Rattle.std.specs.Prelude.{ℕ, ◌+◌, ◌-◌, ◌*◌, ◌/◌, nat_lt, if◌then◌else◌, List, [], ◌∷◌, Option, Some, None, option_map}
use Rattle.mp_timeline.specs.declared.segment.Segment.{Segment}
use Rattle.mp_timeline.specs.declared.segment.Segment.TheVariants.{Empty, Media}
use Rattle.mp_edits.specs.Segments.{duration}
use Rattle.mp_shown.specs.declared.place.Place.{Place}
use Rattle.mp_shown.specs.Shown.{media_time}

-- a segment of the media is shown from its start on
abbrev pub place_of : Segment → ℕ → Option Place
place_of (Empty dur) within = None
place_of (Media start dur) within = Some (record { start = start; within = within })

-- the segment of a moment, in parts of a tick of the movie, and how far behind its begin the moment is
abbrev pub place_in : (parts : ℕ) → List Segment → ℕ → Option Place
place_in parts [] moment = None
place_in parts (segment ∷ segments) moment =
    if nat_lt moment (duration segment * parts) then place_of segment moment else place_in parts segments (moment - duration segment * parts)

-- the tick of the track that holds the place, where a part of a tick of the movie is `scale` of the units of which a tick of the track has `tick`
abbrev pub ticks_of : (scale tick : ℕ) → Place → ℕ
ticks_of scale tick place = place.start + place.within * scale / tick

-- a time of the media in ticks of the track, each so many of the time's unit: the tick that holds it
abbrev pub in_ticks_of : (tick : ℕ) → Option ℕ → Option ℕ
in_ticks_of tick time = option_map (λ at. at / tick) time

-- the tick of a track that holds the time of the media that segments show at n / d seconds, where the unit of their times is that of `explicit`
abbrev pub shown_tick : (movie scale : ℕ) → List Segment → (n d : ℕ) → Option ℕ
shown_tick movie scale segments n d = in_ticks_of (movie * d) (media_time segments (n * (movie * scale)))
