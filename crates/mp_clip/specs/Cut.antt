-- Pieces without products above 128 bits: a start in parts of a tick of the media, a length in parts of a tick of the movie.
use Rattle.std.specs.Prelude.{◌≡◌, ℕ, ◌+◌, ◌-◌, ◌*◌, ◌^◌, ◌<◌, ◌≤◌, min, nat_lt, false, IfSome, if◌then◌else◌, List, [], ◌∷◌, ◌++◌, map, Option, Some, None, sum_by}
use Rattle.mp_timeline.specs.declared.segment.Segment.{Segment}
use Rattle.mp_timeline.specs.declared.segment.Segment.TheVariants.{Empty, Media}
use Rattle.mp_timeline.specs.Same.{IsSameSegment}
use Rattle.std.specs.Int.{◌∣◌}
use Rattle.mp_edits.specs.Segments.{duration, starts_late}
use Rattle.mp_clip.specs.declared.cut.Cut.{Cut}
use Rattle.mp_clip.specs.declared.cut.Scales.{Scales}
use Rattle.mp_clip.specs.declared.clipping.NewScales.{NewScales}
use Rattle.mp_clip.specs.Clipped.{TellsBack, later}

-- a segment neither lasts nor starts at 2^62 ticks or more
pub record IsShort (segment : Segment) : Type 0 where
  pub short : duration segment < 2 ^ 62
  pub early : starts_late segment ≡ false

-- the piece of a segment between two places in it: one in parts of the range's begin, one in parts of its end
abbrev pub cut_between : Scales → Segment → (low high : ℕ) → Cut
cut_between scales (Empty dur) low high = record { start = None; length = high * scales.from - low * scales.to }
cut_between scales (Media start dur) low high = record { start = Some (start * (scales.movie * scales.from) + low * scales.media); length = high * scales.from - low * scales.to }

-- the piece of a segment in a range, where it has one
abbrev pub cut_of : Scales → Segment → (from to : ℕ) → Option Cut
cut_of scales segment from to =
    let low = min from (duration segment * scales.from) in
    let high = min to (duration segment * scales.to) in
    if nat_lt (low * scales.to) (high * scales.from) then Some (cut_between scales segment low high) else None

-- in front of a list, where there is one
abbrev pub in_front : Option Cut → List Cut → List Cut
in_front None cuts = cuts
in_front (Some cut) cuts = cut ∷ cuts

-- the pieces of segments in a range
abbrev pub cuts_of : Scales → (from to : ℕ) → List Segment → List Cut
cuts_of scales from to [] = []
cuts_of scales from to (segment ∷ segments) = in_front (cut_of scales segment from to) (cuts_of scales (from - duration segment * scales.from) (to - duration segment * scales.to) segments)

-- media from a start on, which has so many of the unit for each part, or nothing
abbrev pub segment_from : (parts : ℕ) → Option ℕ → (dur : ℕ) → Segment
segment_from parts None dur = Empty dur
segment_from parts (Some start) dur = Media (start * parts) dur

-- a piece in the unit of `clipped`
abbrev pub piece_of : Scales → Cut → Segment
piece_of scales cut = segment_from scales.to cut.start (cut.length * scales.media)

-- the unit of `clipped`
abbrev pub unit_of : Scales → ℕ
unit_of scales = scales.movie * scales.media * (scales.from * scales.to)

-- a number that may be missing, as a list
abbrev pub listed : Option ℕ → List ℕ
listed None = []
listed (Some number) = number ∷ []

-- the starts and the lengths
abbrev pub cut_starts : List Cut → List ℕ
cut_starts [] = []
cut_starts (cut ∷ cuts) = listed cut.start ++ cut_starts cuts

abbrev pub cut_lengths : List Cut → List ℕ
cut_lengths cuts = map (λ cut. cut.length) cuts

-- the lengths together
abbrev pub cut_total : List Cut → ℕ
cut_total cuts = sum_by (λ cut. cut.length) cuts

-- a number of parts is a whole number of ticks of the scale, `back` or less than 2^62 more
pub record IsExact (back ticks parts scale : ℕ) : Type 0 where
  pub whole : parts ∣ ticks * scale
  pub late : back * parts ≤ ticks * scale
  pub early : ticks * scale < (2 ^ 62 + back) * parts

-- so are the start of a piece, and its length with nothing for `back`
pub record CanTellCut (scales : Scales) (new : NewScales) (cut : Cut) : Type 0 where
  pub start : IfSome cut.start (λ start. IsExact new.back start (scales.media * (scales.movie * scales.from)) new.media)
  pub length : IsExact 0 cut.length (scales.movie * (scales.from * scales.to)) new.movie

-- pieces in ticks of the new scales
abbrev pub AreTold : Scales → NewScales → (pieces made : List Segment) → Type 0
AreTold scales new pieces made = TellsBack (unit_of scales) new.media new.movie new.back pieces made

-- a piece in ticks of the new scales
abbrev pub TellsCut : Scales → NewScales → Cut → Segment → Type 0
TellsCut scales new cut made = IsSameSegment (unit_of scales) new.movie (unit_of scales) new.media (piece_of scales cut) (later new.back made)

-- the pieces of cuts in ticks of the new scales
abbrev pub TellsCuts : Scales → NewScales → List Cut → List Segment → Type 0
TellsCuts scales new cuts made = AreTold scales new (map (piece_of scales) cuts) made

-- the pieces that are left, told behind those that are made, make all
pub record LeadsTo (scales : Scales) (new : NewScales) (all made : List Segment) (left : List Cut) : Type 0 where
  pub each : (others : List Segment) → AreTold scales new (map (piece_of scales) left) others → AreTold scales new all (made ++ others)
