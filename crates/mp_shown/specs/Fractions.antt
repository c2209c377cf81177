-- What is shown, by comparing times as fractions (ISO/IEC 14496-12, 8.6.6).
use Rattle.std.specs.Prelude.{◌≡◌, ℕ, ◌+◌, ◌*◌, ◌<◌, pos, ◌+ℤ◌, ◌-ℤ◌, ◌*ℤ◌, int_lt, Bool, true, false, not, ◌&&◌, List, [], ◌∷◌, ◌++◌, Option, Some, None}
use Rattle.mp_frac.specs.declared.time.Frac.{Frac}
use Rattle.mp_frac.specs.Time.{in_ticks}
use Rattle.mp_timeline.specs.declared.segment.Segment.{Segment}
use Rattle.mp_timeline.specs.declared.segment.Segment.TheVariants.{Empty, Media}
use Rattle.mp_timeline.specs.Movie.{SampleRecord, TrackRecord}
use Rattle.mp_edits.specs.Segments.{total}
use Rattle.mp_movie.specs.Durations.{extent}
use Rattle.mp_shown.specs.Shown.{is_shown}

-- a time comes before another, by the products across
abbrev pub is_before : Frac → Frac → Bool
is_before time other = int_lt (time.n *ℤ pos other.d) (other.n *ℤ pos time.d)

-- a time is at or behind a sample's composition time, and before its end
abbrev pub holds : (scale : ℕ) → SampleRecord → Frac → Bool
holds scale sample time = not (is_before time (in_ticks sample.comp scale)) && is_before time (in_ticks (sample.comp +ℤ pos sample.dur) scale)

-- start / scale + (n / d − begin / movie)
abbrev pub time_in_segment : (movie scale start begin n d : ℕ) → Frac
time_in_segment movie scale start begin n d = record { n = pos (start * (movie * d)) +ℤ (pos (n * movie) -ℤ pos (begin * d)) *ℤ pos scale; d = scale * (movie * d) }

-- a segment with those before it is shown at n / d seconds: its begin is not behind them, and its end is
pub record IsAt (movie : ℕ) (before : List Segment) (dur n d : ℕ) : Type 0 where
  pub begun : is_before (in_ticks (pos n) d) (in_ticks (pos (total before)) movie) ≡ false
  pub lasts : is_before (in_ticks (pos n) d) (in_ticks (pos (total before + dur)) movie) ≡ true

-- a sample is shown where the time in the segment of that moment is at it; without an edit list the moment is that time, up to the
-- latest end of a sample; in an empty segment, and behind the last, nothing is shown
pub record IsShownByFractions (movie : ℕ) (track : TrackRecord) (n d : ℕ) : Type 0 where
  pub media : (before behind : List Segment) (start dur : ℕ) → track.edits ≡ Some (before ++ (Media start dur ∷ behind)) → IsAt movie before dur n d
      → (sample : SampleRecord) → is_shown movie track n d sample ≡ holds track.scale sample (time_in_segment movie track.scale start (total before) n d)
  pub empty : (before behind : List Segment) (dur : ℕ) → track.edits ≡ Some (before ++ (Empty dur ∷ behind)) → IsAt movie before dur n d → (sample : SampleRecord) → is_shown movie track n d sample ≡ false
  pub after : (edits : List Segment) → track.edits ≡ Some edits → is_before (in_ticks (pos n) d) (in_ticks (pos (total edits)) movie) ≡ false → (sample : SampleRecord) → is_shown movie track n d sample ≡ false
  pub whole : track.edits ≡ None → (sample : SampleRecord)
      → is_shown movie track n d sample ≡ is_before (in_ticks (pos n) d) (in_ticks (pos (extent track.samples)) track.scale) && holds track.scale sample (in_ticks (pos n) d)
