-- The numbers of a track within the limits fit the fields of its boxes.
use Rattle.std.proofs.Common.{◌≡◌, ◌≢◌, ℕ, ℤ, pos, negsuc, ◌+◌, ◌<◌, ◌≤◌, ◌^◌, List, [], ◌∷◌, All, length, map, get_or, Option, None, Some, refl, sym, ap, subst, false, arith}
use Rattle.std.specs.Prelude.{IfSome, unsigned_abs}
use Rattle.std.specs.Int.{w32, FitsUnsigned}
use Rattle.std.specs.List.{AllByRecursion}
use Rattle.std.proofs.lemmas.Bool.{ltb-false}
use Rattle.std.proofs.lemmas.Int.{ints}
use Rattle.std.proofs.lemmas.List.{get_or_default}
use Rattle.mp_entries.specs.Description.{most_entries}
use Rattle.mp_edits.specs.EditBox.{AreEdits}
use Rattle.mp_timeline.specs.declared.segment.Segment.{Segment}
use Rattle.mp_timeline.specs.Movie.{TrackRecord}
use Rattle.mp_movie.specs.CanBeWritten.{CanBeWritten}
use Rattle.mp_movie.specs.Limits.{FitsEdits}
use Rattle.mp_movie.specs.PartsFit.{first_limit, is_long}
use Rattle.mp_movie.specs.Placed.{PlacedTrack, PlacedMovie}
use Rattle.mp_movie.specs.WellFormed.{IsWellFormedTrack}
use Rattle.mp_movie.specs.WholeParts.{AreColumns, AreParts, IsNatural, bare_track}
use Rattle.mp_movie.proofs.ColumnsInNumbers.{sizes_natural}
use Rattle.mp_movie.proofs.PartsFitMovies.{PassesNone, edits_fit, none_passed, offsets_fit, small_item}

fits_field : (x : ℤ) → IsNatural x → unsigned_abs x < 2 ^ 32 → FitsUnsigned w32 x
fits_field (pos n) natural small = (omega (arith, ints), omega (arith, ints))
fits_field (negsuc n) natural small = absurd (omega (arith, natural))

column_fits : (column : List ℤ) → All IsNatural column → is_long column ≡ false → All (FitsUnsigned w32) column
column_fits column natural short = λ i d inside.
    fits_field (get_or column i d) (natural i d inside) (subst (λ (x : ℤ). unsigned_abs x < 2 ^ 32) (sym (get_or_default column i d (pos 0) inside)) (small_item column i short inside))

are_edits : (edits : Option (List Segment)) → edits ≢ Some [] → IfSome edits FitsEdits → AreEdits edits
are_edits None some fits = tt
are_edits (Some []) some fits = absurd (some refl)
are_edits (Some (edit ∷ edits)) some fits = record { some = omega arith; few = fits.few; short = fits.short; early = fits.early }

can_be_written : (movie_scale : ℕ) (track : PlacedTrack) → IsWellFormedTrack movie_scale (bare_track track) → AreColumns track → PassesNone track → CanBeWritten track
can_be_written movie_scale track formed columns passes = record {
  flags = formed.header.flags;
  scale = formed.media.some_scale;
  entries = ltb-false most_entries (length track.entries) passes.entries;
  columns = columns;
  deltas = column_fits track.deltas columns.deltas passes.durations;
  offsets = offsets_fit track.offsets passes.offsets;
  sizes = column_fits track.sizes (sizes_natural track columns) passes.sizes;
  edits = are_edits track.edits formed.edits (edits_fit track.edits passes.short passes.early passes.segments);
}

all_can : (movie_scale : ℕ) (tracks : List PlacedTrack) → AllByRecursion (IsWellFormedTrack movie_scale) (map bare_track tracks) → AllByRecursion AreColumns tracks → AllByRecursion PassesNone tracks → AllByRecursion CanBeWritten tracks
all_can movie_scale [] formed columns passes = tt
all_can movie_scale (track ∷ tracks) formed columns passes =
    (can_be_written movie_scale track formed.0 columns.0 passes.0, all_can movie_scale tracks formed.1 columns.1 passes.1)

pub parts_can : (movie : PlacedMovie) → AreParts movie → first_limit movie ≡ None → AllByRecursion CanBeWritten movie.tracks
parts_can movie whole fits = all_can movie.scale movie.tracks whole.bare.tracks whole.columns (none_passed movie fits)
