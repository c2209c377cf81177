use Rattle.std.proofs.Common.{ℕ}
use Rattle.mp_timeline.specs.Movie.{MovieRecord}
use Rattle.mp_movie.specs.Limits.{Fits}
use Rattle.mp_movie.specs.WellFormed.{IsWellFormed}
use Rattle.mp_layout.specs.File.{HasShortMoov, file_bytes}
use Rattle.mp_layout.proofs.EveryMovie.{file-presents}
use Rattle.mp_layout.proofs.FileIsRead.{IsFileRead}
use Rattle.mp_layout.proofs.Laws.{Laws}
use Rattle.mp_layout.proofs.law.file_presents_movie.Goals as goal

pub returns : goal.returns
returns c =
    let laws : Laws = record {
      boxes = record { cuts = c.boxes_are_read.ensures; parts = c.parts_are_read.ensures; heads = c.heads_are_read.ensures; lengths = c.boxes_have_lengths.ensures };
      headers = c.headers_are_read.ensures;
      references = c.references_are_read.ensures;
      entries = c.descriptions_are_read.ensures;
      times = c.tables_are_read.ensures;
      edits = c.edits_are_read.ensures;
    } in
    let read : (movie : MovieRecord) (millis : ℕ) → IsWellFormed movie → Fits movie → HasShortMoov movie millis → IsFileRead (file_bytes movie millis) movie =
    λ movie millis formed fits short. file-presents laws c.samples_stand_in_chunks.ensures c.places_are_read.ensures c.places_change_no_length.ensures movie millis formed fits short in
    record {
      sound = λ movie millis formed fits short. (read movie millis formed fits short).sound;
      exact = λ movie millis formed fits short. (read movie millis formed fits short).read;
      same = λ movie millis formed fits short.
          c.same_movie_is_presented.ensures.presented (file_bytes movie millis) movie (c.same_movie_is_presented.ensures.scales movie formed) (read movie millis formed fits short).read;
    }
