use Rattle.std.proofs.Common.{◌≡◌, ◌⊎◌, ℕ, List, Result, Ok, Err, refl, inl, inr}
use Rattle.mp_ports.specs.declared.fault.Bad.{Bad}
use Rattle.mp_timeline.specs.Movie.{MovieRecord}
use Rattle.adts_import.specs.Stream.{IsRefused, Denotes, stream_movie}
use Rattle.adts_import.proofs.Laws.{stream_of_movie, movie_of_stream, refusal_of, read_refused, one_cutting}
use Rattle.adts_import.proofs.law.each_file_is_a_stream_or_refused.Goals as goal

either : (file : List ℕ) (read : Result MovieRecord Bad) → stream_movie file ≡ read → ((movie : MovieRecord) × Denotes file movie) ⊎ ((bad : Bad) × IsRefused file bad)
either file (Ok movie) same = inl (movie, stream_of_movie file movie same)
either file (Err bad) same = inr (bad, refusal_of file bad same)

pub returns : goal.returns
returns c = record {
  movie = λ file movie. (stream_of_movie file movie, movie_of_stream file movie);
  fault = λ file bad. (refusal_of file bad, read_refused file bad);
  never_neither = λ file. either file (stream_movie file) refl;
  never_both = λ file movie bad denotes refused.
      let read = movie_of_stream file movie denotes in
      let fault = read_refused file bad refused in
      cc;
  one_cutting = one_cutting;
  one_fault = λ file bad other one two.
      let first = read_refused file bad one in
      let second = read_refused file other two in
      cc;
}
