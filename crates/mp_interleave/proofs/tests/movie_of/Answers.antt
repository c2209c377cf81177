use Rattle.std.proofs.Common.{rules, ◌≡◌, ◌≢◌, List, [], ◌∷◌, inl, sym, subst, arith}
use Rattle.mp_timeline.specs.Plain.{plain_movie_head}
use Rattle.mp_movie.specs.HeadRanges.{IsMovieHead}
use Rattle.mp_movie.specs.Placed.{PlacedTrack, plain_scale}
use Rattle.mp_movie.specs.WholeParts.{AreParts, AreTrackParts}
use Rattle.mp_interleave.proofs.tests.movie_of.Goals as goal

-- the parts of a movie of two tracks
two-tracks : (one other : PlacedTrack) → AreTrackParts plain_scale one → AreTrackParts plain_scale other → other.number ≢ one.number → IsMovieHead plain_movie_head
    → AreParts (record { scale = plain_scale; head = plain_movie_head; tracks = one ∷ other ∷ [] })
two-tracks one other first second apart head = record {
  bare = record {
    header = record {
      created = head.created;
      modified = head.modified;
      some_scale = omega arith;
      timescale = omega arith;
      duration = omega (arith, first.bare.header.duration, second.bare.header.duration);
      rate = head.rate;
      volume = head.volume;
      matrix = head.matrix_len;
      next_track = omega arith;
    };
    udta = inl head.udta;
    tracks = (first.bare, (second.bare, tt));
    distinct = ((apart, tt), (tt, tt));
  };
  columns = (first.columns, (second.columns, tt));
}

pub movie_of_all-requires : goal.movie_of_all-requires
movie_of_all-requires c =
    let both : c.push-2.new.self.items ≡ c.args.one ∷ c.args.other ∷ [] = search rules in
    subst (λ (tracks : List PlacedTrack). AreParts (record { scale = plain_scale; head = plain_movie_head; tracks = tracks })) (sym both)
    (two-tracks c.args.one c.args.other c.requires.one c.requires.other c.requires.apart c.plain_heads_fit.ensures.movie)
