-- The objects of a track and of a movie, member by member.
use Rattle.std.proofs.Common.{◌≡◌, ℕ, List, [], ◌++◌, ◌%◌, ◌==◌, map, sym, ap, ◌∙◌, append_assoc, codes, decimal}
use Rattle.json.specs.Print.{escape_byte}
use Rattle.serde_json.specs.Data.{array, boolean, string}
use Rattle.serde_json.specs.Written.{compact_text}
use Rattle.mp_timeline.specs.Movie.{TrackRecord}
use Rattle.mp_movie.specs.Durations.{movie_duration}
use Rattle.mp_movie.specs.Placed.{PlacedMovie}
use Rattle.mp_movie.specs.StandsFor.{stands_for, track_for}
use Rattle.mp_dump.specs.Json.{edits_value, items, json, movie_value, row_value, track_value}
use Rattle.mp_dump.specs.Row.{row_of}
use Rattle.mp_dump.specs.Words.{entry_type, language_text, type_text}
use Rattle.mp_dump.proofs.Chains.{behind}
use Rattle.mp_dump.proofs.Commas.{left}

pub object_of_track : (track : TrackRecord) (old a1 b1 a2 b2 a3 b3 a4 b4 a5 b5 a6 b6 a7 b7 a8 b8 new : List ℕ)
    → a1 ≡ old ++ codes "{\"edits\":" → b1 ≡ a1 ++ compact_text (edits_value track.edits)
    → a2 ≡ b1 ++ codes ",\"enabled\":" → b2 ≡ a2 ++ compact_text (boolean (track.head.flags % 2 == 1))
    → a3 ≡ b2 ++ codes ",\"entries\":" → b3 ≡ a3 ++ compact_text (array (items (λ entry. string (entry_type entry)) track.entries))
    → a4 ≡ b3 ++ codes ",\"handler\":" → b4 ≡ a4 ++ compact_text (string (type_text track.head.handler))
    → a5 ≡ b4 ++ codes ",\"language\":" → b5 ≡ a5 ++ compact_text (string (language_text track.head.language))
    → a6 ≡ b5 ++ codes ",\"number\":" → b6 ≡ a6 ++ decimal track.number
    → a7 ≡ b6 ++ codes ",\"samples\":" → b7 ≡ a7 ++ compact_text (array (items row_value (map row_of track.samples)))
    → a8 ≡ b7 ++ codes ",\"scale\":" → b8 ≡ a8 ++ decimal track.scale
    → new ≡ b8 ++ codes "}" → new ≡ old ++ compact_text (track_value track)
unfolding track_value escape_byte
object_of_track track old a1 b1 a2 b2 a3 b3 a4 b4 a5 b5 a6 b6 a7 b7 a8 b8 new k1 v1 k2 v2 k3 v3 k4 v4 k5 v5 k6 v6 k7 v7 k8 v8 end =
    behind old a1 new _ _ k1 (behind a1 b1 new _ _ v1
    (behind b1 a2 new _ _ k2 (behind a2 b2 new _ _ v2
    (behind b2 a3 new _ _ k3 (behind a3 b3 new _ _ v3
    (behind b3 a4 new _ _ k4 (behind a4 b4 new _ _ v4
    (behind b4 a5 new _ _ k5 (behind a5 b5 new _ _ v5
    (behind b5 a6 new _ _ k6 (behind a6 b6 new _ _ v6
    (behind b6 a7 new _ _ k7 (behind a7 b7 new _ _ v7
    (behind b7 a8 new _ _ k8 (behind a8 b8 new _ _ v8 end)))))))))))))))

object_of_movie : (files : List (List ℕ)) (movie : PlacedMovie) (a b c d start all object : List ℕ)
    → a ≡ [] ++ codes "{\"duration\":" → b ≡ a ++ decimal (movie_duration (stands_for files movie)) → c ≡ b ++ codes ",\"scale\":" → d ≡ c ++ decimal movie.scale
    → start ≡ d ++ codes ",\"tracks\":[" → all ≡ start ++ left track_value 0 (map (track_for files) movie.tracks) → object ≡ all ++ codes "}"
    → object ≡ compact_text (movie_value (stands_for files movie))
unfolding movie_value escape_byte
object_of_movie files movie a b c d start all object k1 v1 k2 v2 k3 told end =
    behind [] a object _ _ k1 (behind a b object _ _ v1 (behind b c object _ _ k2 (behind c d object _ _ v2 (behind d start object _ _ k3 (behind start all object _ _ told end)))))

pub json_of : (files : List (List ℕ)) (movie : PlacedMovie) (duration scale : ℕ) (a b c d start out object new : List ℕ) → duration ≡ movie_duration (stands_for files movie) → scale ≡ movie.scale
    → a ≡ [] ++ codes "{\"duration\":" → b ≡ a ++ decimal duration → c ≡ b ++ codes ",\"scale\":" → d ≡ c ++ decimal scale → start ≡ d ++ codes ",\"tracks\":["
    → out ++ codes "]" ≡ start ++ left track_value 0 (map (track_for files) movie.tracks) → object ≡ out ++ codes "]}" → new ≡ object ++ codes "\n" → new ≡ json (stands_for files movie)
json_of files movie duration scale a b c d start out object new length_is scale_is k1 v1 k2 v2 k3 told end line =
    line ∙ ap (λ (t : List ℕ). t ++ codes "\n")
    (object_of_movie files movie a b c d start (out ++ codes "]") object k1 (v1 ∙ ap (λ (x : ℕ). a ++ decimal x) length_is) k2 (v2 ∙ ap (λ (x : ℕ). c ++ decimal x) scale_is) k3 told
    (end ∙ sym (append_assoc out (codes "]") (codes "}"))))
