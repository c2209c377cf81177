use Rattle.std.proofs.Common.{◌∙◌, ap, length}
use Rattle.mp_movie.specs.Placed.{PlacedTrack}
use Rattle.mp_movie.specs.PartsFit.{first_limit}
use Rattle.avc_import.specs.Film.{schedule}
use Rattle.avc_import.specs.Ranking.{latest}
use Rattle.avc_import.specs.Times.{lasting}
use Rattle.avc_import.proofs.Fitting.{bare_deltas, bare_entries, given, not_refused, placed_is, track_fits, within_limits}
use Rattle.avc_import.proofs.Scaling.{movie_scale_some}
use Rattle.avc_import.proofs.track.film_movie.Goals as goal

pub push_pictures-requires-clause-none : goal.push_pictures-requires-clause-none
push_pictures-requires-clause-none c =
    let h = c.requires.of_film in
    ap (λ (t : PlacedTrack). length t.deltas) (c.in-Ok.ensures.track h.film h.are.sequence h.are.units) ∙ bare_deltas h.film c.args.shots.schedule

pub push_pictures-requires-clause-entry : goal.push_pictures-requires-clause-entry
push_pictures-requires-clause-entry c =
    let h = c.requires.of_film in
    ap (λ (t : PlacedTrack). length t.entries) (c.in-Ok.ensures.track h.film h.are.sequence h.are.units) ∙ bare_entries h.film c.args.shots.schedule

pub from_scaled-requires-clause-scale : goal.from_scaled-requires-clause-scale
from_scaled-requires-clause-scale c =
    let h = c.requires.of_film in
    rw h.are.schedule_is (movie_scale_some (lasting h.rate h.film.sequence.fields.tick) (length h.film.counts) (latest h.film.counts h.film.syncs (length h.film.counts)))

pub from_scaled-requires-clause-parts : goal.from_scaled-requires-clause-parts
from_scaled-requires-clause-parts c =
    let h = c.requires.of_film in
    let first = c.in-Ok.ensures in
    let pushed = c.in-Ok-push_pictures.ensures in
    track_fits h.file h.size h.rate h.film c.args.shots _ _ h.are (first.track h.film h.are.sequence h.are.units) (pushed.track h.file h.size h.rate h.film h.are) pushed.columns first.head first.entry c.is_number.ensures

pub returns-in-Ok-from_scaled : goal.returns-in-Ok-from_scaled
returns-in-Ok-from_scaled c = λ file size rate film are.
    let first = c.in-Ok.ensures.track film are.sequence are.units in
    given _ _ _ c.in-Ok-from_scaled.ensures.movie ∙ placed_is file size rate film c.args.shots _ _ are first (c.in-Ok-push_pictures.ensures.track file size rate film are)

pub unreachable-requires : goal.unreachable-requires
unreachable-requires c =
    let h = c.requires.of_film in
    let first = c.in-Ok.ensures.track h.film h.are.sequence h.are.units in
    let placed = placed_is h.file h.size h.rate h.film c.args.shots _ _ h.are first (c.in-Ok-push_pictures.ensures.track h.file h.size h.rate h.film h.are) in
    not_refused _ _ _ _ c.in-Err-Bad-default.field-0-0-is
    (ap first_limit placed ∙ within_limits h.file h.film (schedule h.rate h.film) c.limits_are_of_tracks.ensures h.are.parts_len h.are.few c.requires.none)
    c.in-Err-Bad-default.ensures.movie
