use Rattle.adts_import.proofs.Standing.{stands}
use Rattle.adts_import.proofs.import.import_adts.Goals as goal

pub returns-clause-movie : goal.returns-clause-movie
returns-clause-movie g c =
    let stream = c.in_ok-stream.ensures in
    let places = c.in_ok-places.ensures in
    rw c.in_ok-movie.ensures (stands _ c.args.file c.in_ok-stream.stream c.in_ok-places.places.items stream.first (rw stream.folder at places.places))
