use Rattle.std.proofs.Common.{List, sym, subst}
use Rattle.std.specs.List.{AllByRecursion}
use Rattle.mp_ports.specs.Folder.{FolderState}
use Rattle.mp_pieces.specs.Copied.{sizes_of}
use Rattle.mp_movie.specs.Placed.{PlacedTrack}
use Rattle.mp_movie.specs.StandsFor.{Hold, HoldTrack}
use Rattle.mp_layout.proofs.tests.emitted.written_of.Goals as goal

pub emit-result-requires-clause-held : goal.emit-result-requires-clause-held
emit-result-requires-clause-held g c =
    let held = subst (λ (tracks : List PlacedTrack). AllByRecursion (HoldTrack (sizes_of c.in_ok-folder.folder.folder)) tracks) c.tracks.ensures.tracks c.check_tracks.ensures in
    subst (λ (s : FolderState). Hold (sizes_of s) c.args.movie.now) (sym c.in-Ok.ensures.created) held
