use Rattle.std.proofs.Common.{◌+◌, List, sym, subst}
use Rattle.mp_layout.specs.declared.wide.Reach.{Reach}
use Rattle.mp_layout.specs.Chunked.{AreReaches}
use Rattle.mp_layout.proofs.TraksInTurn.{no-reaches, reaches-on}
use Rattle.mp_layout.proofs.table.track_reaches.Goals as goal

pub loop-position-init : goal.loop-position-init
loop-position-init c = subst (λ (rs : List Reach). AreReaches c.args.scale c.args.tracks.now c.args.chunks.now c.args.places.now 0 rs) (sym c.new-reaches.ensures.items) (no-reaches _ _ _ _)

pub loop-position-preserved : goal.loop-position-preserved
loop-position-preserved c =
    subst (λ (rs : List Reach). AreReaches c.args.scale c.args.tracks.now c.args.chunks.now c.args.places.now (c.loop-position.position + 1) rs) (sym c.in_ok-push.ensures.items)
    (reaches-on _ _ _ _ _ _ _ c.loop-position.invariant c.in_ok-reach_of.ensures)
