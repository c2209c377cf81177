use Rattle.std.proofs.Common.{◌++◌, List, ap, sym, ◌∙◌, eq-eqb}
use Rattle.std.proofs.lemmas.Bool.{ne_eqb}
use Rattle.mp_chunks.specs.declared.push.ChunkHead.{ChunkHead}
use Rattle.mp_layout.proofs.Emitting.{no-chunk}
use Rattle.mp_layout.proofs.TraksInTurn.{heads-next, said-other, said-own}
use Rattle.mp_layout.proofs.table.track_heads.Goals as goal
use Rattle.mp_layout.proofs.table.track_heads.Goals.{then-chunks-at+in_ok-push, else-chunks-at}

pub loop-at-preserved : goal.loop-at-preserved
loop-at-preserved c =
    let next = heads-next c.args.tracks.now c.args.position c.loop-at.at c.args.chunks.now c.args.places.now no-chunk 0 c.loop-at-test.true c.requires.places in
    let before = ap (λ (said : List ChunkHead). c.loop-at.heads.items ++ said) (sym next) ∙ c.loop-at.invariant in
    elim c.if-chunks-at.branch [
      | then-chunks-at+in_ok-push w ↦ rw (w.heads-is, w.in_ok-push.ensures.items, w.chunk_head.ensures) (said-own _ _ _ _ _ _ _ _ (eq-eqb _ _ w.if-chunks-at.true) before)
      | else-chunks-at w ↦ rw w.heads-is (said-other _ _ _ _ _ _ _ _ (ne_eqb _ _ w.if-chunks-at.false) before)
    ]
