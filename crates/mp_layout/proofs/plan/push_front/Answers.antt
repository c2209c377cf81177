use Rattle.std.proofs.Common.{ℕ, Bool, List, [], ◌∷◌, ◌++◌, map, ap, sym, subst, ◌∙◌, append-nil}
use Rattle.mp_boxes.specs.Field.{box_bytes}
use Rattle.mp_boxes.specs.Push.{IsPushing}
use Rattle.mp_headers.specs.FileType.{ftyp}
use Rattle.mp_movie.specs.Placed.{payload_len}
use Rattle.mp_movie.specs.StandsFor.{stands_for, track_for}
use Rattle.mp_layout.specs.Chunked.{ArePlaced}
use Rattle.mp_layout.specs.File.{mdat_head}
use Rattle.mp_layout.specs.Moov.{traks}
use Rattle.mp_layout.specs.Written.{moov_with}
use Rattle.mp_layout.proofs.TraksInTurn.{in-pieces}
use Rattle.mp_layout.proofs.plan.push_front.Goals as goal

pub returns : goal.returns
returns c = record {
  bytes = λ files placing placed has long.
      let movie = c.args.movie.now in
      let moov = moov_with (stands_for files movie) (traks movie.scale placing 0 (map (track_for files) movie.tracks)) in
      let text : List ℕ = box_bytes ftyp ++ box_bytes moov ++ mdat_head (payload_len movie.tracks) in
      let all = c.new-front.result.items ++ text in
      let begun = in-pieces _ _ _ _ _ (c.in_ok-reserve.ensures.text text long) in
      let left = subst (λ (n : ℕ). IsPushing c.reserve.new.out (box_bytes ftyp ∷ box_bytes moov ∷ mdat_head n ∷ []) all) (sym c.payload.ensures.bytes) begun in
      let there = subst (λ (wide : List Bool). ArePlaced files movie.tracks c.args.chunks.now c.args.places.now wide placing) (sym c.deref.ensures.value) placed in
      let pushed = c.push_mdat_head.ensures [] all (c.in_ok-push_moov.ensures files placing there has _ all (c.push_ftyp.ensures _ all left)) in
      sym (append-nil c.push_mdat_head.new.out.items) ∙ (pushed.items ∙ ap (λ (b : List ℕ). b ++ text) c.new-front.ensures.items);
}
