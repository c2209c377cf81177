use Rattle.std.proofs.Common.{rules, ◌≡◌, List, ℕ, [], ◌∷◌, codes, map, subst, sym, append_assoc}
use Rattle.mp_boxes.specs.Field.{Part, box_bytes}
use Rattle.mp_boxes.specs.Push.{IsPushing}
use Rattle.mp_headers.specs.declared.movie_header.Mvhd.{Mvhd}
use Rattle.mp_headers.specs.MovieHeader.{mvhd}
use Rattle.mp_movie.specs.StandsFor.{track_for}
use Rattle.mp_layout.specs.Moov.{traks, with_user_data}
use Rattle.mp_layout.proofs.Containers.{same-box, same-len, user-data-left}
use Rattle.mp_layout.proofs.TraksInTurn.{tracks-in-words}
use Rattle.mp_layout.proofs.moov.push_moov.Goals as goal

abbrev boxed : List Part → Mvhd → List ℕ → Part
boxed parts m udta = with_user_data (codes "moov") (mvhd m ∷ parts) udta

moov-by : (parts : List Part) (a b : Mvhd) (d e : List ℕ) → a ≡ b → d ≡ e → boxed parts a d ≡ boxed parts b e
moov-by parts a b d e p q = λ i. boxed parts (p i) (q i)

pub returns : goal.returns
returns c = λ files placing placed has.
    let movie = c.args.movie.now in
    let parts = traks movie.scale placing 0 (map (track_for files) movie.tracks) in
    let udta : c.deref.result.now ≡ movie.head.udta = search rules in
    let same = moov-by parts _ _ _ _ (c.movie_header.ensures files) udta in
    let len = same-len _ _ _ (sym same) has in
    let pushes = tracks-in-words _ _ _ _ _ _ _ _ _ c.scale.ensures c.tracks.ensures.tracks c.in_ok-push_traks.ensures files placing placed in
    same-box _ _ _ _ same
    (λ rest all p.
    let begun = user-data-left _ _ (codes "moov") c.args.len c.begin_box.ensures.rows (mvhd c.movie_header.result ∷ parts) c.deref.result.now len rest all p in
    let left = subst (λ (texts : List (List ℕ)). IsPushing c.push_mvhd.new.out texts all) (append_assoc (map box_bytes parts) (c.deref.result.now ∷ []) rest) (c.push_mvhd.ensures _ all begun) in
    c.push_bytes.ensures rest all (pushes _ all left))
