-- The segments that a delay asks for.
use Rattle.std.proofs.Common.{◌≡◌, ◌≢◌, ℕ, suc, ◌+◌, ◌*◌, ◌^◌, ◌<◌, ◌≤◌, nat_le, Bool, true, false, ℤ, pos, negsuc, List, [], ◌∷◌, refl, sym, ap, ◌∙◌, subst, arith}
use Rattle.std.specs.Prelude.{Ok, Err, int_lt, unsigned_abs}
use Rattle.std.specs.List.{AllByRecursion}
use Rattle.std.proofs.lemmas.Bool.{le-leb, leb-false, lt-leb, ltb-true}
use Rattle.mp_ports.specs.declared.code.Code.TheVariants.{DelayPastEnd}
use Rattle.mp_ports.specs.declared.fault.Bad.{Bad}
use Rattle.mp_ports.specs.Checks.{bad_at, placed}
use Rattle.mp_timeline.specs.declared.segment.Segment.{Segment}
use Rattle.mp_timeline.specs.declared.segment.Segment.TheVariants.{Empty}
use Rattle.mp_timeline.specs.Movie.{TrackRecord}
use Rattle.mp_edits.specs.Segments.{total}
use Rattle.mp_movie.specs.Placed.{PlacedTrack}
use Rattle.mp_movie.specs.StandsFor.{track_for}
use Rattle.mp_shown.specs.Law.{PiecesShow}
use Rattle.mp_shown.specs.Segments.{explicit, pieces}
use Rattle.mp_clip.specs.Clipped.{Tells, starts}
use Rattle.track_ops.specs.Delay.{behind, delayed}
use Rattle.track_ops.specs.declared.wide.Wide.{Wide}
use Rattle.track_ops.specs.Wide.{CanStartBehind, CanWiden, as_segments}
use Rattle.track_ops.proofs.ShownStands.{same_Ok}
use Rattle.track_ops.proofs.WideSegments.{wide_fits}

pub asks_later : (ms : ℤ) (movie time : ℕ) (track : TrackRecord) (segments : List Segment) → int_lt ms (pos 0) ≡ false → time ≡ unsigned_abs ms * (movie * track.scale) → segments ≡ Empty time ∷ explicit movie track 1000 → placed 0 (delayed ms movie track) ≡ Ok segments
asks_later (pos ms) movie time track segments some is made = ap (λ (n : ℕ). Ok (Empty n ∷ explicit movie track 1000)) (sym is) ∙ ap (λ (ss : List Segment). Ok ss) (sym made)
asks_later (negsuc ms) movie time track segments some is made = cc

pub asks_sooner : (ms : ℤ) (movie time : ℕ) (track : TrackRecord) → int_lt ms (pos 0) ≡ true → time ≡ unsigned_abs ms * (movie * track.scale) → delayed ms movie track ≡ behind time (explicit movie track 1000)
asks_sooner (pos ms) movie time track less is = let lt = ltb-true ms 0 less in absurd (omega (arith, lt))
asks_sooner (negsuc ms) movie time track less is = ap (λ (n : ℕ). behind n (explicit movie track 1000)) (sym is)

pub past_end : (time : ℕ) (segments own : List Segment) (bad : Bad) → segments ≡ own → total segments ≤ time → bad ≡ bad_at DelayPastEnd 0 → placed 0 (behind time own) ≡ Err bad
past_end time segments own bad same past is = ap (λ (ss : List Segment). placed 0 (behind time ss)) (sym same) ∙ (rw (le-leb (total segments) time past) refl ∙ ap (λ (b : Bad). Err b) (sym is))

pub left_behind : (time : ℕ) (segments own left : List Segment) → segments ≡ own → time < total segments → left ≡ pieces time (total segments) segments → placed 0 (behind time own) ≡ Ok left
left_behind time segments own left same less is = ap (λ (ss : List Segment). placed 0 (behind time ss)) (sym same) ∙ (rw (lt-leb (total segments) time less) refl ∙ ap (λ (ss : List Segment). Ok ss) (sym is))

-- 128 bits hold them
pub wide_total : (movie time : ℕ) (track : PlacedTrack) (wides read : List Wide) → movie < 2 ^ 32 → track.scale < 2 ^ 32 → time ≤ 2 ^ 96 → CanWiden track → read ≡ wides → as_segments wides ≡ explicit movie (track_for [] track) 1000
    → total (as_segments read) < 2 ^ 128
wide_total movie time track wides read below small short can same is = subst (λ (ss : List Segment). total ss < 2 ^ 128) (sym (ap as_segments same ∙ is)) (wide_fits [] movie time track below small short can).0

pub wide_room : (movie time : ℕ) (track : PlacedTrack) (wides read : List Wide) → movie < 2 ^ 32 → track.scale < 2 ^ 32 → time ≤ 2 ^ 96 → CanWiden track → read ≡ wides → as_segments wides ≡ explicit movie (track_for [] track) 1000
    → CanStartBehind time read
wide_room movie time track wides read below small short can same is =
    subst (λ (ss : List Segment). AllByRecursion (λ start. start + time < 2 ^ 128) (starts ss)) (sym (ap as_segments same ∙ is)) (wide_fits [] movie time track below small short can).1

-- there are segments
some_pieces : (time : ℕ) (segments : List Segment) → PiecesShow → time < total segments → pieces time (total segments) segments ≢ []
some_pieces time segments law less none =
    let all = law.total segments time (total segments) (low less) in
    let empty = ap total none in
    omega (arith, all, empty, less)
  where
    low : time < total segments → time ≤ total segments
    low lt = omega (arith, lt)

delayed_some : PiecesShow → (ms : ℤ) (movie : ℕ) (track : TrackRecord) (segments : List Segment) → placed 0 (delayed ms movie track) ≡ Ok segments → segments ≢ []
delayed_some law (pos ms) movie track segments is =
    subst (λ (ss : List Segment). ss ≢ []) (same_Ok (placed 0 (delayed (pos ms) movie track)) (Empty (ms * (movie * track.scale)) ∷ explicit movie track 1000) segments refl is) (λ none. cc)
delayed_some law (negsuc ms) movie track segments is = by (nat_le (total (explicit movie track 1000)) (suc ms * (movie * track.scale))) refl
  where
    by : (b : Bool) → nat_le (total (explicit movie track 1000)) (suc ms * (movie * track.scale)) ≡ b → segments ≢ []
    by true past = let none = rw past at is in cc
    by false past =
        let made : placed 0 (delayed (negsuc ms) movie track) ≡ Ok (pieces (suc ms * (movie * track.scale)) (total (explicit movie track 1000)) (explicit movie track 1000)) = rw past refl in
        subst (λ (ss : List Segment). ss ≢ [])
        (same_Ok (placed 0 (delayed (negsuc ms) movie track)) (pieces (suc ms * (movie * track.scale)) (total (explicit movie track 1000)) (explicit movie track 1000)) segments made is)
        (some_pieces (suc ms * (movie * track.scale)) (explicit movie track 1000) law (leb-false (total (explicit movie track 1000)) (suc ms * (movie * track.scale)) past))

told_some : (unit media movie : ℕ) (segments edits : List Segment) → Tells unit media movie segments edits → segments ≢ [] → edits ≢ []
told_some unit media movie [] edits told some = absurd (some refl)
told_some unit media movie (segment ∷ segments) [] told some = absurd told
told_some unit media movie (segment ∷ segments) (edit ∷ edits) told some = λ none. cc

pub edits_some : PiecesShow → (ms : ℤ) (movie : ℕ) (track : TrackRecord) (unit media scale : ℕ) (segments edits : List Segment) → placed 0 (delayed ms movie track) ≡ Ok segments → Tells unit media scale segments edits → edits ≢ []
edits_some law ms movie track unit media scale segments edits is told = told_some unit media scale segments edits told (delayed_some law ms movie track segments is)

-- in the numbers that the call read
pub time_told : (time movie s t : ℕ) (z ms : ℤ) → z ≡ ms → s ≡ t → time ≡ unsigned_abs z * (movie * s) → time ≡ unsigned_abs ms * (movie * t)
time_told time movie s t z ms same scale is = is ∙ (ap (λ (x : ℤ). unsigned_abs x * (movie * s)) same ∙ ap (λ (n : ℕ). unsigned_abs ms * (movie * n)) scale)

pub sign_told : (negative test : Bool) (z ms : ℤ) → z ≡ ms → negative ≡ int_lt z (pos 0) → negative ≡ test → int_lt ms (pos 0) ≡ test
sign_told negative test z ms same is found = sym (ap (λ (x : ℤ). int_lt x (pos 0)) same) ∙ (sym is ∙ found)
