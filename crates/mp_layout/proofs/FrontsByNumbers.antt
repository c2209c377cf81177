-- The numbers of a movie give the length of its front and its least set of tracks, or its refusal.
use Rattle.std.proofs.Common.{◌≡◌, ℕ, ◌+◌, ◌*◌, ◌<◌, ◌≤◌, Bool, List, [], ◌++◌, length, Some, refl, sym, subst, arith, inl, inr}
use Rattle.std.specs.Prelude.{◌⊎◌}
use Rattle.std.proofs.lemmas.Bool.{lt-ltb}
use Rattle.std.proofs.lemmas.List.{length-append}
use Rattle.mp_ports.specs.declared.code.Code.TheVariants.{MoovLimit}
use Rattle.mp_ports.specs.Checks.{bad_at}
use Rattle.mp_boxes.specs.Field.{box_bytes}
use Rattle.mp_boxes.specs.Table.{box_len}
use Rattle.mp_headers.specs.FileType.{ftyp}
use Rattle.mp_timeline.specs.Movie.{MovieRecord}
use Rattle.mp_movie.specs.Present.{most_moov}
use Rattle.mp_interleave.specs.Samples.{SampleChunk, chunks_of}
use Rattle.mp_layout.specs.declared.wide.Reach.{Reach}
use Rattle.mp_layout.specs.Order.{payload}
use Rattle.mp_layout.specs.Moov.{moov}
use Rattle.mp_layout.specs.File.{IsLeastClosed, mdat_head, moov_fault, movie_box, payload_place, wide_tracks}
use Rattle.mp_layout.specs.Wide.{IsLeastSet, chunks_in}
use Rattle.mp_layout.specs.Layout.{IsLong, narrow_place}
use Rattle.mp_layout.proofs.FrontLengths.{moov-adds}
use Rattle.mp_layout.proofs.ReachesAreNear.{least-closed, more-in}
use Rattle.mp_layout.proofs.SetsInCommon.{least-is}
use Rattle.mp_layout.proofs.NumbersOfMovies.{AreNumbers, PlanLaws}

-- ---- the front

ftyp-len : box_len ftyp ≡ 28
ftyp-len = refl

-- where the payload stands without places of 64 bits
pub base-is : PlanLaws → (movie : MovieRecord) (chunks : List SampleChunk) (reaches : List Reach) (narrow head bytes : ℕ) → AreNumbers movie chunks reaches narrow head bytes → narrow ≤ most_moov
    → payload_place movie chunks [] ≡ narrow_place narrow head
unfolding payload_place
base-is laws movie chunks reaches narrow head bytes n few =
    let box = moov movie chunks [] 0 in
    let ending = mdat_head (length (payload chunks)) in
    omega (
      arith,
      few,
      n.narrow_is,
      n.head_is,
      ftyp-len,
      laws.boxes.one ftyp,
      laws.boxes.one box,
      length-append (box_bytes ftyp ++ box_bytes box) ending,
      length-append (box_bytes ftyp) (box_bytes box),
    )

-- how long `moov` is with a set of tracks, wherever the payload stands
pub moov-len-is : PlanLaws → (movie : MovieRecord) (chunks : List SampleChunk) (reaches : List Reach) (narrow head bytes : ℕ) → AreNumbers movie chunks reaches narrow head bytes → narrow ≤ most_moov
    → (set : List Bool) (place : ℕ) → length set ≡ length reaches → box_len (moov movie chunks set place) ≡ narrow + 4 * chunks_in reaches set
moov-len-is laws movie chunks reaches narrow head bytes n few set place flags =
    omega (
      arith,
      few,
      n.narrow_is,
      laws.boxes.one (moov movie chunks [] 0),
      laws.boxes.one (moov movie chunks set place),
      moov-adds laws.places movie chunks set 0 place,
      more-in movie chunks reaches set n.right flags,
    )

pub least-for : PlanLaws → (movie : MovieRecord) (chunks : List SampleChunk) (reaches : List Reach) (narrow head bytes : ℕ) → AreNumbers movie chunks reaches narrow head bytes → narrow ≤ most_moov
    → (set : List Bool) → IsLeastSet (narrow_place narrow head) reaches set → IsLeastClosed movie chunks set
least-for laws movie chunks reaches narrow head bytes n few set least =
    least-closed laws.places movie chunks reaches set n.right (subst (λ (p : ℕ). IsLeastSet p reaches set) (sym (base-is laws movie chunks reaches narrow head bytes n few)) least)

-- ---- the refusal

faulty : (movie : MovieRecord) (millis : ℕ) → most_moov < box_len (movie_box movie millis) → moov_fault movie millis ≡ Some (bad_at MoovLimit 0)
unfolding moov_fault
faulty movie millis long = rw (lt-ltb most_moov (box_len (movie_box movie millis)) long) refl

pub refused-for : PlanLaws → (movie : MovieRecord) (millis : ℕ) (reaches : List Reach) (narrow head bytes : ℕ) → AreNumbers movie (chunks_of millis movie) reaches narrow head bytes
    → (most_moov < narrow) ⊎ ((set : List Bool) × IsLong narrow head reaches set) → moov_fault movie millis ≡ Some (bad_at MoovLimit 0)
refused-for laws movie millis reaches narrow head bytes n (inl long) =
    let chunks = chunks_of millis movie in
    let wide = wide_tracks movie chunks in
    let place = payload_place movie chunks wide in
    faulty movie millis (omega (arith, long, n.narrow_is, laws.boxes.one (moov movie chunks [] 0), laws.boxes.one (moov movie chunks wide place), moov-adds laws.places movie chunks wide 0 place))
refused-for laws movie millis reaches narrow head bytes n (inr (set, long)) =
    let chunks = chunks_of millis movie in
    let few = long.few in
    let wide : set ≡ wide_tracks movie chunks = least-is movie chunks set (least-for laws movie chunks reaches narrow head bytes n few set long.least) in
    let place = payload_place movie chunks set in
    let len = moov-len-is laws movie chunks reaches narrow head bytes n few set place long.least.flags in
    let more : most_moov < box_len (moov movie chunks set place) = omega (arith, long.long, len) in
    faulty movie millis (subst (λ (w : List Bool). most_moov < box_len (moov movie chunks w (payload_place movie chunks w))) wide more)
