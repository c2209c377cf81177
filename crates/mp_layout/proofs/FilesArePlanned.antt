-- What is counted of the columns of a movie gives the plan of its file.
use Rattle.std.proofs.Common.{◌≡◌, ℕ, ◌+◌, ◌^◌, ◌<◌, ◌≤◌, Bool, List, ◌++◌, length, map, Some, None, refl, sym, ap, subst, ◌∙◌, arith}
use Rattle.std.specs.Prelude.{Err}
use Rattle.std.proofs.lemmas.Bool.{le-ltb}
use Rattle.std.proofs.lemmas.List.{length-append}
use Rattle.mp_ports.specs.declared.fault.Fail.{Fail}
use Rattle.mp_ports.specs.declared.fault.Fail.TheVariants.{Bad, NoMemory}
use Rattle.mp_boxes.specs.Field.{box_bytes}
use Rattle.mp_boxes.specs.Table.{HasLen, box_len, capped}
use Rattle.mp_headers.specs.FileType.{ftyp}
use Rattle.mp_timeline.specs.Movie.{MovieRecord}
use Rattle.mp_movie.specs.PartsFit.{first_limit}
use Rattle.mp_movie.specs.Placed.{PlacedMovie, PlacedTrack, payload_len}
use Rattle.mp_movie.specs.Present.{Presents, most_moov, present}
use Rattle.mp_movie.specs.StandsFor.{Hold, HoldTrack, stands_for, track_for}
use Rattle.mp_movie.specs.WholeParts.{AreParts}
use Rattle.mp_interleave.specs.declared.chunk.Chunk.{Chunk}
use Rattle.mp_interleave.specs.Order.{planned}
use Rattle.mp_interleave.specs.Samples.{chunks_of}
use Rattle.mp_layout.specs.declared.wide.Reach.{Reach}
use Rattle.mp_layout.specs.declared.plan.Layout.{Layout}
use Rattle.mp_layout.specs.Order.{payload, places_from}
use Rattle.mp_layout.specs.Tables.{Placing}
use Rattle.mp_layout.specs.Moov.{moov, placing_at, traks}
use Rattle.mp_layout.specs.File.{HasShortMoov, file_bytes, front_at, mdat_head, moov_fault, movie_box, payload_place, wide_tracks}
use Rattle.mp_layout.specs.Written.{moov_with}
use Rattle.mp_layout.specs.Chunked.{ArePlaced, CanAllBePlaced, heads_on, places_behind}
use Rattle.mp_layout.specs.Layout.{IsLayout, IsRefused}
use Rattle.mp_layout.specs.Plan.{FilePlanRecord, IsFilePlan, Plans}
use Rattle.mp_layout.proofs.ColumnSums.{at-track}
use Rattle.mp_layout.proofs.FrontLengths.{front-len}
use Rattle.mp_layout.proofs.HeadsOfChunks.{places-moved}
use Rattle.mp_layout.proofs.ReachesAreNear.{place-is}
use Rattle.mp_layout.proofs.SetsInCommon.{least-is}
use Rattle.mp_layout.proofs.NumbersOfMovies.{AreCounted, PlanLaws, are-chunks, numbers-for}
use Rattle.mp_layout.proofs.FrontsByNumbers.{base-is, least-for, moov-len-is, refused-for}

-- ---- the plan

unrefused : (movie : MovieRecord) (millis : ℕ) → HasShortMoov movie millis → moov_fault movie millis ≡ None
unfolding moov_fault
unrefused movie millis short = rw (le-ltb most_moov (box_len (movie_box movie millis)) short) refl

whole-file : (movie : MovieRecord) (millis : ℕ) (set : List Bool) (place : ℕ) → set ≡ wide_tracks movie (chunks_of millis movie) → place ≡ payload_place movie (chunks_of millis movie) set
    → front_at movie (chunks_of millis movie) set place ++ payload (chunks_of millis movie) ≡ file_bytes movie millis
unfolding file_bytes
whole-file movie millis set place wide is =
    let chunks = chunks_of millis movie in
    ap (λ (p : ℕ). front_at movie chunks set p ++ payload chunks) is
    ∙ ap (λ (w : List Bool). front_at movie chunks w (payload_place movie chunks w) ++ payload chunks) wide

pub planned-for : PlanLaws → (files : List (List ℕ)) (movie : PlacedMovie) (millis : ℕ) (plan : List Chunk) (reaches : List Reach) (narrow head bytes : ℕ) → AreParts movie → first_limit movie ≡ None → Hold (map length files) movie
    → plan ≡ planned millis movie → AreCounted movie plan reaches narrow head bytes → (layout : Layout) → IsLayout narrow head reaches layout → (place : ℕ) → place ≡ 28 + layout.moov + head
    → (front offsets : List ℕ) → offsets ≡ map (λ behind. capped (place + behind)) (places_behind movie.tracks 0 plan)
    → ((placing : ℕ → Placing) → ArePlaced files movie.tracks plan offsets layout.wide.items placing
    → (let box = moov_with (stands_for files movie) (traks movie.scale placing 0 (map (track_for files) movie.tracks)) in
    let text = box_bytes ftyp ++ box_bytes box ++ mdat_head (payload_len movie.tracks) in
    HasLen layout.moov box → length text ≡ place → front ≡ text))
    → (let it : FilePlanRecord = record { front = front; plan = plan; offsets = offsets; wide = layout.wide.items; length = place + bytes } in IsFilePlan it (stands_for files movie) millis)
planned-for laws files movie millis plan reaches narrow head bytes parts limits hold is counted layout laid place place_is front offsets offsets_are pushed =
    let whole = stands_for files movie in
    let chunks = chunks_of millis whole in
    let set = layout.wide.items in
    let n = numbers-for laws files movie millis plan reaches narrow head bytes parts hold is counted in
    let are = are-chunks laws files movie millis plan parts hold is in
    let moov_is = laid.moov in
    let moov_short = laid.short in
    let few : narrow ≤ most_moov = omega (arith, moov_is, moov_short) in
    let least = least-for laws whole chunks reaches narrow head bytes n few set laid.least in
    let wide = least-is whole chunks set least in
    let base = base-is laws whole chunks reaches narrow head bytes n few in
    let there : place ≡ payload_place whole chunks set =
    omega (arith, place_is, moov_is, base, place-is laws.places whole chunks reaches set n.right laid.least.flags) in
    let box_is = moov-len-is laws whole chunks reaches narrow head bytes n few set place laid.least.flags in
    let short = counted.short in
    let small = counted.small in
    let paid = n.paid in
    let behind : places_behind movie.tracks 0 plan ≡ places_from 0 chunks = are.places (omega (arith, short, paid)) in
    let ending : place + length (payload chunks) < 2 ^ 64 = omega (arith, short, paid, place_is, moov_short, small) in
    let placed : offsets ≡ places_from place chunks = offsets_are ∙ (ap (map (λ b. capped (place + b))) behind ∙ places-moved chunks place 0 place (omega arith) ending) in
    let text : List ℕ = front_at whole chunks set place in
    let text_len : length text ≡ place = front-len laws.places whole chunks set place ∙ sym there in
    let same_head : mdat_head (payload_len movie.tracks) ≡ mdat_head (length (payload chunks)) = ap mdat_head (sym counted.bytes_are ∙ paid) in
    let box = moov whole chunks set place in
    let placing_all : ArePlaced files movie.tracks plan offsets set (placing_at chunks set place) =
    λ position d lt. record {
      held = at-track (HoldTrack (map length files)) movie.tracks position d hold lt;
      heads = are.heads position place ∙ ap (heads_on movie.tracks position plan) (sym placed);
      same_wide = refl;
    } in
    let as_text = ap (λ (h : List ℕ). box_bytes ftyp ++ box_bytes box ++ h) same_head in
    let front_is : front ≡ text = pushed (placing_at chunks set place) placing_all (omega (arith, box_is, moov_is, moov_short)) (ap length as_text ∙ text_len) ∙ as_text in
    let file : front ++ payload chunks ≡ file_bytes whole millis = ap (λ (b : List ℕ). b ++ payload chunks) front_is ∙ whole-file whole millis set place wide there in
    let formed = laws.stand.well_formed files movie parts in
    let within = laws.stand.fits files movie parts hold limits in
    let box_short : box_len box ≤ most_moov = omega (arith, box_is, moov_is, moov_short) in
    let at_place : box_len (moov whole chunks set (payload_place whole chunks set)) ≤ most_moov = subst (λ (p : ℕ). box_len (moov whole chunks set p) ≤ most_moov) there box_short in
    let short_moov : HasShortMoov whole millis = subst (λ (w : List Bool). box_len (moov whole chunks w (payload_place whole chunks w)) ≤ most_moov) wide at_place in
    record {
      file = record {
        whole = file;
        exact = subst (λ (b : List ℕ). present b ≡ Some whole) (sym file) (laws.format.exact whole millis formed within short_moov);
        same = subst (λ (b : List ℕ). Presents b whole) (sym file) (laws.format.same whole millis formed within short_moov);
      };
      offsets = placed ∙ ap (λ (p : ℕ). places_from p chunks) there;
      wide = wide;
      least = least;
      whole = omega (arith, paid, text_len, ap length front_is, ap length file, length-append front (payload chunks));
      fits = omega (arith, ending, paid);
      short = unrefused whole millis short_moov;
    }

-- the refusal, or want of memory
pub refused-plans : PlanLaws → (movie : PlacedMovie) (millis : ℕ) (plan : List Chunk) (reaches : List Reach) (narrow head bytes : ℕ) → AreParts movie → plan ≡ planned millis movie → AreCounted movie plan reaches narrow head bytes
    → (fail : Fail) → IsRefused narrow head reaches fail → Plans (Err fail) movie millis
refused-plans laws movie millis plan reaches narrow head bytes parts is counted NoMemory refused = tt
refused-plans laws movie millis plan reaches narrow head bytes parts is counted (Bad bad) refused =
    λ files hold. refused-for laws (stands_for files movie) millis reaches narrow head bytes (numbers-for laws files movie millis plan reaches narrow head bytes parts hold is counted) refused.1 ∙ ap Some (sym refused.0)

-- the chunks of each track, in other words
pub placed-in-words : (files : List (List ℕ)) (tracks : List PlacedTrack) (chunks plan : List Chunk) (places offsets : List ℕ) (wide : List Bool) (placing : ℕ → Placing) → chunks ≡ plan → places ≡ offsets
    → ArePlaced files tracks plan offsets wide placing → ArePlaced files tracks chunks places wide placing
placed-in-words files tracks chunks plan places offsets wide placing same are placed =
    subst (λ (cs : List Chunk). ArePlaced files tracks cs places wide placing) (sym same) (subst (λ (ps : List ℕ). ArePlaced files tracks plan ps wide placing) (sym are) placed)

pub can-in-words : (tracks : List PlacedTrack) (chunks plan : List Chunk) (places offsets : List ℕ) (wide : List Bool) → chunks ≡ plan → places ≡ offsets → CanAllBePlaced tracks plan offsets wide → CanAllBePlaced tracks chunks places wide
can-in-words tracks chunks plan places offsets wide same are can =
    subst (λ (cs : List Chunk). CanAllBePlaced tracks cs places wide) (sym same) (subst (λ (ps : List ℕ). CanAllBePlaced tracks plan ps wide) (sym are) can)
