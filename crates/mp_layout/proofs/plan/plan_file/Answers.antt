use Rattle.std.proofs.Common.{arith, ◌≡◌, ◌+◌, List, length, map, ap, refl, sym, subst, ◌∙◌}
use Rattle.std.specs.List.{sum_by}
use Rattle.std.proofs.lemmas.List.{length-map}
use Rattle.std.proofs.lemmas.Result.{err_from_is_err_and}
use Rattle.mp_boxes.specs.Table.{capped}
use Rattle.mp_layout.specs.declared.wide.Reach.{Reach}
use Rattle.mp_layout.specs.Chunked.{AreReaches, places_behind}
use Rattle.mp_layout.proofs.NumbersOfMovies.{AreCounted, PlanLaws, behind-in-words, few-chunks, places-count, reaches-in-words}
use Rattle.mp_layout.proofs.FieldsAreWide.{can-all-be-placed, short-reaches}
use Rattle.mp_layout.proofs.FilesArePlanned.{can-in-words, placed-in-words, planned-for, refused-plans}
use Rattle.mp_layout.proofs.plan.plan_file.Goals as goal
use Rattle.mp_layout.proofs.plan.plan_file.Goals.{After-deref-5, After-deref-8}

laws : (c : After-deref-5) → PlanLaws
laws c = record {
  format = c.file_presents_movie.ensures;
  boxes = c.boxes_have_lengths.ensures;
  places = c.places_change_no_length.ensures;
  columns = c.columns_are_kept.ensures;
  stand = c.parts_stand_for_movies.ensures;
  order = c.samples_stand_in_chunks.ensures;
  plans = c.plans_stand_for_chunks.ensures;
}

-- the numbers that were counted are those of the movie
counted : (c : After-deref-5) → AreCounted c.args.movie.now c.args.plan c.deref-5.result.now c.moov_len-narrow.result c.mdat_head_len-head.result c.payload-payload.result
counted c =
    let places = c.deref-3.ensures.value ∙ (c.in_ok-behind.ensures ∙ ap (places_behind c.tracks-tracks.result.now 0) (c.deref.ensures.value ∙ sym c.deref-2.ensures.value)) in
    let reaches = reaches-in-words c.scale.result c.args.movie.now.scale c.tracks-tracks.result.now c.args.movie.now.tracks c.deref-2.result.now c.args.plan c.deref-3.result.now _
    c.scale.ensures c.tracks-tracks.ensures.tracks (c.deref-2.ensures.value ∙ c.plan.view_is) places c.in_ok-reaches.ensures in
    record {
      reaches_are = subst (AreReaches c.args.movie.now.scale c.args.movie.now.tracks c.args.plan (places_behind c.args.movie.now.tracks 0 c.args.plan) (length c.args.movie.now.tracks)) (sym c.deref-5.ensures.value) reaches;
      narrow_is = λ files parts e. c.moov_len-narrow.ensures files parts (c.traks_len.ensures ∙ (ap (λ (rs : List Reach). capped (sum_by (λ reach. reach.trak) rs)) (c.deref-4.ensures.value ∙ sym c.deref-5.ensures.value) ∙ e));
      bytes_are = c.payload-payload.ensures.bytes;
      short = c.payload-payload.ensures.short;
      head_is = c.mdat_head_len-head.ensures.len;
      small = c.mdat_head_len-head.ensures.small;
    }

-- the places of the chunks in the file
offsets : (c : After-deref-8) → c.deref-8.result.now ≡ map (λ behind. capped (c.ftyp_len.result + c.in_ok-layout.layout.moov + c.mdat_head_len-head.result + behind)) (places_behind c.args.movie.now.tracks 0 c.args.plan)
offsets c =
    let place = c.ftyp_len.result + c.in_ok-layout.layout.moov + c.mdat_head_len-head.result in
    c.deref-8.ensures.value ∙ (c.in_ok-offsets.ensures ∙ ap (map (λ b. capped (place + b))) (c.deref-6.ensures.value ∙ behind-in-words _ _ _ _ _ c.tracks-tracks.ensures.tracks (c.deref.ensures.value ∙ c.plan.view_is) c.in_ok-behind.ensures))

pub track_reaches-requires-clause-places : goal.track_reaches-requires-clause-places
track_reaches-requires-clause-places c =
    ap length (c.deref-3.ensures.value ∙ c.in_ok-behind.ensures) ∙ (places-count c.tracks-tracks.result.now 0 c.deref.result.now ∙ ap length (c.deref.ensures.value ∙ sym c.deref-2.ensures.value))

pub least_layout-requires-clause-short : goal.least_layout-requires-clause-short
least_layout-requires-clause-short c =
    let few = few-chunks c.plans_stand_for_chunks.ensures c.args.movie.now c.args.plan c.args.plan c.requires.order refl (omega (arith, c.samples-samples.ensures.count, c.samples-samples.ensures.most)) in
    short-reaches _ _ _ _ c.deref-5.result.now (counted (goal.at.least_layout-requires-clause-short c).After-deref-5).reaches_are few

pub returns-in_err-layout : goal.returns-in_err-layout
returns-in_err-layout c = λ millis is.
    let it = (goal.at.returns-in_err-layout c).After-deref-5 in
    let p = err_from_is_err_and c.from_residual-in_err-layout.result c.from_residual-in_err-layout.ensures.1 in
    rw (p.1, p.2) (refused-plans (laws it) c.args.movie.now millis c.args.plan c.deref-5.result.now c.moov_len-narrow.result c.mdat_head_len-head.result c.payload-payload.result c.tracks-tracks.ensures.whole is (counted it) _ c.in_err-layout.ensures.refused)

pub push_front-requires-clause-places : goal.push_front-requires-clause-places
push_front-requires-clause-places c =
    let it = (goal.at.push_front-requires-clause-places c).After-deref-8 in
    ap length (offsets it) ∙ (length-map (places_behind c.args.movie.now.tracks 0 c.args.plan) _ ∙ (places-count c.args.movie.now.tracks 0 c.args.plan ∙ ap length (sym (c.deref-7.ensures.value ∙ c.plan.view_is))))

pub push_front-requires-clause-placed : goal.push_front-requires-clause-placed
push_front-requires-clause-placed c =
    let here = goal.at.push_front-requires-clause-placed c in
    let laid = c.in_ok-layout.ensures.laid in
    let few = few-chunks c.plans_stand_for_chunks.ensures c.args.movie.now c.args.plan c.args.plan c.requires.order refl (omega (arith, c.samples-samples.ensures.count, c.samples-samples.ensures.most)) in
    let moov = laid.moov in
    can-in-words c.args.movie.now.tracks _ c.args.plan _ _ _ (c.deref-7.ensures.value ∙ c.plan.view_is) (offsets here.After-deref-8)
    (can-all-be-placed _ _ _ _ c.deref-5.result.now _ _ _ (counted here.After-deref-5).reaches_are few laid.least (omega (arith, c.ftyp_len.ensures, moov)))

pub returns : goal.returns
returns c = λ millis is.
    let here = goal.at.returns c in
    let place = c.ftyp_len.result + c.in_ok-layout.layout.moov + c.mdat_head_len-head.result in
    record {
      order = is;
      each = λ files hold. planned-for (laws here.After-deref-5) files c.args.movie.now millis c.args.plan c.deref-5.result.now c.moov_len-narrow.result c.mdat_head_len-head.result c.payload-payload.result
          c.tracks-tracks.ensures.whole c.tracks-tracks.ensures.fits hold is (counted here.After-deref-5) c.in_ok-layout.layout c.in_ok-layout.ensures.laid place (omega (arith, c.ftyp_len.ensures))
          c.in_ok-front.front.items c.in_ok-offsets.offsets.items (sym c.deref-8.ensures.value ∙ offsets here.After-deref-8)
          (λ placing placed has long. c.in_ok-front.ensures.bytes files placing (placed-in-words files c.args.movie.now.tracks _ c.args.plan _ _ _ placing (c.deref-7.ensures.value ∙ c.plan.view_is) c.deref-8.ensures.value placed) has long);
    }
