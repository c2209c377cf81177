use Rattle.std.proofs.Common.{rules, ◌≡◌, ◌∙◌, ◌++◌, ◌<◌, ◌≤◌, ℕ, Bool, List, codes, nat_lt, length, get_or, ap, sym}
use Rattle.serde_json.specs.Written.{comma_if, compact_text}
use Rattle.mp_movie.specs.StandsFor.{track_for}
use Rattle.mp_dump.specs.Json.{track_value}
use Rattle.mp_dump.proofs.Chains.{behind}
use Rattle.mp_dump.proofs.Commas.{is_later, left, next_item, one}
use Rattle.mp_dump.proofs.Objects.{json_of}
use Rattle.mp_dump.proofs.TracksAreWritten.{all_told, track_told}
use Rattle.mp_dump.proofs.object.timeline_json.Goals as goal

pub loop-track-preserved : goal.loop-track-preserved
loop-track-preserved c =
    let tracks = c.tracks_of-track-items.result.now in
    let index = c.loop-track.track-index in
    let written = c.loop-track.out.items in
    let lt : index < length tracks = search rules in
    let is : get_or tracks index c.track-item.result ≡ c.track-item.result = search rules in
    let comma : c.put_comma.new.out.items ≡ written ++ comma_if (nat_lt 0 index) =
    c.in_ok-put_comma.ensures ∙ ap (λ (later : Bool). written ++ comma_if later) c.loop-track.invariant.comma in
    record {
      comma = sym (is_later index);
      told =
          track_told (left track_value) (one track_value) (next_item track_value) c.args.movie.now tracks index c.track-item.result written c.put_track.new.out.items
          c.extend_from_slice-3.new.self.items lt is
          (λ files held.
          behind written c.put_comma.new.out.items c.put_track.new.out.items (comma_if (nat_lt 0 index)) (compact_text (track_value (track_for files c.track-item.result))) comma
          (c.in_ok-put_track.ensures files held))
          c.loop-track.invariant.told;
    }

pub returns : goal.returns
returns c = λ files held.
    let past : length c.tracks_of-track-items.result.now ≤ c.loop-track.track-index = search rules in
    json_of files c.args.movie.now c.movie_duration.result c.scale.result c.extend_from_slice.new.self.items c.put_number.new.out.items c.extend_from_slice-2.new.self.items c.put_number-2.new.out.items
    c.extend_from_slice-3.new.self.items c.loop-track.out.items c.extend_from_slice-4.new.self.items c.extend_from_slice-5.new.self.items (c.movie_duration.ensures files) c.scale.ensures
    (c.in_ok-extend_from_slice.ensures.items ∙ ap (λ (t : List ℕ). t ++ codes "{\"duration\":") c.new-out.ensures.items)
    c.in_ok-put_number.ensures c.in_ok-extend_from_slice-2.ensures.items c.in_ok-put_number-2.ensures c.in_ok-extend_from_slice-3.ensures.items
    (all_told (left track_value) c.args.movie.now c.tracks_of-track-items.result.now c.loop-track.track-index c.loop-track.out.items c.extend_from_slice-3.new.self.items past
    c.loop-track.invariant.told files held)
    c.in_ok-extend_from_slice-4.ensures.items c.in_ok-extend_from_slice-5.ensures.items
