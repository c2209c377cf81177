-- The heads of a source that says nothing of them are in their ranges.
use Rattle.std.proofs.Common.{◌≡◌, ◌≢◌, ◌^◌, ◌<◌, ℕ, zero, suc, Bool, true, false, refl, nat_lt, ◌&&◌, List, [], ◌∷◌, length, get_or, ap, sym, arith, ltb-true, lit<}
use Rattle.std.specs.Prelude.{codes, if◌then◌else◌}
use Rattle.std.specs.List.{list_all}
use Rattle.mp_boxes.specs.Boxes.{IsBytes}
use Rattle.mp_timeline.specs.Plain.{unit_matrix, plain_movie_head, plain_track_head}
use Rattle.mp_movie.specs.HeadRanges.{IsMovieHead, IsTrackHead}

both : (test others : Bool) → (test && others) ≡ true → (test ≡ true) × (others ≡ true)
both true others all = (refl, all)
both false others all = cc

-- a test of each byte of a list that is written out
tested : (bytes : List ℕ) → list_all (λ byte. nat_lt byte 256) bytes ≡ true → IsBytes bytes
tested [] each at = lit< tt
tested (byte ∷ bytes) each zero = ltb-true byte 256 (both _ _ each).0
tested (byte ∷ bytes) each (suc at) = tested bytes (both _ _ each).1 at

pub movie_head_fits : IsMovieHead plain_movie_head
movie_head_fits = record {
  created = lit< tt;
  modified = lit< tt;
  rate = lit< tt;
  volume = lit< tt;
  matrix_len = refl;
  matrix = tested unit_matrix refl;
  udta = refl;
}

small_volume : (is_sound : Bool) → (if is_sound then 0x100 else 0) < 2 ^ 16
small_volume true = lit< tt
small_volume false = lit< tt

pub track_head_fits : (handler : List ℕ) → length handler ≡ 4 → IsBytes handler → handler ≢ codes "hint" → IsTrackHead (plain_track_head handler)
track_head_fits handler four bytes not_hint = record {
  flags = lit< tt;
  created = lit< tt;
  modified = lit< tt;
  layer = lit< tt;
  group = lit< tt;
  volume = small_volume _;
  matrix_len = refl;
  matrix = tested unit_matrix refl;
  width = lit< tt;
  height = lit< tt;
  media_created = lit< tt;
  media_modified = lit< tt;
  language = lit< tt;
  handler_len = four;
  handler = bytes;
  not_hint = not_hint;
  name_len = lit< tt;
  name = tested (0 ∷ []) refl;
  udta = refl;
}

first_byte : (kind other : List ℕ) → kind ≡ other → get_or kind 0 0 ≡ get_or other 0 0
first_byte kind other e = ap (λ (b : List ℕ). get_or b 0 0) e

differ : (a b : ℕ) → a ≡ b → a < b → ⊥
differ a b e lt = omega (arith, e, lt)

sound_is_no_hint : codes "soun" ≡ codes "hint" → ⊥
sound_is_no_hint e = differ 104 115 (sym (first_byte (codes "soun") (codes "hint") e)) (lit< tt)

pub sound_head_fits : IsTrackHead (plain_track_head (codes "soun"))
sound_head_fits = track_head_fits (codes "soun") refl (tested (codes "soun") refl) sound_is_no_hint
