-- Bytes pass the checks exactly where they begin with a whole frame of the stream.
use Rattle.std.proofs.Common.{◌≡◌, ◌<◌, ◌≤◌, ◌==◌, ℕ, Bool, true, false, not, nat_lt, List, [], ◌∷◌, ◌++◌, length, take, Option, Some, None, if◌then◌else◌, refl, ap, sym, ◌∙◌, arith, length-append, length-take, ltb-true, ltb-false, eqb-true, lt-ltb, le-ltb, ne_eqb, inl, inr, lit≤}
use Rattle.std.proofs.lemmas.Bool.{cases_Bool, eqb-false, not-false}
use Rattle.std.proofs.lemmas.Bool.Decides.{nat_tests}
use Rattle.mp_ports.specs.Checks.{bad_at, fault_at, first_some}
use Rattle.mp_ports.specs.declared.code.Code.{Code}
use Rattle.mp_ports.specs.declared.code.Code.TheVariants.{AdtsChange, SampleLimit}
use Rattle.adts_import.specs.declared.header.Configuration.{Configuration}
use Rattle.adts_import.specs.Header.{front_number, protection_absent, sync, layer, profile, frequency_index, channels, frame_len, header_len, more_blocks}
use Rattle.adts_import.specs.Frame.{configuration, header_checks, header_fault, changes, is_cut, IsFrame, most_frames}
use Rattle.adts_import.specs.Stream.{next_fault}
use Rattle.adts_import.proofs.Checks.{AllPass, all_pass, passed}
use Rattle.adts_import.proofs.Fields.{front_number-append, front_number-take}

some_channels : (n : ℕ) → (n == 0) ≡ false → 1 ≤ n
some_channels n e = let some : (n ≡ 0) → ⊥ = eqb-false n 0 e in omega arith

-- these bytes begin with a frame of the stream, which is one more than k
pub record Passes (stream : Configuration) (k : ℕ) (rest : List ℕ) : Type 0 where
  pub frame : IsFrame (take (frame_len rest) rest)
  pub same : configuration (take (frame_len rest) rest) ≡ stream
  pub few : k < most_frames
  pub some : 7 ≤ frame_len rest
  pub inside : frame_len rest ≤ length rest

same_configuration : (stream : Configuration) (rest : List ℕ) → changes stream rest ≡ false → configuration rest ≡ stream
same_configuration stream rest unchanged =
    let p : profile rest ≡ stream.profile = grind (arith, nat_tests) in
    let f : frequency_index rest ≡ stream.frequency_index = grind (arith, nat_tests) in
    let c : channels rest ≡ stream.channels = grind (arith, nat_tests) in
    λ i. record { profile = p i; frequency_index = f i; channels = c i }

unchanged_configuration : (stream : Configuration) (rest : List ℕ) → configuration rest ≡ stream → changes stream rest ≡ false
unchanged_configuration stream rest same =
    let p : profile rest ≡ stream.profile = ap (λ c. c.profile) same in
    let f : frequency_index rest ≡ stream.frequency_index = ap (λ c. c.frequency_index) same in
    let c : channels rest ≡ stream.channels = ap (λ c. c.channels) same in
    grind (arith, nat_tests)

-- what the checks say of a header
record Has (rest : List ℕ) : Type 0 where
  syncword : sync rest ≡ 0xFFF
  no_layer : layer rest ≡ 0
  has_frequency : frequency_index rest ≤ 12
  has_channels : 1 ≤ channels rest
  some : 7 ≤ frame_len rest
  payload : header_len rest ≤ frame_len rest
  inside : frame_len rest ≤ length rest
  one_block : more_blocks rest ≡ 0

pub seven : (rest : List ℕ) → 7 ≤ header_len rest
seven rest = elim (cases_Bool (protection_absent rest == 0)) [ inl e ↦ rw e (lit≤ tt) | inr e ↦ rw e (lit≤ tt) ]

has_header : (rest : List ℕ) → AllPass (header_checks rest (length rest)) → Has rest
has_header rest checks =
    let uncut : is_cut rest (length rest) ≡ false = checks.1.1.1.1.1.0 in
    let payload : header_len rest ≤ frame_len rest = grind (arith, nat_tests) in
    let inside : frame_len rest ≤ length rest = grind (arith, nat_tests) in
    record {
      syncword = eqb-true (sync rest) 0xFFF (not-false (sync rest == 0xFFF) checks.1.0);
      no_layer = eqb-true (layer rest) 0 (not-false (layer rest == 0) checks.1.1.0);
      has_frequency = ltb-false 12 (frequency_index rest) checks.1.1.1.0;
      has_channels = some_channels (channels rest) checks.1.1.1.1.0;
      some = omega (arith, seven rest, payload);
      payload = payload;
      inside = inside;
      one_block = eqb-true (more_blocks rest) 0 (not-false (more_blocks rest == 0) checks.1.1.1.1.1.1.0);
    }

front_frame : (rest : List ℕ) → Has rest → IsFrame (take (frame_len rest) rest)
front_frame rest has =
    let n = frame_len rest in
    let same : front_number (take n rest) ≡ front_number rest = front_number-take n rest has.some in
    let len : length (take n rest) ≡ n = omega (arith, length-take n rest, has.inside) in
    record {
      syncword = rw same has.syncword;
      no_layer = rw same has.no_layer;
      has_frequency = rw same has.has_frequency;
      has_channels = rw same has.has_channels;
      len = rw same (sym len);
      whole_header = rw (same, len) has.payload;
      one_block = rw same has.one_block;
    }

front_configuration : (rest : List ℕ) → Has rest → configuration (take (frame_len rest) rest) ≡ configuration rest
front_configuration rest has = rw (front_number-take (frame_len rest) rest has.some) refl

-- none of the three checks of a frame behind others fails
record NoFault (own : Option Code) (change few : Bool) : Type 0 where
  own_passes : own ≡ None
  unchanged : change ≡ false
  few_enough : few ≡ true

no_fault : (place : ℕ) (own : Option Code) (change few : Bool)
    → first_some (fault_at place own ∷ (if change then Some (bad_at AdtsChange place) else None) ∷ (if few then None else Some (bad_at SampleLimit 0)) ∷ []) ≡ None
    → NoFault own change few
no_fault place (Some code) change few none = cc
no_fault place None true few none = cc
no_fault place None false false none = cc
no_fault place None false true none = record { own_passes = refl; unchanged = refl; few_enough = refl }

-- what has no fault begins with a frame
pub passes : (stream : Configuration) (k place : ℕ) (rest : List ℕ) → next_fault stream k place rest (length rest) ≡ None → Passes stream k rest
unfolding next_fault header_fault
passes stream k place rest none =
    let passed_all = no_fault place (header_fault rest (length rest)) (changes stream rest) (nat_lt k most_frames) none in
    let header = has_header rest (passed (header_checks rest (length rest)) passed_all.own_passes) in
    record {
      frame = front_frame rest header;
      same = front_configuration rest header ∙ same_configuration stream rest passed_all.unchanged;
      few = ltb-true k most_frames passed_all.few_enough;
      some = header.some;
      inside = header.inside;
    }

-- a whole frame in front, of the stream's configuration, has no fault
pub front_passes : (stream : Configuration) (k place : ℕ) (frame after : List ℕ) → IsFrame frame → configuration frame ≡ stream → k < most_frames
    → next_fault stream k place (frame ++ after) (length (frame ++ after)) ≡ None
unfolding next_fault header_fault
front_passes stream k place frame after is_frame same few =
    let whole_len = length (frame ++ after) in
    let long : 7 ≤ length frame = omega (arith, seven frame, is_frame.whole_header) in
    let same_front : front_number (frame ++ after) ≡ front_number frame = front_number-append frame after long in
    let longer : 7 ≤ whole_len = omega (arith, length-append frame after) in
    let whole : nat_lt (frame_len frame) (header_len frame) ≡ false = le-ltb (frame_len frame) (header_len frame) (omega (arith, is_frame.len, is_frame.whole_header)) in
    let inside : nat_lt whole_len (frame_len frame) ≡ false = le-ltb whole_len (frame_len frame) (omega (arith, is_frame.len, length-append frame after)) in
    let long_enough : nat_lt whole_len 7 ≡ false = le-ltb whole_len 7 longer in
    let synced : not (sync (frame ++ after) == 0xFFF) ≡ false = rw (same_front, is_frame.syncword) refl in
    let no_layer : not (layer (frame ++ after) == 0) ≡ false = rw (same_front, is_frame.no_layer) refl in
    let frequency : nat_lt 12 (frequency_index (frame ++ after)) ≡ false = rw same_front (le-ltb 12 (frequency_index frame) is_frame.has_frequency) in
    let some_channels : (channels (frame ++ after) == 0) ≡ false = rw same_front (ne_eqb (channels frame) 0 (λ e. omega (arith, is_frame.has_channels))) in
    let uncut : is_cut (frame ++ after) whole_len ≡ false = rw (same_front, whole, inside) refl in
    let one_block : not (more_blocks (frame ++ after) == 0) ≡ false = rw (same_front, is_frame.one_block) refl in
    let checks : AllPass (header_checks (frame ++ after) whole_len) = (long_enough, (synced, (no_layer, (frequency, (some_channels, (uncut, (one_block, tt))))))) in
    let own : header_fault (frame ++ after) whole_len ≡ None = all_pass (header_checks (frame ++ after) whole_len) checks in
    let kept : configuration (frame ++ after) ≡ configuration frame = rw same_front refl in
    let unchanged : changes stream (frame ++ after) ≡ false = unchanged_configuration stream (frame ++ after) (kept ∙ same) in
    let limit : nat_lt k most_frames ≡ true = lt-ltb k most_frames few in
    rw (own, unchanged, limit) refl
