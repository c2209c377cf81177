-- Pieces that are left to be pushed are cut finer.
use Rattle.std.proofs.Common.{◌≡◌, ℕ, ◌^◌, ◌%◌, ◌<◌, List, [], ◌∷◌, ◌++◌, length, take, drop, refl, sym, ap, ◌∙◌, append_assoc, false}
use Rattle.std.specs.Int.{w32, to_be_bytes}
use Rattle.std.specs.declared.alloc.Global.{Global}
use Rattle.std.specs.declared.vec.Vec.{Vec}
use Rattle.std.proofs.lemmas.List.{append-nil}
use Rattle.mp_boxes.specs.declared.field.Field.{Field}
use Rattle.mp_boxes.specs.declared.field.Field.TheVariants.{U16, U32}
use Rattle.mp_boxes.specs.Field.{Part, body_bytes, box_bytes, boxes_bytes, leaf, raw, version_and_flags, zeros}
use Rattle.mp_boxes.specs.Push.{IsPushing, joined}
use Rattle.mp_boxes.specs.Table.{mixed, with_rows}
use Rattle.mp_entries.specs.Descriptor.{descriptor, descriptor_head, decoder_tag, group, length_bytes, specific_tag, stream_tag}
use Rattle.mp_entries.specs.Esds.{EsdsRecord, decoder_body, decoder_fields, esds, sample_rate, sound_fields, specific_info, stream_body, stream_byte}
use Rattle.mp_entries.proofs.Lengths.{specific_info-some, sync_layer}

-- where nothing is left the whole is pushed
pub all_pushed : (now : Vec ℕ Global) (all : List ℕ) → IsPushing now [] all → now.items ≡ all
all_pushed now all p = sym (append-nil now.items) ∙ p.items

-- the head of a descriptor
pub head_pieces : (tag len : ℕ) (rest : List (List ℕ)) → joined (descriptor_head tag len ∷ rest) ≡ joined ((tag ∷ []) ∷ group (2 ^ 21) len ∷ group (2 ^ 14) len ∷ group (2 ^ 7) len ∷ ((len % 128) ∷ []) ∷ rest)
unfolding length_bytes
head_pieces tag len rest = ap (λ (text : List ℕ). tag ∷ text) (four (group (2 ^ 21) len) (group (2 ^ 14) len) (group (2 ^ 7) len) ((len % 128) ∷ []) (joined rest))
  where
    four : (a b c d e : List ℕ) → (a ++ b ++ c ++ d) ++ e ≡ a ++ (b ++ (c ++ (d ++ e)))
    four a b c d e = append_assoc (a ++ b ++ c) d e ∙ (append_assoc (a ++ b) c (d ++ e) ∙ append_assoc a b (c ++ (d ++ e)))

pub specific_pieces : (info : List ℕ) (rest : List (List ℕ)) → 0 < length info → joined (specific_info info ∷ rest) ≡ joined (descriptor_head specific_tag (length info) ∷ info ∷ rest)
unfolding descriptor
specific_pieces info rest some = rw (specific_info-some info some) (append_assoc (descriptor_head specific_tag (length info)) info (joined rest))

pub decoder_fields-bytes : (e : EsdsRecord) (object stream maximal average : ℕ) (buffer : List ℕ) → object ≡ e.object → stream ≡ stream_byte e.audio → buffer ≡ to_be_bytes w32 e.buffer → maximal ≡ e.maximal → average ≡ e.average
    → (object ∷ stream ∷ []) ++ (take 3 (drop 1 buffer) ++ (to_be_bytes w32 maximal ++ to_be_bytes w32 average)) ≡ body_bytes (decoder_fields e)
decoder_fields-bytes e object stream maximal average buffer o s b m a = rw (o, s, b, m, a) refl

pub decoder_pieces : (e : EsdsRecord) (len : ℕ) (fields info : List ℕ) (rest : List (List ℕ)) → len ≡ length (decoder_body e) → fields ≡ body_bytes (decoder_fields e) → info ≡ e.info
    → joined (descriptor decoder_tag (decoder_body e) ∷ rest) ≡ joined (descriptor_head decoder_tag len ∷ fields ∷ specific_info info ∷ rest)
unfolding descriptor decoder_body
decoder_pieces e len fields info rest l f i =
    let front = body_bytes (decoder_fields e) in
    let behind = specific_info e.info in
    rw (l, f, i) (append_assoc (descriptor_head decoder_tag (length (front ++ behind))) (front ++ behind) (joined rest) ∙ ap (λ (text : List ℕ). descriptor_head decoder_tag (length (front ++ behind)) ++ text) (append_assoc front behind (joined rest)))

descriptor_pieces : (tag : ℕ) (body behind : List ℕ) → descriptor tag body ++ behind ≡ descriptor_head tag (length body) ++ (body ++ behind)
unfolding descriptor
descriptor_pieces tag body behind = append_assoc (descriptor_head tag (length body)) body behind

pub stream_pieces : (e : EsdsRecord) (len : ℕ) (rest : List (List ℕ)) → len ≡ length (stream_body e)
    → joined (descriptor stream_tag (stream_body e) ∷ rest) ≡ joined (descriptor_head stream_tag len ∷ (0 ∷ 0 ∷ 0 ∷ []) ∷ descriptor decoder_tag (decoder_body e) ∷ (6 ∷ 1 ∷ 2 ∷ []) ∷ rest)
unfolding stream_body
stream_pieces e len rest l =
    let decoder = descriptor decoder_tag (decoder_body e) in
    let front : List ℕ = 0 ∷ 0 ∷ 0 ∷ [] in
    rw (l, sync_layer) (descriptor_pieces stream_tag (front ++ decoder ++ (6 ∷ 1 ∷ 2 ∷ [])) (joined rest) ∙ ap (λ (text : List ℕ). descriptor_head stream_tag (length (front ++ decoder ++ (6 ∷ 1 ∷ 2 ∷ []))) ++ text) (append_assoc (front ++ decoder) (6 ∷ 1 ∷ 2 ∷ []) (joined rest) ∙ append_assoc front decoder ((6 ∷ 1 ∷ 2 ∷ []) ++ joined rest)))

-- the box of the stream's descriptor as fields
abbrev pub esds_row : EsdsRecord → List (List Field)
esds_row e = (raw (descriptor stream_tag (stream_body e)) ∷ []) ∷ []

pub esds_is : (e : EsdsRecord) → leaf (esds e).kind (with_rows (version_and_flags false 0 ∷ []) (esds_row e)) ≡ esds e
esds_is e = rw (append-nil (descriptor stream_tag (stream_body e))) refl

-- a box whose fields are the same bytes
pub same_front : (kind : List ℕ) (some other : List Field) (part : Part) → body_bytes some ≡ body_bytes other → box_bytes (mixed kind some (part ∷ [])) ≡ box_bytes (mixed kind other (part ∷ []))
same_front kind some other part e = ap (λ (front : List ℕ). box_bytes (record { kind = kind; body = front ++ boxes_bytes (part ∷ []) })) e

-- the fields of sound, by the two that it says
abbrev pub fields_of_sound : ℕ → ℕ → List Field
fields_of_sound channels rate = zeros 6 ∷ U16 1 ∷ zeros 8 ∷ U16 channels ∷ U16 16 ∷ U32 0 ∷ U32 rate ∷ []

pub sound_bytes : (e : EsdsRecord) (channels rate : ℕ) → channels ≡ e.channels → rate ≡ sample_rate e.rate → body_bytes (fields_of_sound channels rate) ≡ body_bytes (sound_fields e)
sound_bytes e channels rate c r = rw (c, r) refl
