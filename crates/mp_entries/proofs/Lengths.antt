-- How long descriptors and their bodies are.
use Rattle.std.proofs.Common.{◌≡◌, ℕ, ◌+◌, ◌<◌, false, List, [], ◌∷◌, ◌++◌, length, refl, ap, arith}
use Rattle.std.proofs.lemmas.List.{length-append}
use Rattle.std.specs.Prelude.{◌==◌}
use Rattle.mp_boxes.specs.Field.{body_bytes, version_and_flags}
use Rattle.mp_boxes.specs.Table.{box_len}
use Rattle.mp_entries.specs.Descriptor.{length_bytes, descriptor, decoder_tag, specific_tag, stream_tag, sync_tag}
use Rattle.mp_entries.specs.Esds.{EsdsRecord, specific_info, decoder_fields, decoder_body, stream_body, esds}

pub length-descriptor : (tag : ℕ) (body : List ℕ) → length (descriptor tag body) ≡ 1 + length (length_bytes (length body)) + length body
unfolding descriptor
length-descriptor tag body = omega (arith, length-append (length_bytes (length body)) body)

pub specific_info-some : (info : List ℕ) → 0 < length info → specific_info info ≡ descriptor specific_tag info
specific_info-some [] some = absurd (omega arith)
specific_info-some (byte ∷ bytes) some = refl

-- the descriptor of the synchronization layer
pub sync_layer : descriptor sync_tag (2 ∷ []) ≡ 6 ∷ 1 ∷ 2 ∷ []
unfolding descriptor length_bytes
sync_layer = refl

pub length-decoder_body : (e : EsdsRecord) → length (decoder_body e) ≡ 13 + length (specific_info e.info)
unfolding decoder_body
length-decoder_body e = omega (arith, length-append (body_bytes (decoder_fields e)) (specific_info e.info))

pub length-stream_body : (e : EsdsRecord) → length (stream_body e) ≡ 3 + length (descriptor decoder_tag (decoder_body e)) + 3
unfolding stream_body
length-stream_body e =
    omega (arith, ap length sync_layer, length-append (0 ∷ 0 ∷ 0 ∷ [] ++ descriptor decoder_tag (decoder_body e)) (descriptor sync_tag (2 ∷ [])), length-append (0 ∷ 0 ∷ 0 ∷ []) (descriptor decoder_tag (decoder_body e)))

pub some_bytes : (info : List ℕ) → false ≡ (length info == 0) → 0 < length info
some_bytes [] e = absurd cc
some_bytes (byte ∷ bytes) e = omega arith

pub esds-len : (e : EsdsRecord) → box_len (esds e) ≡ 12 + length (descriptor stream_tag (stream_body e))
esds-len e = omega (arith, length-append (body_bytes (version_and_flags false 0 ∷ [])) (descriptor stream_tag (stream_body e)))
