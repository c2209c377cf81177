use Rattle.std.proofs.Common.{ap, ◌∙◌}
use Rattle.std.specs.Int.{w32, to_be_bytes}
use Rattle.mp_entries.specs.Esds.{EsdsRecord, stream_byte}
use Rattle.mp_entries.proofs.Pieces.{decoder_fields-bytes, decoder_pieces}
use Rattle.mp_entries.proofs.put.push_decoder.Goals as goal

pub returns : goal.returns
returns c = λ rest all p.
    let info = c.deref.ensures.value ∙ ap (λ (e : EsdsRecord). e.info) c.entry.view_is in
    let view = c.entry.view_is in
    let fields =
    decoder_fields-bytes c.args.entry.now c.entry.inside.object c.stream_byte.result c.entry.inside.maximal c.entry.inside.average c.to_be_bytes-buffer.result (ap (λ (e : EsdsRecord). e.object) view)
    (c.stream_byte.ensures ∙ ap (λ (e : EsdsRecord). stream_byte e.audio) view) (c.to_be_bytes-buffer.ensures ∙ ap (λ (e : EsdsRecord). to_be_bytes w32 e.buffer) view)
    (ap (λ (e : EsdsRecord). e.maximal) view) (ap (λ (e : EsdsRecord). e.average) view) in
    let left = c.pieces_may_be_cut.ensures c.args.out.now _ _ all (decoder_pieces c.args.entry.now c.decoder_len.result _ c.deref.result.now rest c.decoder_len.ensures.len fields info) p in
    c.push_specific.ensures rest all (c.push_fields.ensures _ all (c.push_head.ensures _ all left))
