use Rattle.mp_chunks.proofs.FaultsInOrder.{are_read}
use Rattle.mp_chunks.proofs.places.read_limits.Goals as goal

pub returns-clause-read : goal.returns-clause-read
returns-clause-read c =
    are_read c.args.tables.now c.args.entries c.args.file_size c.in_ok-runs.runs c.in_ok-chunks.chunks c.in_ok-samples.samples _ _ _ c.requires.within c.body-stsc.ensures c.body-offsets.ensures c.offset_len.ensures c.in_ok-runs.ensures.answer
    c.in_ok-runs.ensures.whole c.in_ok-chunks.ensures.answer c.in_ok-chunks.ensures.whole c.in_ok-samples.ensures c.requires.counted
