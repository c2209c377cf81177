use Rattle.std.proofs.Common.{refl}
use Rattle.mp_interleave.specs.Order.{chunk_order, track_keys}
use Rattle.mp_interleave.proofs.law.chunks_by_hand_are_planned.Goals as goal

pub returns-clause-half : goal.returns-clause-half
unfolding chunk_order track_keys
returns-clause-half c = refl

pub returns-clause-one : goal.returns-clause-one
unfolding chunk_order track_keys
returns-clause-one c = refl

pub returns-clause-greatest : goal.returns-clause-greatest
unfolding chunk_order track_keys
returns-clause-greatest c = refl

pub returns-clause-borders : goal.returns-clause-borders
unfolding chunk_order track_keys
returns-clause-borders c = refl

pub returns-clause-whole : goal.returns-clause-whole
unfolding chunk_order track_keys
returns-clause-whole c = refl

pub returns-clause-fine : goal.returns-clause-fine
unfolding chunk_order track_keys
returns-clause-fine c = refl

pub returns-clause-last : goal.returns-clause-last
returns-clause-last c = refl
