use Rattle.std.proofs.Common.{ℕ, ap, length, arith}
use Rattle.mp_entries.specs.Descriptor.{length_bytes}
use Rattle.mp_entries.proofs.Lengths.{length-descriptor}
use Rattle.mp_entries.proofs.descriptor.descriptor_len.Goals as goal

pub returns-clause-len : goal.returns-clause-len
returns-clause-len c = λ tag body e. omega (arith, length-descriptor tag body, ap (λ (n : ℕ). length (length_bytes n)) e, c.length_len.ensures.len)
