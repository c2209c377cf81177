use Rattle.std.proofs.Common.{arith}
use Rattle.avc_units.proofs.Scanning.{three_on, one_on, none_on}
use Rattle.avc_units.proofs.search.plain_at.Goals as goal

pub returns-then-piece-at-gt1-clause-further : goal.returns-then-piece-at-gt1-clause-further
returns-then-piece-at-gt1-clause-further c = (omega arith, omega arith, λ rest. three_on c.args.piece.now rest c.args.at c.requires c.if-piece-at-gt1.true)

pub returns-then-piece-at-ne0-clause-further : goal.returns-then-piece-at-ne0-clause-further
returns-then-piece-at-ne0-clause-further c = (omega arith, omega arith, λ rest. one_on c.args.piece.now rest c.args.at c.requires (λ a b. c.if-piece-at-ne0.true a))

pub returns-then-piece-at-ne0-2-clause-further : goal.returns-then-piece-at-ne0-2-clause-further
returns-then-piece-at-ne0-2-clause-further c = (omega arith, omega arith, λ rest. one_on c.args.piece.now rest c.args.at c.requires (λ a b. c.if-piece-at-ne0-2.true b))

pub returns-clause-end : goal.returns-clause-end
returns-clause-end c = λ e rest. none_on c.args.piece.now rest c.args.at c.requires (omega arith) (omega arith) (omega arith)
