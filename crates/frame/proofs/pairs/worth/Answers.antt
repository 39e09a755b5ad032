-- `frame::pairs::worth` meets its contract: each arm is a case of the two tests.
use Rattle.std.proofs.Common.{true, false, refl, arith}
use Rattle.frame.proofs.Pass.{worth_is}
use Rattle.frame.proofs.pairs.worth.Goals as goal

pub returns-then-lower : goal.returns-then-lower
returns-then-lower c = worth_is c.args.b true _ (omega arith) c.if-lower.true refl

pub returns-then-b : goal.returns-then-b
returns-then-b c = worth_is c.args.b false true (omega arith) c.if-lower.false c.if-b.true

pub returns : goal.returns
returns c = worth_is c.args.b false false (omega arith) c.if-lower.false c.if-b.false
