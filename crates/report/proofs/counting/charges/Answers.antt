-- `report::counting::charges` meets its contract: the rows that the loop has stored are those of the definition.
use Rattle.std.proofs.Common.{[], arith}
use Rattle.lock.specs.State.{processors}
use Rattle.report.specs.Accounts.{charges_by}
use Rattle.report.proofs.Upto.{upto_all}
use Rattle.report.proofs.counting.charges.Goals as goal

pub returns : goal.returns
unfolding charges_by
returns c = upto_all _ processors _ [] c.loop-a.invariant.long (λ i l. c.loop-a.invariant.stored i (omega arith))
