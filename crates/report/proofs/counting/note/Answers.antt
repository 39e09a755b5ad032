-- `report::counting::note` meets its contract: the accounts that the loop has stored are those of the definition.
use Rattle.std.proofs.Common.{arith}
use Rattle.lock.specs.State.{processors}
use Rattle.report.specs.Accounts.{absent, noted_by}
use Rattle.report.proofs.Upto.{upto_all}
use Rattle.report.proofs.counting.note.Goals as goal

pub returns : goal.returns
unfolding noted_by
returns c = upto_all _ processors _ absent c.loop-b.invariant.long (λ i l. c.loop-b.invariant.stored i (omega arith))
