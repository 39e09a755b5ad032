-- `report::counting::charges_row` meets its contract: each cell as the closure gives it.
use Rattle.std.proofs.Common.{rules}
use Rattle.lock.specs.State.{processors}
use Rattle.report.specs.Accounts.{charges_row}
use Rattle.report.proofs.Made.{made}
use Rattle.report.proofs.counting.charges_row.Goals as goal

pub returns : goal.returns
unfolding charges_row
returns c = made _ _ _ _ processors (λ b y q l call. search rules) c.from_fn.ensures.items
