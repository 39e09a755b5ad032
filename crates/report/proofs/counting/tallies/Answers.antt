-- `report::counting::tallies` meets its contract: each tally as the closure gives it.
use Rattle.std.proofs.Common.{rules}
use Rattle.lock.specs.State.{processors}
use Rattle.report.specs.Accounts.{tallies_by}
use Rattle.report.proofs.Made.{made}
use Rattle.report.proofs.counting.tallies.Goals as goal

pub returns : goal.returns
unfolding tallies_by
returns c = made _ _ _ _ processors (λ p y q l call. search rules) c.from_fn.ensures.items
