-- The loop of `report::counting::charges`: the rows below a are those of the charges.
use Rattle.std.proofs.Common.{◌≡◌, ℕ, ◌<◌, [], length, get_or}
use Rattle.lock.specs.State.{processors}
use Rattle.report.specs.Accounts.{charges_row}
use Rattle.report.proofs.counting.charges.Given as goal

abbrev pub invariant-loop-a : goal.invariant-loop-a
invariant-loop-a l = record {
  long : length l.row-items ≡ processors;
  stored : (k : ℕ) → k < l.a → get_or l.row-items k [] ≡ charges_row l.accounts k;
}
