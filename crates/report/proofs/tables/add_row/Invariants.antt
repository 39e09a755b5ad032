-- The loop of `report::tables::add_row`: the cells below i are the sums, the others those of the first row.
use Rattle.std.proofs.Common.{◌≡◌, ℕ, ◌<◌, ◌≤◌, length, get_or}
use Rattle.lock.specs.State.{processors}
use Rattle.report.proofs.Adding.{sum}
use Rattle.report.proofs.tables.add_row.Given as goal

abbrev pub invariant-loop-i : goal.invariant-loop-i
invariant-loop-i l = record {
  long : length l.t ≡ processors;
  stored : (k : ℕ) → k < l.i → get_or l.t k 0 ≡ sum l.fn.t l.m k;
  left : (k : ℕ) → l.i ≤ k → get_or l.t k 0 ≡ get_or l.fn.t k 0;
}
