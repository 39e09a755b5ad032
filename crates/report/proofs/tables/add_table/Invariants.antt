-- The loop of `report::tables::add_table`: the rows below a are the sums, the others as they were.
use Rattle.std.proofs.Common.{◌≡◌, ℕ, ◌<◌, ◌≤◌, [], length, get_or}
use Rattle.lock.specs.State.{processors}
use Rattle.report.proofs.Adding.{rows_sum}
use Rattle.report.proofs.tables.add_table.Given as goal

abbrev pub invariant-loop-a : goal.invariant-loop-a
invariant-loop-a l = record {
  long : length l.t ≡ processors;
  stored : (k : ℕ) → k < l.a → get_or l.t k [] ≡ rows_sum l.fn.t l.m k;
  left : (k : ℕ) → l.a ≤ k → get_or l.t k [] ≡ get_or l.fn.t k [];
}
