-- The loop of `report::counting::note`: the accounts below b are those after the call, the others as they were.
use Rattle.std.proofs.Common.{◌≡◌, ℕ, ◌<◌, ◌≤◌, length, get_or, eqb}
use Rattle.lock.specs.State.{processors}
use Rattle.report.specs.Accounts.{absent, seen_by}
use Rattle.report.proofs.counting.note.Given as goal

abbrev pub invariant-loop-b : goal.invariant-loop-b
invariant-loop-b l = record {
  long : length l.accounts ≡ processors;
  stored : (k : ℕ) → k < l.b
      → get_or l.accounts k absent ≡ seen_by (get_or l.fn.accounts k absent) (eqb k l.call.p) l.call.p l.call.did;
  left : (k : ℕ) → l.b ≤ k → get_or l.accounts k absent ≡ get_or l.fn.accounts k absent;
}
