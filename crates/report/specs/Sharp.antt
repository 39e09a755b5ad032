-- The claims on the report say no more than is true: each is met by a schedule, and none holds without its premise. The schedules
-- are worked out in proofs/Witness.
--     Charged         an entry of b that charges a so much
--     PassedOver      a join that was passed over, with an entry of a after it, charges nothing
--     StillOpen       nor does a join that has led to no entry yet
--     OrderMatters    where a schedule is refused, another order may give another table
use Rattle.std.specs.Prelude.{ℕ, ◌≡◌, ◌≢◌, true, List, [], ◌∷◌, ◌++◌}
use Rattle.lock.specs.State.{plain, drawn, guarded, fresh_state}
use Rattle.lock.specs.Run.{Call, joins, enters}
use Rattle.lock.specs.Count.{joins_in, entries_in}
use Rattle.lock.specs.Claims.{reached}
use Rattle.report.specs.Charges.{charge, charges}
use Rattle.report.specs.Order.{Given, table_after}
use Rattle.report.specs.Accounts.{pending_in}

pub record Charged (e n a b k : ℕ) : Type 0 where
  pub before : List Call
  pub entry : Call
  pub entered : enters (reached e n before) entry b ≡ true
  pub charged : charge (fresh_state e n) before entry a b ≡ k

pub record PassedOver (e n a b : ℕ) : Type 0 where
  pub before : List Call
  pub join : Call
  pub wait : List Call
  pub entry : Call
  pub joined : joins (reached e n before) join b ≡ true
  pub entered : enters (reached e n (before ++ join ∷ wait)) entry b ≡ true
  pub meanwhile : entries_in (reached e n (before ++ join ∷ [])) wait a ≡ 1
  pub again : joins_in (reached e n (before ++ join ∷ [])) wait b ≡ 1
  pub charged : charge (fresh_state e n) (before ++ join ∷ wait) entry a b ≡ 0

pub record StillOpen (e n a b : ℕ) : Type 0 where
  pub calls : List Call
  pub pending : pending_in (fresh_state e n) calls a b ≡ 1
  pub charged : charges (fresh_state e n) calls a b ≡ 0

pub record OrderMatters : Type 0 where
  pub table : List (List ℕ)
  pub one : Given
  pub other : Given
  pub tables : table_after table (one ∷ other ∷ []) ≢ table_after table (other ∷ one ∷ [])

pub record ReportIsSharp : Type 0 where
  -- `ChargedOnce` is met with 1, and does not hold in the drawn edition
  pub once_plain : Charged plain 2 1 0 1
  pub once_guarded : Charged guarded 2 1 0 1
  pub twice_drawn : Charged drawn 3 2 0 2
  -- "the entry that join led to"
  pub passed_over : PassedOver guarded 3 2 1
  pub still_open : StillOpen plain 2 1 0
  -- "where no schedule is refused"
  pub order_matters : OrderMatters
