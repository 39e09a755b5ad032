-- What the production desk sees of demand 3: in the plain and guarded editions a join that led to an entry charges each processor
-- at most once, whatever interrupts were taken; and nobody is charged for its own entries, in any edition.
use Rattle.std.specs.Prelude.{ℕ, ◌≤◌, ◌≡◌, true, List}
use Rattle.lock.specs.State.{fresh_state}
use Rattle.lock.specs.Run.{Call, enters}
use Rattle.lock.specs.Count.{entries_in}
use Rattle.lock.specs.Claims.{Ordered, reached}
use Rattle.report.specs.Charges.{charge, charges}

abbrev pub ChargedOnce : Type 0
ChargedOnce =
    (e n : ℕ) (before : List Call) (entry : Call) (a b : ℕ)
    → Ordered e n → enters (reached e n before) entry b ≡ true
    → charge (fresh_state e n) before entry a b ≤ 1

-- so nobody made b wait more often than b entered
abbrev pub NoMoreThanEntries : Type 0
NoMoreThanEntries =
    (e n : ℕ) (calls : List Call) (a b : ℕ)
    → Ordered e n
    → charges (fresh_state e n) calls a b ≤ entries_in (fresh_state e n) calls b

abbrev pub DiagonalIsZero : Type 0
DiagonalIsZero = (e n : ℕ) (calls : List Call) (b : ℕ) → charges (fresh_state e n) calls b b ≡ 0
