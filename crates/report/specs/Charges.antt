-- Request [4]: "For every pair a, b: how many entries of a fell between a join of b and the entry that join led to."
-- Read off the steps of the run that begins at a state s, with the words of lock's Count; nothing is tallied.
use Rattle.std.specs.Prelude.{ℕ, ◌+◌, cond, List, [], ◌∷◌, ◌++◌, take, drop, eqb}
use Rattle.lock.specs.declared.LockState.{LockState}
use Rattle.lock.specs.Run.{Call, run, enters}
use Rattle.lock.specs.Count.{entries_in, latest_join}

-- "the entry that join led to": the join that led to an entry of b is b's latest join up to it; its number, the first call
-- being number 1, and 0 where b made none. "If the swap finds no one, join and entry are one step": then it is the entry itself.
abbrev pub led_by : LockState → List Call → Call → ℕ → ℕ
led_by s before entry b = latest_join s (before ++ entry ∷ []) b

-- the entries of a among the calls after number k
abbrev pub entries_after : LockState → List Call → ℕ → ℕ → ℕ
entries_after s before k a = entries_in (run s (take k before)) (drop k before) a

-- what one entry of b charges to a: a's entries between the join that led to it and it, both left out; nothing where no join
-- led to it
unfoldable pub charge : LockState → List Call → Call → ℕ → ℕ → ℕ
charge s before entry a b =
    let k = led_by s before entry b in
    cond (eqb k 0) 0 (entries_after s before k a)

-- the sum over the entries of b among the calls `later`, which follow the calls `before`
unfoldable pub charges_from : LockState → List Call → List Call → ℕ → ℕ → ℕ
charges_from s before [] a b = 0
charges_from s before (c ∷ later) a b =
    cond (enters (run s before) c b) (charge s before c a b) 0 + charges_from s (before ++ c ∷ []) later a b

-- who made whom wait in a run: a entered, b waited
abbrev pub charges : LockState → List Call → ℕ → ℕ → ℕ
charges s calls a b = charges_from s [] calls a b
