-- What demand 3 counts, read off the steps of a schedule: "Joins and entries are counted from the steps of the
-- schedule, not from a stored tally." Each count goes through the calls one by one, in the run that begins at a state
-- s. In order: how many steps, joins, entries and interrupts; the number of a latest join; the calls between a join and its
-- entry. The claims stand in Claims.
use Rattle.std.specs.Prelude.{ℕ, suc, Bool, cond, List, [], ◌∷◌, eqb}
use Rattle.lock.specs.declared.LockState.{LockState}
use Rattle.lock.specs.Run.{Call, after, steps_of, joins, enters, interrupted}

-- how many of the calls pass a test of the state before the call and of the call
unfoldable pub count_in : (LockState → Call → Bool) → LockState → List Call → ℕ
count_in test s [] = 0
count_in test s (c ∷ cs) = let further = count_in test (after s c) cs in cond (test s c) (suc further) further

-- how often processor p steps
unfoldable pub steps_in : LockState → List Call → ℕ → ℕ
steps_in s cs p = count_in (λ t c. steps_of t c p) s cs

-- how often processor p joins
unfoldable pub joins_in : LockState → List Call → ℕ → ℕ
joins_in s cs p = count_in (λ t c. joins t c p) s cs

-- how often processor p enters
unfoldable pub entries_in : LockState → List Call → ℕ → ℕ
entries_in s cs p = count_in (λ t c. enters t c p) s cs

-- how often processor p takes an interrupt
unfoldable pub interrupts_in : LockState → List Call → ℕ → ℕ
interrupts_in s cs p = count_in (λ t c. interrupted t c p) s cs

-- how many entries there are, whoever makes them: an entry is a step of the call's own processor
unfoldable pub all_entries_in : LockState → List Call → ℕ
all_entries_in s cs = count_in (λ t c. enters t c c.processor) s cs

-- the number of processor p's latest join among the calls, the first call being number 1; 0 where it makes none
unfoldable pub latest_join : LockState → List Call → ℕ → ℕ
latest_join s [] p = 0
latest_join s (c ∷ cs) p =
    let further = latest_join (after s c) cs p in
    cond (eqb further 0) (cond (joins s c p) 1 0) (suc further)

-- the calls up to processor p's first entry, that entry left out; all of them where it makes none
unfoldable pub until_entry : LockState → List Call → ℕ → List Call
until_entry s [] p = []
until_entry s (c ∷ cs) p = let further = until_entry (after s c) cs p in cond (enters s c p) [] (c ∷ further)

-- "Between its join and its entry": p joins by the call `join` in state s, and the calls `later` follow. "If the swap
-- finds no one, join and entry are one step": then nothing is between.
unfoldable pub between : LockState → Call → List Call → ℕ → List Call
between s join later p = cond (enters s join p) [] (until_entry (after s join) later p)
