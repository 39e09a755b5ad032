-- Schedules and what happens in them: a schedule is a list of events, a run is what they make of a state, one after the other.
-- Joins, entries and interrupts are read off a single step of the run; nothing is tallied in the state.
use Rattle.std.specs.Prelude.{ℕ, Bool, ◌&&◌, ◌||◌, List, [], ◌∷◌, eqb}
use Rattle.lock.specs.declared.LockState.{LockState}
use Rattle.lock.specs.State.{row}
use Rattle.lock.specs.Event.{is_step, happens}

-- one line of a schedule: the event and the processor
pub record Call : Type 0 where
  pub event : ℕ
  pub processor : ℕ

-- the state after a call; a refused one changes nothing
unfoldable pub after : LockState → Call → LockState
after s c = (happens s c.event c.processor).state

-- the state after a schedule
unfoldable pub run : LockState → List Call → LockState
run s [] = s
run s (c ∷ cs) = run (after s c) cs

-- the call is an accepted step of processor p
unfoldable pub steps_of : LockState → Call → ℕ → Bool
steps_of s c p = eqb (happens s c.event c.processor).refusal 0 && is_step c.event && eqb c.processor p

-- "3 swap (the join)": p steps at place 3
unfoldable pub joins : LockState → Call → ℕ → Bool
joins s c p = steps_of s c p && eqb (row s p).place 3

-- "An entry is a step that ends at 9"
unfoldable pub enters : LockState → Call → ℕ → Bool
enters s c p = steps_of s c p && eqb (row (after s c) p).place 9

-- processor p's place is a before the call, and b after it
abbrev pub from_to : LockState → Call → ℕ → ℕ → ℕ → Bool
from_to s c p a b = eqb (row s p).place a && eqb (row (after s c) p).place b

-- "It takes an interrupt when a poll step ends at 11"; [1] "Here an interrupt is taken when a poll step ends at 25"
unfoldable pub interrupted : LockState → Call → ℕ → Bool
interrupted s c p = steps_of s c p && (from_to s c p 10 11 || from_to s c p 24 25)

-- "A processor is inside while its place is 9"
unfoldable pub is_inside : LockState → ℕ → Bool
is_inside s p = eqb (row s p).place 9
