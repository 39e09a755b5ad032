-- Document 01, "Two events" and "What is turned away": making the fresh state, and an event on a state, with their refusals.
use Rattle.std.specs.Prelude.{ℕ, ◌≡◌, Bool, true, not, ◌||◌, cond, eqb, ltb, leb, Result, Ok, Err}
use Rattle.lock.specs.declared.LockState.{LockState}
use Rattle.lock.specs.declared.Refused.{Refused}
use Rattle.lock.specs.State.{editions, processors, fresh_state, put_flag}
use Rattle.lock.specs.Sound.{sound}
use Rattle.lock.specs.Table.{stepped}
use Rattle.lock.specs.declared.Event.{Event}
use Rattle.lock.specs.declared.Refusal.{Refusal}
use Rattle.lock.specs.Named.{event_number, refusal_number}

-- What making the fresh state or an event answers, in document 01's terms: "the refusal number and the next state"; 0 for accepted.
pub record Answer : Type 0 where
  pub refusal : ℕ
  pub state : LockState

abbrev pub accepted : LockState → Answer
accepted s = record { refusal = 0; state = s }

abbrev pub refused : ℕ → LockState → Answer
refused number s = record { refusal = number; state = s }

-- "a definition gives this paper's number and values for each of its cases": what the code's answer says
abbrev pub told : Result LockState Refused → Answer
told (Ok s) = accepted s
told (Err r) = refused (refusal_number r.refusal) r.state

-- "as a filler only, the fresh state of edition 0 and N 1"
abbrev pub filler : LockState
filler = fresh_state 0 1

-- 6: "edition over 2", since [1] "over 3"; 7: "N is 0 or over 16"
unfoldable pub fresh : ℕ → ℕ → Answer
fresh e n =
    cond (leb editions e) (refused 6 filler)
    (cond (eqb n 0 || ltb processors n) (refused 7 filler) (accepted (fresh_state e n)))

-- "Two events: 1 step, 2 raise"
abbrev pub is_step : ℕ → Bool
is_step event = eqb event 1

abbrev pub is_raise : ℕ → Bool
is_raise event = eqb event 2

-- "Raise sets the processor's request flag"
unfoldable pub raised : LockState → ℕ → LockState
raised s p = put_flag s p true

-- what an accepted event makes of the state
abbrev pub does : LockState → ℕ → ℕ → LockState
does s event p = cond (is_step event) (stepped s p) (raised s p)

-- An event on a state that is known to be sound. 8: "event neither 1 nor 2"; 9: "processor not below N".
-- "An event refused gives the same state back."
abbrev pub carried : LockState → ℕ → ℕ → Answer
carried s event p =
    cond (not (is_step event || is_raise event)) (refused 8 s)
    (cond (leb s.n p) (refused 9 s)
    (accepted (does s event p)))

-- The test alone, as the code makes it: the event of that number where it is accepted, and else the refusal.
abbrev pub Accepts : LockState → ℕ → ℕ → Result Event Refusal → Type 0
Accepts s event p (Ok e) = (event ≡ event_number e) × ((carried s event p).refusal ≡ 0)
Accepts s event p (Err r) = (carried s event p).refusal ≡ refusal_number r

-- "An event on a state: 11, 8, 9." 11: "the state handed in isn't sound"
unfoldable pub happens : LockState → ℕ → ℕ → Answer
happens s event p = cond (not (sound s)) (refused 11 s) (carried s event p)
