-- What is claimed of request [6], as types; the proofs stand in proofs/. A schedule is any list of calls, undos and refused ones among
-- them; e is the edition, n is N. In order: the request's sentence; whose row is shown; a schedule without undos; the one step by which
-- whatever holds of every run holds of the events not undone, and demand 3 by that step; soundness is kept; what a caller of the library
-- holds.
use Rattle.std.specs.Prelude.{◌≡◌, ℕ, suc, ◌-◌, ◌<◌, ◌≤◌, Bool, true, not, ◌&&◌, ◌≢◌, List, [], ◌∷◌, ◌++◌, length}
use Rattle.lock.specs.declared.LockState.{LockState}
use Rattle.lock.specs.State.{processors, fresh_state}
use Rattle.lock.specs.Run.{Call, enters, is_inside}
use Rattle.lock.specs.Count.{entries_in, all_entries_in, latest_join}
use Rattle.lock.specs.Claims.{reached, AnyEdition, waited, Waits, LastJoin}
use Rattle.history.specs.declared.History.{History}
use Rattle.history.specs.Event.{Outcome, unwritten, begun, is_undo, is_whole, goes}
use Rattle.history.specs.Survivors.{survivors, who_in, walk}

-- the state, journal aside, after a schedule of events and undos from the fresh state
abbrev pub lock_after : ℕ → ℕ → List Call → LockState
lock_after e n calls = (walk (unwritten (fresh_state e n)) calls).lock

-- the events of it that are not undone
abbrev pub not_undone : ℕ → ℕ → List Call → List Call
not_undone e n calls = survivors (fresh_state e n) calls

-- "After any mix of events and undos the state, journal aside, equals the one that the events not undone give from the fresh state."
abbrev pub StepBack : Type 0
StepBack = (e n : ℕ) (calls : List Call) → AnyEdition e n → lock_after e n calls ≡ reached e n (not_undone e n calls)

-- "Undo writes an 03 frame for the processor of the undone event": an accepted call's answer names the call's own processor or, for an
-- undo, that of the newest event not undone.
abbrev pub NamesTheUndone : Type 0
NamesTheUndone =
    (e n : ℕ) (before : List Call) (c : Call) → AnyEdition e n
    → (goes (walk (unwritten (fresh_state e n)) before) c.event c.processor).refusal ≡ 0
    → (goes (walk (unwritten (fresh_state e n)) before) c.event c.processor).processor ≡ who_in (fresh_state e n) before c

-- no call of the schedule is an undo
abbrev pub no_undo : List Call → Bool
no_undo [] = true
no_undo (c ∷ cs) = not (is_undo c.event) && no_undo cs

-- Then the journal is never looked at: the state, journal aside, is that of the lock's own run.
abbrev pub WithoutUndosAsBefore : Type 0
WithoutUndosAsBefore =
    (e n : ℕ) (calls : List Call) → AnyEdition e n → no_undo calls ≡ true → lock_after e n calls ≡ reached e n calls

-- ---- claims on runs move up

-- a claim on runs from the fresh state: of edition, N and calls
abbrev pub Claim : Type 1
Claim = ℕ → ℕ → List Call → Type 0

-- the claim holds of the events not undone, and their run is what the schedule leads to
pub record OfNotUndone (C : Claim) (e n : ℕ) (calls : List Call) : Type 0 where
  pub state : lock_after e n calls ≡ reached e n (not_undone e n calls)
  pub claim : C e n (not_undone e n calls)

abbrev pub HoldsOfNotUndone : Claim → Type 0
HoldsOfNotUndone C = (e n : ℕ) (calls : List Call) → AnyEdition e n → OfNotUndone C e n calls

-- "Demand 3 .. [is] about the events not undone." Its clauses as claims on a run, each with the words of lock's Claims; p's join is
-- the call `join` among the calls of the run.
abbrev pub Exclusion : Claim
Exclusion e n calls =
    (p q : ℕ) → AnyEdition e n → is_inside (reached e n calls) p ≡ true → is_inside (reached e n calls) q ≡ true → p ≡ q

abbrev pub Order : Claim
Order e n calls =
    (before : List Call) (join : Call) (later : List Call) (p : ℕ)
    → calls ≡ before ++ join ∷ later
    → Waits e n before join later p
    → (seen : List Call) (entry : Call) (unseen : List Call) (q : ℕ)
    → waited e n before join later p ≡ seen ++ entry ∷ unseen
    → enters (reached e n (before ++ join ∷ seen)) entry q ≡ true
    → latest_join (fresh_state e n) (before ++ join ∷ seen ++ entry ∷ []) q < suc (length before)

abbrev pub Once : Claim
Once e n calls =
    (before : List Call) (join : Call) (later : List Call) (p : ℕ)
    → calls ≡ before ++ join ∷ later
    → Waits e n before join later p
    → (q : ℕ)
    → q ≢ p
    → entries_in (reached e n (before ++ join ∷ [])) (waited e n before join later p) q ≤ 1

abbrev pub Bound : Claim
Bound e n calls =
    (before : List Call) (join : Call) (later : List Call) (p : ℕ)
    → calls ≡ before ++ join ∷ later
    → Waits e n before join later p
    → all_entries_in (reached e n (before ++ join ∷ [])) (waited e n before join later p) ≤ n - 1

-- with any interrupts, between p's last join before an entry and that entry
abbrev pub LastOrder : Claim
LastOrder e n calls =
    (before : List Call) (join : Call) (wait : List Call) (entry : Call) (later : List Call) (p : ℕ)
    → calls ≡ before ++ join ∷ wait ++ entry ∷ later
    → LastJoin e n before join wait entry p
    → (seen : List Call) (other : Call) (unseen : List Call) (q : ℕ)
    → wait ≡ seen ++ other ∷ unseen
    → enters (reached e n (before ++ join ∷ seen)) other q ≡ true
    → latest_join (fresh_state e n) (before ++ join ∷ seen ++ other ∷ []) q < suc (length before)

pub record DemandThree : Type 0 where
  pub never_two_inside : HoldsOfNotUndone Exclusion
  pub nobody_later_enters : HoldsOfNotUndone Order
  pub others_enter_once : HoldsOfNotUndone Once
  pub waits_at_most : HoldsOfNotUndone Bound
  pub nobody_overtakes : HoldsOfNotUndone LastOrder

-- ---- soundness

-- An accepted event on any history gives one that the first 11 does not refuse, whatever the journal held. That there are sixteen rows
-- is a premise as in lock's Kept: a value of the Rattle type always has them, but the list in a definition may be shorter.
abbrev pub SoundIsKept : Type 0
SoundIsKept =
    (h : History) (event p : ℕ)
    → length h.lock.rows ≡ processors
    → (goes h event p).refusal ≡ 0
    → is_whole (goes h event p).state ≡ true

-- ---- from the claims to the code

-- What a caller of the library holds after some calls: `History::fresh` gave the first state and refused nothing; each further state
-- is in what `event` answered on the one before. What the two answer, told by cases (`told_begun`, `told`), is said by their contracts:
-- `begun` and `goes`.
pub data Held (e n : ℕ) : List Call → History → Type 0 where
  made : (o : Outcome) → o ≡ begun e n → o.refusal ≡ 0 → Held e n [] o.state
  answered : (calls : List Call) (h : History) (c : Call) (o : Outcome)
      → Held e n calls h
      → o ≡ goes h c.event c.processor
      → Held e n (calls ++ c ∷ []) o.state

pub record IsWalk (e n : ℕ) (calls : List Call) (h : History) : Type 0 where
  pub range : AnyEdition e n
  pub walked : h ≡ walk (unwritten (fresh_state e n)) calls
  pub lock : h.lock ≡ reached e n (not_undone e n calls)

abbrev pub CallsAreAWalk : Type 0
CallsAreAWalk = (e n : ℕ) (calls : List Call) (h : History) → Held e n calls h → IsWalk e n calls h
