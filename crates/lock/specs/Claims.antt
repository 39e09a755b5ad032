-- Demand 3, clause by clause, as types; the proofs stand in proofs/. All of them speak of the step table's runs from
-- the fresh state alone. A schedule is any list of calls, refused ones too, which change nothing; e is the edition, n
-- is N. In order: never two inside; the waiter; the demand's three claims on it; the same order with interrupts, and once; one is
-- inside by its own entry only; a set guard has its releaser; what a caller of the library holds is such a run. What is counted stands in Count, join, entry and interrupt in Run.
use Rattle.std.specs.Prelude.{ℕ, suc, ◌-◌, ◌≤◌, ◌<◌, ◌≡◌, true, ◌||◌, ◌≢◌, List, [], ◌∷◌, ◌++◌, length}
use Rattle.lock.specs.declared.LockState.{LockState}
use Rattle.lock.specs.Event.{Answer}
use Rattle.lock.specs.State.{processors, is_plain, is_drawn, is_guarded, is_old, fresh_state, row}
use Rattle.lock.specs.Event.{fresh, happens}
use Rattle.lock.specs.Run.{Call, run, joins, enters, is_inside}
use Rattle.lock.specs.Count.{joins_in, entries_in, interrupts_in, all_entries_in, latest_join, between}

-- "over any schedule from the fresh state": the state that a schedule leads to
abbrev pub reached : ℕ → ℕ → List Call → LockState
reached e n calls = run (fresh_state e n) calls

-- "In the plain and guarded editions", with N from 1 to 16
pub record Ordered (e n : ℕ) : Type 0 where
  pub edition : (is_plain e || is_guarded e) ≡ true
  pub least : 1 ≤ n
  pub most : n ≤ processors

-- any of the four editions, with N from 1 to 16
pub record AnyEdition (e n : ℕ) : Type 0 where
  pub edition : (is_plain e || is_drawn e || is_guarded e || is_old e) ≡ true
  pub least : 1 ≤ n
  pub most : n ≤ processors

-- "In the plain and guarded editions, over any schedule from the fresh state, two processors are never inside
-- together."
abbrev pub NeverTwoInside : Type 0
NeverTwoInside =
    (e n : ℕ) (calls : List Call) (p q : ℕ)
    → Ordered e n
    → is_inside (reached e n calls) p ≡ true
    → is_inside (reached e n calls) q ≡ true
    → p ≡ q

-- The drawn edition keeps that too; and the old boards' lock, [1]: "Prove that two are never inside together."
abbrev pub NeverTwoInsideAnyEdition : Type 0
NeverTwoInsideAnyEdition =
    (e n : ℕ) (calls : List Call) (p q : ℕ)
    → AnyEdition e n
    → is_inside (reached e n calls) p ≡ true
    → is_inside (reached e n calls) q ≡ true
    → p ≡ q

-- the calls between p's join, which is the call `join` after the calls `before`, and p's next entry; all of `later`
-- where p has not entered yet, so what is claimed of them holds all the while that p waits
abbrev pub waited : ℕ → ℕ → List Call → Call → List Call → ℕ → List Call
waited e n before join later p = between (reached e n before) join later p

-- "Further, take a processor that joins the queue and takes no interrupt before it enters."
pub record Waits (e n : ℕ) (before : List Call) (join : Call) (later : List Call) (p : ℕ) : Type 0 where
  pub ordered : Ordered e n
  pub joined : joins (reached e n before) join p ≡ true
  pub uninterrupted : interrupts_in (reached e n (before ++ join ∷ [])) (waited e n before join later p) p ≡ 0

-- "Between its join and its entry no processor whose latest join is later enters": when q enters there, the number of
-- q's latest join up to then is below the number of p's join.
abbrev pub NobodyLaterEnters : Type 0
NobodyLaterEnters =
    (e n : ℕ) (before : List Call) (join : Call) (later : List Call) (p : ℕ)
    → Waits e n before join later p
    → (seen : List Call) (entry : Call) (unseen : List Call) (q : ℕ)
    → waited e n before join later p ≡ seen ++ entry ∷ unseen
    → enters (reached e n (before ++ join ∷ seen)) entry q ≡ true
    → latest_join (fresh_state e n) (before ++ join ∷ seen ++ entry ∷ []) q < suc (length before)

-- "and every other processor enters at most once"
abbrev pub OthersEnterOnce : Type 0
OthersEnterOnce =
    (e n : ℕ) (before : List Call) (join : Call) (later : List Call) (p : ℕ)
    → Waits e n before join later p
    → (q : ℕ)
    → q ≢ p
    → entries_in (reached e n (before ++ join ∷ [])) (waited e n before join later p) q ≤ 1

-- "so of N processors it waits through at most N - 1 entries"
abbrev pub WaitsAtMost : Type 0
WaitsAtMost =
    (e n : ℕ) (before : List Call) (join : Call) (later : List Call) (p : ℕ)
    → Waits e n before join later p
    → all_entries_in (reached e n (before ++ join ∷ [])) (waited e n before join later p) ≤ n - 1

-- With any interrupts: p's last join before an entry is the call `join`, the calls `wait` follow, and `entry` is that
-- entry.
pub record LastJoin (e n : ℕ) (before : List Call) (join : Call) (wait : List Call) (entry : Call)
    (p : ℕ) : Type 0 where
  pub ordered : Ordered e n
  pub joined : joins (reached e n before) join p ≡ true
  pub entered : enters (reached e n (before ++ join ∷ wait)) entry p ≡ true
  pub last : joins_in (reached e n (before ++ join ∷ [])) (wait ++ entry ∷ []) p ≡ 0

-- Between p's last join before an entry and that entry no processor whose latest join is later enters.
abbrev pub NobodyOvertakes : Type 0
NobodyOvertakes =
    (e n : ℕ) (before : List Call) (join : Call) (wait : List Call) (entry : Call) (p : ℕ)
    → LastJoin e n before join wait entry p
    → (seen : List Call) (other : Call) (unseen : List Call) (q : ℕ)
    → wait ≡ seen ++ other ∷ unseen
    → enters (reached e n (before ++ join ∷ seen)) other q ≡ true
    → latest_join (fresh_state e n) (before ++ join ∷ seen ++ other ∷ []) q < suc (length before)

-- And every processor enters at most once there.
abbrev pub OnceSinceLastJoin : Type 0
OnceSinceLastJoin =
    (e n : ℕ) (before : List Call) (join : Call) (wait : List Call) (entry : Call) (p : ℕ)
    → LastJoin e n before join wait entry p
    → (q : ℕ)
    → entries_in (reached e n (before ++ join ∷ [])) wait q ≤ 1

-- "A processor is inside while its place is 9": it comes there only by its own entry, so counting entries counts all who go
-- in. In any edition.
abbrev pub InsideByEntry : Type 0
InsideByEntry =
    (e n : ℕ) (calls : List Call) (c : Call) (p : ℕ)
    → is_inside (reached e n (calls ++ c ∷ [])) p ≡ true
    → (is_inside (reached e n calls) p || enters (reached e n calls) c p) ≡ true

-- who releases the guard of q: a processor at 19 to 22 whose succ is q
pub record Releaser (s : LockState) (q : ℕ) : Type 0 where
  pub who : ℕ
  pub from : 19 ≤ (row s who).place
  pub until : (row s who).place ≤ 22
  pub succ : (row s who).succ ≡ q

-- A set guard has its releaser: nobody stays shut at the gate with nobody on the way to lift its guard.
abbrev pub GuardHasItsReleaser : Type 0
GuardHasItsReleaser =
    (e n : ℕ) (calls : List Call) (q : ℕ)
    → Ordered e n
    → (row (reached e n calls) q).guard ≡ true
    → Releaser (reached e n calls) q

-- What a caller of the library holds after some calls: `LockState::fresh` gave the first state and refused nothing;
-- each further state is in what `event` answered on the one before. What the two answer, told in document 01's terms by `told`, is said by
-- their contracts, `fresh` and `happens`.
pub data Held (e n : ℕ) : List Call → LockState → Type 0 where
  made : (a : Answer) → a ≡ fresh e n → a.refusal ≡ 0 → Held e n [] a.state
  answered : (calls : List Call) (s : LockState) (c : Call) (a : Answer)
      → Held e n calls s
      → a ≡ happens s c.event c.processor
      → Held e n (calls ++ c ∷ []) a.state

-- So the claims are about the code: any sequence of calls of `event` from `LockState::fresh` is a run.
pub record IsRun (e n : ℕ) (calls : List Call) (s : LockState) : Type 0 where
  pub range : AnyEdition e n
  pub state : s ≡ reached e n calls

abbrev pub CallsAreARun : Type 0
CallsAreARun = (e n : ℕ) (calls : List Call) (s : LockState) → Held e n calls s → IsRun e n calls s
