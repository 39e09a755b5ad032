-- Request [2], "The figure reads next twice": in the guarded edition a second read of succ's next would find what the first found;
-- in the drawn edition, which makes it, it may find none, and then the lock is lost. In order: what a second read would find; that
-- it is the same, in the guarded edition; that it need not be in the drawn one; place 28; the schedule that leads there.
use Rattle.std.specs.Prelude.{ℕ, ◌≤◌, ◌<◌, ◌≡◌, Bool, true, ◌&&◌, ◌≢◌, List, [], ◌∷◌, ◌++◌, eqb, length}
use Rattle.lock.specs.declared.Row.{Row}
use Rattle.lock.specs.declared.LockState.{LockState}
use Rattle.lock.specs.State.{processors, none, drawn, guarded, RP, row}
use Rattle.lock.specs.Sound.{sound}
use Rattle.lock.specs.Event.{accepted, happens}
use Rattle.lock.specs.Run.{Call, run, steps_of}
use Rattle.lock.specs.Count.{steps_in, all_entries_in}
use Rattle.lock.specs.Cases.{step, steps, raise}
use Rattle.lock.specs.Claims.{reached, AnyEdition}

-- ---- what a second read would find

-- "would find the same": succ's next, read now, is nx, as it was peeked
abbrev pub FindsTheSame : LockState → ℕ → Type 0
FindsTheSame s p = (row s (row s p).succ).next ≡ (row s p).nx

-- "a successful take": p steps at 21 and finds succ's locked 3
unfoldable pub takes : LockState → Call → ℕ → Bool
takes s c p = steps_of s c p && eqb (row s p).place 21 && eqb (row s (row s p).succ).locked RP

-- After the calls `before` p takes with success by the call `take`, and it does not step in the calls `since`: it stands where
-- that take led, at 22 in the guarded edition (`leads` below), and at 27 before its read in the drawn one.
pub record Taken (e n : ℕ) (before : List Call) (take : Call) (since : List Call) (p : ℕ) : Type 0 where
  pub took : takes (reached e n before) take p ≡ true
  pub stands : steps_in (reached e n (before ++ take ∷ [])) since p ≡ 0

-- whenever p stands where a successful take led
abbrev pub SameOnceTaken : ℕ → ℕ → Type 0
SameOnceTaken e n =
    (before : List Call) (take : Call) (since : List Call) (p : ℕ)
    → Taken e n before take since p
    → FindsTheSame (reached e n (before ++ take ∷ since)) p

-- whenever p stands at 21, so at the take itself
abbrev pub SameAtTake : ℕ → ℕ → Type 0
SameAtTake e n =
    (calls : List Call) (p : ℕ) → (row (reached e n calls) p).place ≡ 21 → FindsTheSame (reached e n calls) p

-- A row at 22 after a take that succeeded, by its cells alone: after a park that fails nx is succ, after a peek that finds none and
-- after a take that fails it is none.
pub record AtLift (r : Row) : Type 0 where
  pub place : r.place ≡ 22
  pub some : r.nx ≢ none
  pub other : r.nx ≢ r.succ

-- whenever p stands at 22 so
abbrev pub SameAtLift : ℕ → ℕ → Type 0
SameAtLift e n =
    (calls : List Call) (p : ℕ) → AtLift (row (reached e n calls) p) → FindsTheSame (reached e n calls) p

-- every successful take leads there
abbrev pub TakeLeadsToLift : ℕ → ℕ → Type 0
TakeLeadsToLift e n =
    (before : List Call) (take : Call) (since : List Call) (p : ℕ)
    → Taken e n before take since p
    → AtLift (row (reached e n (before ++ take ∷ since)) p)

-- "The guarded edition keeps its single read; prove that there a second read would find the same."
pub record SecondRead (e n : ℕ) : Type 0 where
  pub at_take : SameAtTake e n
  pub once_taken : SameOnceTaken e n
  pub at_lift : SameAtLift e n
  pub leads : TakeLeadsToLift e n

abbrev pub SecondReadFindsTheSame : Type 0
SecondReadFindsTheSame = (n : ℕ) → 1 ≤ n → n ≤ processors → SecondRead guarded n

-- ---- the schedules of the two editions

-- schedules/lost_drawn, drawn, N 3, but for its last event: 0 parks the lock on 1, which is away, sees 2 behind it and takes the lock
-- back; then 1 comes back, has lost its place, and clears its next to join again.
abbrev pub lost_before : List Call
lost_before = steps 0 4 ++ steps 1 5 ++ steps 0 1 ++ steps 1 2 ++ steps 2 5 ++ raise 1 ∷ steps 1 1 ++ steps 0 3

abbrev pub lost_since : List Call
lost_since = steps 1 4

abbrev pub lost_unread : List Call
lost_unread = lost_before ++ step 0 ∷ lost_since

-- What 0 peeked is 2, and what it will read at 27 is none.
pub record ReadsAnother (e n : ℕ) (calls : List Call) : Type 0 where
  pub unread : (row (reached e n calls) 0).place ≡ 27
  pub peeked : (row (reached e n calls) 0).nx ≡ 2
  pub finds : (row (reached e n calls) (row (reached e n calls) 0).succ).next ≡ none

-- A successful take that is not lifted yet: succ has come back meanwhile, and the guard holds it at the gate, before its clear.
pub record TakenMet (e n : ℕ) : Type 0 where
  pub before : List Call
  pub take : Call
  pub since : List Call
  pub p : ℕ
  pub taken : Taken e n before take since p
  pub held : (row (reached e n (before ++ take ∷ since)) (row (reached e n (before ++ take ∷ since)) p).succ).place ≡ 1

pub record SecondReadIsSharp : Type 0 where
  -- the premise can be met: guarded, N 3
  pub met : TakenMet guarded 3
  -- in the drawn edition the same sentence is false: of place 27 before its read, and of place 21
  pub drawn_reads_another : ReadsAnother drawn 3 lost_unread
  pub drawn_once_taken : SameOnceTaken drawn 3 → ⊥
  pub drawn_at_take : SameAtTake drawn 3 → ⊥

-- ---- "place 28, lost"

abbrev pub is_lost : LockState → ℕ → Bool
is_lost s p = eqb (row s p).place 28

-- "every step is accepted and changes nothing": in any sound state
abbrev pub LostChangesNothing : Type 0
LostChangesNothing =
    (s : LockState) (p : ℕ) → sound s ≡ true → p < s.n → is_lost s p ≡ true → happens s 1 p ≡ accepted s

-- A processor at 28 is at 28 after every further schedule: from any state with its sixteen rows, as a value of the Rattle type always
-- has them, sound or not, reached or handed in.
abbrev pub LostStaysLost : Type 0
LostStaysLost =
    (s : LockState) (calls : List Call) (p : ℕ)
    → length s.rows ≡ processors
    → is_lost s p ≡ true
    → is_lost (run s calls) p ≡ true

-- In a run it has the lock and never hands it on: from then on nobody enters.
abbrev pub NobodyEntersOnceLost : Type 0
NobodyEntersOnceLost =
    (e n : ℕ) (calls : List Call) (p : ℕ) (more : List Call)
    → AnyEdition e n
    → is_lost (reached e n calls) p ≡ true
    → all_entries_in (reached e n calls) more ≡ 0

-- "Show a schedule that reaches 28": schedules/lost_drawn, whose last event is 0's read
abbrev pub LockIsLost : Type 0
LockIsLost = is_lost (reached drawn 3 (lost_unread ++ step 0 ∷ [])) 0 ≡ true
