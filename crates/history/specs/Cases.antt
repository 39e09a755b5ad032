-- Document 01, "Schedules to hold it to": the cases marked P, as one table of tests under one claim, of the fresh state and the event
-- of request [6]; lock's Cases has them of the lock alone. The checker computes it. "Case P8 [is] then meant journal aside": states
-- are compared by their locks.
use Rattle.std.specs.Prelude.{◌≡◌, ℕ, Bool, true, false, ◌&&◌, List, [], ◌∷◌, ◌==◌}
use Rattle.std.specs.Bool.{beq}
use Rattle.lock.specs.declared.Row.{Row}
use Rattle.lock.specs.declared.LockState.{LockState}
use Rattle.choice.specs.Every.{every}
use Rattle.lock.specs.State.{processors, none, guarded, RP, Preempted, row}
use Rattle.lock.specs.Run.{Call}
use Rattle.lock.specs.Cases.{step, raise, steps}
use Rattle.history.specs.declared.History.{History}
use Rattle.history.specs.Event.{Outcome, begun, goes}
use Rattle.history.specs.Survivors.{afterward, walk}

-- whether an event on a state, or the making of the fresh state, is refused by that number; by 0: is accepted
abbrev pub answers : Outcome → ℕ → Bool
answers a refusal = a.refusal == refusal

-- the fresh state of an edition and N, with nothing to undo
abbrev pub start : ℕ → ℕ → History
start e n = (begun e n).state

-- the place of the processor of each call, after it
unfoldable pub places : History → List Call → List ℕ
places h [] = []
places h (c ∷ cs) = (row (afterward h c).lock c.processor).place ∷ places (afterward h c) cs

abbrev pub same_numbers : List ℕ → List ℕ → Bool
same_numbers [] [] = true
same_numbers [] (y ∷ ys) = false
same_numbers (x ∷ xs) [] = false
same_numbers (x ∷ xs) (y ∷ ys) = x == y && same_numbers xs ys

abbrev pub same_row : Row → Row → Bool
same_row r q =
    (r.next == q.next) && r.locked == q.locked && beq r.guard q.guard
    && beq r.flag q.flag && r.place == q.place && r.pred == q.pred && r.succ == q.succ
    && r.nx == q.nx

abbrev pub same_state : LockState → LockState → Bool
same_state s t =
    (s.edition == t.edition) && s.n == t.n && s.tail == t.tail
    && every processors (λ i. same_row (row s i) (row t i))

-- P10's state, and P12's on the way
abbrev pub entered : History
entered = walk (start guarded 2) (steps 0 4)

abbrev pub waiting : History
waiting = walk entered (steps 1 8)

abbrev pub interrupted : History
interrupted = walk waiting (raise 1 ∷ step 1 ∷ [])

abbrev pub parked : History
parked = walk interrupted (steps 0 7)

-- a case of document 01: its number, and its tests
pub record Case : Type 0 where
  pub number : ℕ
  pub tests : List Bool

abbrev pub P : ℕ → List Bool → Case
P number tests = record { number = number; tests = tests }

unfoldable pub cases : List Case
cases =
    -- "N 0: 7"
    P 1 (answers (begun guarded 0) 7 ∷ [])
    -- "N 16 accepted"
    ∷ P 2 (answers (begun guarded 16) 0 ∷ [])
    -- "N 17: 7"
    ∷ P 3 (answers (begun guarded 17) 7 ∷ [])
    -- "edition 3 with N 0: 6"; [1] "case P4 takes edition 4"
    ∷ P 4 (answers (begun 4 0) 6 ∷ [])
    -- "N 16, step of 15 accepted"
    ∷ P 5 (answers (goes (start guarded 16) 1 15) 0 ∷ [])
    -- "step of 16: 9"
    ∷ P 6 (answers (goes (start guarded 16) 1 16) 9 ∷ [])
    -- "event 3 of 16: 8"; [6] "case P7 now gives 9"
    ∷ P 7 (answers (goes (start guarded 16) 3 16) 9 ∷ [])
    -- "raise of a raised processor: accepted, state equal"
    ∷ P 8
    (answers (goes (afterward (start guarded 16) (raise 5)) 2 5) 0
    ∷ same_state (walk (start guarded 16) (raise 5 ∷ raise 5 ∷ [])).lock (afterward (start guarded 16) (raise 5)).lock
    ∷ [])
    -- "step at rest with the flag: place 0, flag clear"
    ∷ P 9
    (same_numbers (places (start guarded 2) (raise 0 ∷ step 0 ∷ [])) (0 ∷ 0 ∷ [])
    ∷ beq (row (walk (start guarded 2) (raise 0 ∷ step 0 ∷ [])).lock 0).flag false
    ∷ [])
    -- "guarded, N 2: four steps of 0 bring it to 9, L is 0"
    ∷ P 10 (same_numbers (places (start guarded 2) (steps 0 4)) (1 ∷ 2 ∷ 3 ∷ 9 ∷ []) ∷ (entered.lock.tail == 0) ∷ [])
    -- "then three more: places 14, 15, 0, L none"
    ∷ P 11
    (same_numbers (places entered (steps 0 3)) (14 ∷ 15 ∷ 0 ∷ [])
    ∷ ((walk entered (steps 0 3)).lock.tail == none)
    ∷ [])
    -- "after P10: eight steps of 1 (place 10), raise 1, step 1 (place 11, locked 2); seven steps of 0: 14, 17, 18, 19, 20, 22, 0,
    -- and 1's locked is 3. Four steps of 1: 12, 13, 7, 9"
    ∷ P 12
    (((row waiting.lock 1).place == 10)
    ∷ ((row interrupted.lock 1).place == 11)
    ∷ ((row interrupted.lock 1).locked == Preempted)
    ∷ same_numbers (places interrupted (steps 0 7)) (14 ∷ 17 ∷ 18 ∷ 19 ∷ 20 ∷ 22 ∷ 0 ∷ [])
    ∷ ((row parked.lock 1).locked == RP)
    ∷ same_numbers (places parked (steps 1 4)) (12 ∷ 13 ∷ 7 ∷ 9 ∷ [])
    ∷ [])
    ∷ []

abbrev pub all_true : List Bool → Bool
all_true [] = true
all_true (b ∷ bs) = b && all_true bs

abbrev pub all_hold : List Case → Bool
all_hold [] = true
all_hold (c ∷ cs) = all_true c.tests && all_hold cs

-- the claim: every test of every case holds
abbrev pub CasesHold : Type 0
CasesHold = all_hold cases ≡ true
