-- Document 01, "Schedules to hold it to": the cases marked P, as one table of tests under one claim. The checker computes it.
use Rattle.std.specs.Prelude.{ℕ, ◌≡◌, Bool, true, false, ◌&&◌, List, [], ◌∷◌, replicate, eqb}
use Rattle.std.specs.Bool.{beq}
use Rattle.lock.specs.declared.Row.{Row}
use Rattle.lock.specs.declared.LockState.{LockState}
use Rattle.lock.specs.Event.{Answer}
use Rattle.choice.specs.Every.{every}
use Rattle.lock.specs.State.{processors, none, guarded, RP, Preempted, row}
use Rattle.lock.specs.Event.{fresh, happens}
use Rattle.lock.specs.Run.{Call, after, run}

abbrev pub step : ℕ → Call
step p = record { event = 1; processor = p }

abbrev pub raise : ℕ → Call
raise p = record { event = 2; processor = p }

-- k steps of p
abbrev pub steps : ℕ → ℕ → List Call
steps p k = replicate k (step p)

-- what an event on a state, or the making of the fresh state, is refused by; 0: accepted
abbrev pub answers : Answer → ℕ → Bool
answers a refusal = eqb a.refusal refusal

abbrev pub begun : ℕ → ℕ → LockState
begun e n = (fresh e n).state

-- the place of the processor of each call, after it
unfoldable pub places : LockState → List Call → List ℕ
places s [] = []
places s (c ∷ cs) = (row (after s c) c.processor).place ∷ places (after s c) cs

abbrev pub same_numbers : List ℕ → List ℕ → Bool
same_numbers [] [] = true
same_numbers [] (y ∷ ys) = false
same_numbers (x ∷ xs) [] = false
same_numbers (x ∷ xs) (y ∷ ys) = eqb x y && same_numbers xs ys

abbrev pub same_row : Row → Row → Bool
same_row r q =
    eqb r.next q.next && eqb r.locked q.locked && beq r.guard q.guard
    && beq r.flag q.flag && eqb r.place q.place && eqb r.pred q.pred && eqb r.succ q.succ
    && eqb r.nx q.nx

abbrev pub same_state : LockState → LockState → Bool
same_state s t =
    eqb s.edition t.edition && eqb s.n t.n && eqb s.tail t.tail
    && every processors (λ i. same_row (row s i) (row t i))

-- P10's state, and P12's on the way
abbrev pub entered : LockState
entered = run (begun guarded 2) (steps 0 4)

abbrev pub waiting : LockState
waiting = run entered (steps 1 8)

abbrev pub interrupted : LockState
interrupted = run waiting (raise 1 ∷ step 1 ∷ [])

abbrev pub parked : LockState
parked = run interrupted (steps 0 7)

-- a case of document 01: its number, and its tests
pub record Case : Type 0 where
  pub number : ℕ
  pub tests : List Bool

abbrev pub P : ℕ → List Bool → Case
P number tests = record { number = number; tests = tests }

unfoldable pub cases : List Case
cases =
    -- "N 0: 7"
    P 1 (answers (fresh guarded 0) 7 ∷ [])
    -- "N 16 accepted"
    ∷ P 2 (answers (fresh guarded 16) 0 ∷ [])
    -- "N 17: 7"
    ∷ P 3 (answers (fresh guarded 17) 7 ∷ [])
    -- "edition 3 with N 0: 6"; [1] "case P4 takes edition 4"
    ∷ P 4 (answers (fresh 4 0) 6 ∷ [])
    -- "N 16, step of 15 accepted"
    ∷ P 5 (answers (happens (begun guarded 16) 1 15) 0 ∷ [])
    -- "step of 16: 9"
    ∷ P 6 (answers (happens (begun guarded 16) 1 16) 9 ∷ [])
    -- "event 3 of 16: 8"
    ∷ P 7 (answers (happens (begun guarded 16) 3 16) 8 ∷ [])
    -- "raise of a raised processor: accepted, state equal"
    ∷ P 8
    (answers (happens (after (begun guarded 16) (raise 5)) 2 5) 0
    ∷ same_state (run (begun guarded 16) (raise 5 ∷ raise 5 ∷ [])) (after (begun guarded 16) (raise 5))
    ∷ [])
    -- "step at rest with the flag: place 0, flag clear"
    ∷ P 9
    (same_numbers (places (begun guarded 2) (raise 0 ∷ step 0 ∷ [])) (0 ∷ 0 ∷ [])
    ∷ beq (row (run (begun guarded 2) (raise 0 ∷ step 0 ∷ [])) 0).flag false
    ∷ [])
    -- "guarded, N 2: four steps of 0 bring it to 9, L is 0"
    ∷ P 10 (same_numbers (places (begun guarded 2) (steps 0 4)) (1 ∷ 2 ∷ 3 ∷ 9 ∷ []) ∷ eqb entered.tail 0 ∷ [])
    -- "then three more: places 14, 15, 0, L none"
    ∷ P 11
    (same_numbers (places entered (steps 0 3)) (14 ∷ 15 ∷ 0 ∷ [])
    ∷ eqb (run entered (steps 0 3)).tail none
    ∷ [])
    -- "after P10: eight steps of 1 (place 10), raise 1, step 1 (place 11, locked 2); seven steps of 0: 14, 17, 18, 19, 20, 22, 0,
    -- and 1's locked is 3. Four steps of 1: 12, 13, 7, 9"
    ∷ P 12
    (eqb (row waiting 1).place 10
    ∷ eqb (row interrupted 1).place 11
    ∷ eqb (row interrupted 1).locked Preempted
    ∷ same_numbers (places interrupted (steps 0 7)) (14 ∷ 17 ∷ 18 ∷ 19 ∷ 20 ∷ 22 ∷ 0 ∷ [])
    ∷ eqb (row parked 1).locked RP
    ∷ same_numbers (places parked (steps 1 4)) (12 ∷ 13 ∷ 7 ∷ 9 ∷ [])
    ∷ [])
    ∷ []

abbrev pub all_true : List Bool → Bool
all_true [] = true
all_true (b ∷ bs) = b && all_true bs

abbrev pub all_hold : List Case → Bool
all_hold [] = true
all_hold (c ∷ cs) = all_true c.tests && all_hold cs

-- the claim: every test of every case holds
abbrev pub CasesHold : Type 0
CasesHold = all_hold cases ≡ true
