-- The ghost state of the order argument: joins are numbered, and each processor remembers the number of its latest join.
-- Both are functions of the events so far.
--     is_ordered               the editions for which order is claimed; ordered_queue: not that of the old boards
--     Tickets, ticketed        the numbers given out, and what a call makes of them
--     by_call                  a statement of state and tickets, by what becomes of a call
--     is_member                who stands in the queue, its front holder included
use Prim.Native.Nat.{ℕ, suc}
use mathlib.Core.Path.{◌≡◌, refl, sym, subst, ◌∙◌}
use mathlib.Core.Bool.{Bool, true, false, cond, ◌&&◌, ◌||◌}
use lib.Dec.{eqb}
use borrow.Author.Tests.{eqb-true, eq-eqb}
use Rattle.choice.proofs.Tests.{clash}
use Rattle.lock.specs.declared.LockState.{LockState}
use Rattle.lock.specs.State.{row, is_plain, is_guarded, is_old}
use Rattle.lock.specs.Table.{stepped}
use Rattle.lock.specs.Event.{raised}
use Rattle.lock.specs.Run.{Call, after, steps_of, joins}
use Rattle.lock.proofs.Ground.Calls.{Accepted, Kind, idle, raise, step, kind}
use Rattle.lock.proofs.Ground.Facts.{phase_at, queues}

-- the editions for which order is claimed
abbrev pub is_ordered : ℕ → Bool
is_ordered e = is_plain e || is_guarded e

pub ordered_queue : (e : ℕ) → is_ordered e ≡ true → is_old e ≡ false
ordered_queue e ordered = by (is_old e) refl
  where
    by : (b : Bool) → is_old e ≡ b → is_old e ≡ false
    by true is = clash (rw (eqb-true e 3 is) at ordered) refl
    by false is = is

pub record Tickets : Type 0 where
  -- how many joins there were so far
  pub count : ℕ
  -- the number of each processor's latest join
  pub latest : ℕ → ℕ

abbrev pub no_tickets : Tickets
no_tickets = record { count = 0; latest = λ p. 0 }

-- the tickets after p has joined
abbrev pub joined : Tickets → ℕ → Tickets
joined g p = record { count = suc g.count; latest = λ q. cond (eqb q p) g.count (g.latest q) }

-- a join takes the next number
unfoldable pub ticketed : LockState → Tickets → Call → Tickets
ticketed s g c =
    cond (joins s c c.processor) (joined g c.processor) g

-- the tickets after p has stepped
abbrev pub step_tickets : LockState → Tickets → ℕ → Tickets
step_tickets s g p = cond (eqb (row s p).place 3) (joined g p) g

-- a statement of state and tickets holds after every call, if it holds after refused ones, accepted raises and accepted steps
pub by_call :
    (P : LockState → Tickets → Type 0) (s : LockState) (g : Tickets) (c : Call) → P s g
    → (Accepted s c → P (stepped s c.processor) (step_tickets s g c.processor))
    → (Accepted s c → P (raised s c.processor) g)
    → P (after s c) (ticketed s g c)
unfolding ticketed joins
by_call P s g c same stepping raising = by (kind s c)
  where
    p : ℕ
    p = c.processor

    -- the tickets, by whether the call is a step
    given : (x : LockState) (b : Bool) → steps_of s c p ≡ b → after s c ≡ x
        → P x (cond (b && eqb (row s p).place 3) (joined g p) g) → P (after s c) (ticketed s g c)
    given x b h e v =
        subst (λ y. P y (ticketed s g c)) (sym e)
        (subst (λ b. P x (cond (b && eqb (row s p).place 3) (joined g p) g)) (sym h) v)

    by : Kind s c → P (after s c) (ticketed s g c)
    by (idle e still) = given s false (still p) e same
    by (raise a e still) = given (raised s p) false (still p) e (raising a)
    by (step a e whose) = given (stepped s p) true (whose p ∙ eq-eqb p p refl) e (stepping a)

unfoldable pub is_member : LockState → ℕ → Bool
is_member s p = queues (phase_at (row s p).place) (row s p).locked
