-- What each place is: the one table of places. A new place is a row of `entry`; every other word about places in these proofs
-- follows from it.
--     Phase, Role              how far a processor is on its way; what it does in the queue
--     Entry, entry             a row of the table, and the table: number, phase, role, locked, where its act leads
--     number, normal           the number of a place; and of the place at m, which is m unless m is no place
--     waits, spent, outside, is_away, is_apart, queues       ranges of phases
--     Facts, facts, facts_at   what the invariants ask of a place, by its name and by its number
--     bears, settled           who has the token; which locked the order argument allows
--     back_role                the roles of service and regain
--     number_test              the number of the place at m is v exactly when m is v
--     by_number                a law of the place at m, by whether m is one
--     placed                   the place at m is that at its own number
--     at_every, at_facts       a test that computes to true at each place holds at the place of any number
use Prim.Native.Nat.{ℕ, suc, ◌≤◌, ◌<◌}
use native.Mathlib.Omega.{arith}
use mathlib.Core.Path.{◌≡◌, refl, sym, ap, subst, ◌∙◌}
use mathlib.Core.Bool.{Bool, true, false, cond, not, ◌&&◌, ◌||◌}
use mathlib.Core.List.{List, [], ◌∷◌}
use lib.Dec.{eqb, ltb, leb}
use borrow.Author.Tests.{eqb-true, ltb-true, ltb-false, ne_eqb}
use Rattle.choice.specs.Every.{every}
use Rattle.choice.proofs.Tests.{clash, implies}
use Rattle.choice.proofs.Numbers.{every_at}
use Rattle.lock.specs.State.{Released, Locked, Preempted, RP}
use Rattle.lock.specs.Sound.{places}
use Rattle.lock.specs.Table.{Place, place_at, rest, gate, clear, swap, arm, link, claim, spin, settle, inside, poll, service, back, regain, look, close, await, hand, fence, park, peek, take, lift, old_try, old_poll, old_service, old_free, reread, lost, nowhere}
use Rattle.lock.proofs.Ground.Places.{place_far}

-- not in the queue; joined and not yet in; away on an interrupt; in, or looking whom to hand on to; handing on; and at a place of
-- the old boards' lock alone, which has no queue
pub data Phase : Type 0 where
  outer queueing away holding releasing apart : Phase

-- not in the queue; joined and not yet linked; waits; has the lock; hands it on; has parked it
pub data Role : Type 0 where
  out raw wait tok rel lag : Role

pub record Entry : Type 0 where
  -- document 01's number
  pub number : ℕ
  pub phase : Phase
  -- by locked and by whether nx is none
  pub role : ℕ → Bool → Role
  -- which locked it may have, in any edition
  pub locks : ℕ → Bool
  -- the numbers of the places to which its act leads, in any edition
  pub leads : List ℕ

abbrev at : ℕ → Phase → (ℕ → Bool → Role) → (ℕ → Bool) → List ℕ → Entry
at n phase role locks leads = record { number = n; phase = phase; role = role; locks = locks; leads = leads }

-- Roles that do not look at locked and nx; and those that do. Released is the lock's, once one is linked; R_P is the lock
-- parked here; who comes back Released has lost its place. Who lifts with an nx hands on to it.
abbrev always : Role → ℕ → Bool → Role
always ρ l x = ρ

abbrev linking : ℕ → Bool → Role
linking l x = cond (eqb l Released) tok raw

abbrev waiting : ℕ → Bool → Role
waiting l x = cond (eqb l Released) tok wait

abbrev serving : ℕ → Bool → Role
serving l x = cond (eqb l Released) out (cond (eqb l RP) tok wait)

abbrev regaining : ℕ → Bool → Role
regaining l x = cond (eqb l Released) out tok

abbrev lifting : ℕ → Bool → Role
lifting l x = cond x lag rel

-- Which locked: Released alone; or Locked; Released or R_P; or Preempted
abbrev free : ℕ → Bool
free l = eqb l Released

abbrev armed : ℕ → Bool
armed l = leb l Locked

abbrev pub is_left : ℕ → Bool
is_left l = eqb l Released || eqb l RP

abbrev gone : ℕ → Bool
gone l = is_left l || eqb l Preempted

abbrev pub entry : Place → Entry
entry rest = at 0 outer (always out) free (0 ∷ 1 ∷ 2 ∷ 23 ∷ [])
entry gate = at 1 outer (always out) free (1 ∷ 2 ∷ [])
entry clear = at 2 outer (always out) free (3 ∷ [])
entry swap = at 3 outer (always out) free (9 ∷ 4 ∷ [])
entry arm = at 4 queueing (always raw) free (5 ∷ [])
entry link = at 5 queueing linking armed (7 ∷ 6 ∷ [])
entry claim = at 6 queueing waiting armed (8 ∷ 7 ∷ [])
entry spin = at 7 queueing waiting armed (9 ∷ 7 ∷ 10 ∷ [])
entry settle = at 8 queueing (always tok) armed (9 ∷ [])
entry inside = at 9 holding (always tok) free (14 ∷ 26 ∷ [])
entry poll = at 10 queueing waiting armed (11 ∷ 7 ∷ [])
entry service = at 11 away serving gone (12 ∷ [])
entry back = at 12 away serving gone (7 ∷ 13 ∷ [])
entry regain = at 13 away regaining is_left (7 ∷ 1 ∷ 2 ∷ [])
entry look = at 14 holding (always tok) free (15 ∷ 17 ∷ [])
entry close = at 15 holding (always tok) free (0 ∷ 16 ∷ [])
entry await = at 16 holding (always tok) free (16 ∷ 17 ∷ [])
entry hand = at 17 releasing (always rel) free (0 ∷ 19 ∷ 18 ∷ [])
entry fence = at 18 releasing (always rel) free (19 ∷ [])
entry park = at 19 releasing (always rel) free (20 ∷ 22 ∷ 0 ∷ 17 ∷ [])
entry peek = at 20 releasing (always lag) free (21 ∷ 22 ∷ 0 ∷ 17 ∷ [])
entry take = at 21 releasing (always lag) free (27 ∷ 22 ∷ 0 ∷ 17 ∷ [])
entry lift = at 22 releasing lifting free (0 ∷ 17 ∷ [])
entry old_try = at 23 apart (always out) free (9 ∷ 24 ∷ [])
entry old_poll = at 24 apart (always out) free (25 ∷ 23 ∷ [])
entry old_service = at 25 apart (always out) free (23 ∷ [])
entry old_free = at 26 apart (always tok) free (0 ∷ [])
entry reread = at 27 releasing (always rel) free (28 ∷ 17 ∷ [])
entry lost = at 28 releasing (always rel) free (28 ∷ [])
entry nowhere = at 29 outer (always out) free (29 ∷ [])

abbrev pub number : Place → ℕ
number k = (entry k).number

abbrev pub normal : ℕ → ℕ
normal m = number (place_at m)

-- ---- phases

-- joined, and neither entered nor interrupted
abbrev pub waits : Phase → Bool
waits outer = false
waits queueing = true
waits away = false
waits holding = false
waits releasing = false
waits apart = false

-- away on an interrupt
abbrev pub is_away : Phase → Bool
is_away outer = false
is_away queueing = false
is_away away = true
is_away holding = false
is_away releasing = false
is_away apart = false

-- entered, and not joined again
abbrev pub spent : Phase → Bool
spent f = not (waits f) && not (is_away f)

-- outside the queue, whatever locked is
abbrev pub outside : Phase → Bool
outside outer = true
outside queueing = false
outside away = false
outside holding = false
outside releasing = true
outside apart = true

-- where only the old boards' lock has one
abbrev pub is_apart : Phase → Bool
is_apart outer = false
is_apart queueing = false
is_apart away = false
is_apart holding = false
is_apart releasing = false
is_apart apart = true

-- in the queue, its front holder included: who is away is, until its locked is Released
abbrev pub queues : Phase → ℕ → Bool
queues f l = not (outside f) && (not (is_away f) || not (eqb l Released))

abbrev pub phase_at : ℕ → Phase
phase_at m = (entry (place_at m)).phase

-- ---- what the invariants ask

-- two places are one; a place is one of those from a to b
abbrev is : Place → Place → Bool
is j k = eqb (number k) (number j)

abbrev among : Place → Place → Place → Bool
among a b k = leb (number a) (number k) && leb (number k) (number b)

pub record Facts : Type 0 where
  pub role : ℕ → Bool → Role
  pub locks : ℕ → Bool
  -- 4 to 6: the pred is in use
  pub joining : Bool
  -- 3, 5, 21 and 22
  pub swaps : Bool
  pub links : Bool
  pub takes : Bool
  pub lifts : Bool
  -- 19 to 22: the succ is fenced
  pub fences : Bool
  -- all but 2 to 5: a guarded row stands only there
  pub opens : Bool

abbrev pub facts : Place → Facts
facts k =
    record {
      role = (entry k).role;
      locks = (entry k).locks;
      joining = among arm claim k;
      swaps = is swap k;
      links = is link k;
      takes = is take k;
      lifts = is lift k;
      fences = among park lift k;
      opens = not (among clear link k);
    }

abbrev pub facts_at : ℕ → Facts
facts_at m = facts (place_at m)

-- the token is with who has the lock or hands it on
abbrev pub is_bearer : Role → Bool
is_bearer out = false
is_bearer raw = false
is_bearer wait = false
is_bearer tok = true
is_bearer rel = true
is_bearer lag = false

abbrev pub bears : Facts → ℕ → Bool → Bool
bears f l x = is_bearer (f.role l x)

-- back from a service with the locked of one that regains, the role is the regain's
pub back_role : (o x : Bool) → o || x ≡ true → cond o out (cond x tok wait) ≡ cond o out tok
back_role true x e = refl
back_role false true e = refl
back_role false false e = clash e refl

-- where the order is claimed, who links is Locked
abbrev pub settled : Facts → ℕ → Bool
settled f l = implies f.links (eqb l Locked) && f.locks l

-- ---- at every place

all_numbered : every places (λ m. eqb (normal m) m) ≡ true
unfolding every
all_numbered = refl

pub normal_within : (m : ℕ) → m < places → normal m ≡ m
normal_within m h = eqb-true (normal m) m (every_at places (λ m. eqb (normal m) m) all_numbered m h)

normal_far : (m : ℕ) → places ≤ m → normal m ≡ places
normal_far m far = ap number (place_far m far)

-- the place at m, by whether m is one
pub by_number : (F : ℕ → Type 0) (m : ℕ) → (m < places → F m) → (places ≤ m → F m) → F m
by_number F m within far = by (ltb m places) refl
  where
    by : (b : Bool) → ltb m places ≡ b → F m
    by true e = within (ltb-true m places e)
    by false e = far (ltb-false m places e)

pub number_test : (m v : ℕ) → v < places → eqb (normal m) v ≡ eqb m v
number_test m v h =
    by_number (λ m. eqb (normal m) v ≡ eqb m v) m (λ within. ap (λ k. eqb k v) (normal_within m within))
    (λ far. ap (λ k. eqb k v) (normal_far m far) ∙ ne_eqb places v (omega arith) ∙ sym (ne_eqb m v (omega arith)))

pub placed : (m : ℕ) → place_at (normal m) ≡ place_at m
placed m =
    by_number (λ m. place_at (normal m) ≡ place_at m) m (λ within. ap place_at (normal_within m within))
    (λ far. ap place_at (normal_far m far) ∙ sym (place_far m far))

normal_below : (m : ℕ) → normal m < suc places
normal_below m =
    by_number (λ m. normal m < suc places) m
    (λ within. let e : normal m ≡ m = normal_within m within in omega arith)
    (λ far. let e : normal m ≡ places = normal_far m far in omega arith)

pub at_every : (f : ℕ → Bool) → every (suc places) f ≡ true → (m : ℕ) → f (normal m) ≡ true
at_every f e m = every_at (suc places) f e (normal m) (normal_below m)

pub at_facts : (f : Place → Bool) → every (suc places) (λ m. f (place_at m)) ≡ true → (m : ℕ) → f (place_at m) ≡ true
at_facts f e m = subst (λ k. f k ≡ true) (placed m) (at_every (λ m. f (place_at m)) e m)
