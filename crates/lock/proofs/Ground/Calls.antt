-- What becomes of a call: it is refused and nothing changes, or it is an accepted raise, or an accepted step. Every law about
-- calls goes by these three cases.
--     Accepted     what acceptance tells: a sound state, a processor below N
--     Kind, kind   the three cases, and that each call is one of them
use Prim.Native.Nat.{ℕ, ◌<◌}
use mathlib.Core.Path.{◌≡◌, refl, ap, ◌∙◌}
use mathlib.Core.Bool.{Bool, true, false, cond, not, ◌&&◌, ◌||◌}
use lib.Dec.{eqb, leb}
use borrow.Author.Tests.{leb-false}
use Rattle.lock.specs.declared.LockState.{LockState}
use Rattle.lock.specs.Event.{Answer}
use Rattle.lock.specs.Sound.{sound}
use Rattle.lock.specs.Table.{stepped}
use Rattle.lock.specs.Event.{accepted, refused, is_step, is_raise, raised, happens}
use Rattle.lock.specs.Run.{Call, after, steps_of}

pub record Accepted (s : LockState) (c : Call) : Type 0 where
  pub fit : sound s ≡ true
  pub below : c.processor < s.n

pub data Kind (s : LockState) (c : Call) : Type 0 where
  idle : after s c ≡ s → ((q : ℕ) → steps_of s c q ≡ false) → Kind s c
  raise : Accepted s c → after s c ≡ raised s c.processor → ((q : ℕ) → steps_of s c q ≡ false) → Kind s c
  step : Accepted s c → after s c ≡ stepped s c.processor → ((q : ℕ) → steps_of s c q ≡ eqb c.processor q) → Kind s c

-- the answer, by the outcomes of its tests
abbrev answer : Bool → Bool → Bool → Bool → LockState → LockState → LockState → Answer
answer fit is_step is_raise past s x y =
    cond (not fit) (refused 11 s)
    (cond (not (is_step || is_raise)) (refused 8 s) (cond past (refused 9 s) (accepted (cond is_step x y))))

module _ (s : LockState) (c : Call) where
  told :
      (fit st ra past : Bool) → sound s ≡ fit → is_step c.event ≡ st → is_raise c.event ≡ ra
      → leb s.n c.processor ≡ past
      → happens s c.event c.processor ≡ answer fit st ra past s (stepped s c.processor)
      (raised s c.processor)
  unfolding happens
  told fit st ra past e f g h =
      λ i. answer (e i) (f i) (g i) (h i) s (stepped s c.processor) (raised s c.processor)

  -- a refusal leaves the state as it is, and is no step
  turned_away : (n : ℕ) → eqb n 0 ≡ false → happens s c.event c.processor ≡ refused n s → Kind s c
  unfolding after steps_of
  turned_away n e t =
      idle (ap (λ a. a.state) t)
      (λ q. ap (λ a. eqb a.refusal 0 && is_step c.event && eqb c.processor q) t
      ∙ ap (λ b. b && is_step c.event && eqb c.processor q) e)

  kind_by :
      (fit st ra past : Bool) → sound s ≡ fit → is_step c.event ≡ st → is_raise c.event ≡ ra
      → leb s.n c.processor ≡ past
      → Kind s c
  unfolding after steps_of
  kind_by false st ra past e f g h = turned_away 11 refl (told false st ra past e f g h)
  kind_by true false false past e f g h = turned_away 8 refl (told true false false past e f g h)
  kind_by true true ra true e f g h = turned_away 9 refl (told true true ra true e f g h)
  kind_by true false true true e f g h = turned_away 9 refl (told true false true true e f g h)
  kind_by true false true false e f g h =
      let t : happens s c.event c.processor ≡ accepted (raised s c.processor) =
      told true false true false e f g h in
      raise (record { fit = e; below = leb-false s.n c.processor h }) (ap (λ a. a.state) t)
      (λ q. λ i. eqb (t i).refusal 0 && f i && eqb c.processor q)
  kind_by true true ra false e f g h =
      let t : happens s c.event c.processor ≡ accepted (stepped s c.processor) =
      told true true ra false e f g h in
      step (record { fit = e; below = leb-false s.n c.processor h }) (ap (λ a. a.state) t)
      (λ q. λ i. eqb (t i).refusal 0 && f i && eqb c.processor q)

  pub kind : Kind s c
  kind = kind_by (sound s) (is_step c.event) (is_raise c.event) (leb s.n c.processor) refl refl refl refl
