-- Places by number: laws place by place, and the act that a number names. What each place is stands in Facts.
--     place_far          a number that is no place is nowhere's
--     Each, each         laws of each place, in the order of their numbers, make a law of every number
--     at_number          the same of the place at m
--     at_place           a step at the place k does the act of k's name
--     at_nowhere         a step at a number that is no place does nothing
--     lost_same          nor does the act of place 28
use Prim.Native.Nat.{ℕ, zero, suc, ◌≤◌, ◌<◌}
use native.Mathlib.Nat.{not-suc-le-zero, le_of_suc-le-suc, eq-or-lt_of_le}
use mathlib.Core.Path.{◌≡◌, refl, sym, ap, subst, ◌∙◌}
use mathlib.Core.Bool.{Bool, true, false}
use mathlib.Core.Logic.{⊎_elim}
use lib.ListN.{get_or-eq_default}
use lib.Dec.{ltb}
use borrow.Author.Tests.{ltb-true, ltb-false}
use Rattle.lock.specs.State.{row}
use Rattle.lock.specs.Sound.{places}
use Rattle.lock.specs.Table.{Place, names, place_at, act, stepped, nowhere}
use Rattle.lock.specs.declared.Row.{Row}
use Rattle.lock.specs.declared.LockState.{LockState}
use Rattle.lock.specs.Acts as Acts

-- a number that is no place is nowhere's
pub place_far : (m : ℕ) → places ≤ m → place_at m ≡ nowhere
place_far m far = get_or-eq_default names nowhere far

-- ---- laws, place by place

infixl 20 ◌▹◌
-- a law of each number below n, one after the other
pub data Each (F : ℕ → Type 0) : ℕ → Type 0 where
  begin : Each F zero
  ◌▹◌ : {n : ℕ} → Each F n → F n → Each F (suc n)

law_at : {F : ℕ → Type 0} {n : ℕ} → Each F n → (m : ℕ) → m < n → F m
law_at begin m h = absurd (not-suc-le-zero h)
law_at (laws ▹ law) m h =
    ⊎_elim (λ same. rw same law) (λ less. law_at laws m less) (eq-or-lt_of_le (le_of_suc-le-suc h))

-- a law of every number, from that of each place and that of a number that is no place
pub each : (F : ℕ → Type 0) → Each F places → ((m : ℕ) → places ≤ m → F m) → (m : ℕ) → F m
each F laws far m = by (ltb m places) refl
  where
    by : (b : Bool) → ltb m places ≡ b → F m
    by true e = law_at laws m (ltb-true m places e)
    by false e = far m (ltb-false m places e)

pub at_number : (F : Place → Type 0) → Each (λ m. F (place_at m)) places → F nowhere → (m : ℕ) → F (place_at m)
at_number F laws far = each (λ m. F (place_at m)) laws (λ m h. subst F (sym (place_far m h)) far)

-- ---- the act of a place

pub at_place : (s : LockState) (p k : ℕ) (own : Row) (P : Place) (t : LockState) → own ≡ row s p → own.place ≡ k → place_at k ≡ P → t ≡ act P s p → t ≡ stepped s p
unfolding stepped
at_place s p k own P t e q n d =
    let number : (row s p).place ≡ k = ap (λ (r : Row). r.place) (sym e) ∙ q in
    d ∙ ap (λ (P : Place). act P s p) (sym n ∙ ap place_at (sym number))

pub at_nowhere : (s : LockState) (p : ℕ) (own : Row) → own ≡ row s p → places ≤ own.place → s ≡ stepped s p
at_nowhere s p own e far = at_place s p own.place own nowhere s e refl (place_far own.place far) refl

-- "every step ... changes nothing": all that is asked of place 28 follows from this
pub lost_same : (s : LockState) (p : ℕ) → s ≡ Acts.lost s p
unfolding Acts.lost
lost_same s p = refl
