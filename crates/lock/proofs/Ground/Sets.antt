-- A set of numbers as a list.
--     all, in_all              what passes a list passes each number that is in it
--     not_in                   no number is in a list of smaller ones
use Prim.Native.Nat.{ℕ, ◌≤◌, ◌<◌}
use native.Mathlib.Omega.{arith}
use mathlib.Core.Path.{◌≡◌, refl, sym, ap, ◌∙◌}
use mathlib.Core.Bool.{Bool, true, false, ◌&&◌, ◌||◌}
use mathlib.Core.List.{List, [], ◌∷◌}
use lib.Dec.{eqb, ltb}
use borrow.Author.Tests.{eqb-true, ltb-true}
use Rattle.choice.proofs.Tests.{clash, and_left, and_right}
use Rattle.lock.specs.Sound.{is_in}

abbrev pub all : (ℕ → Bool) → List ℕ → Bool
all ok [] = true
all ok (m ∷ ms) = ok m && all ok ms

in_by :
    (ok : ℕ → Bool) (m v : ℕ) (led more : Bool) (b : Bool) → eqb m v ≡ b → ok m && led ≡ true → b || more ≡ true
    → (led ≡ true → more ≡ true → ok v ≡ true) → ok v ≡ true
in_by ok m v led more true e h i later = ap ok (sym (eqb-true m v e)) ∙ and_left (ok m) led h
in_by ok m v led more false e h i later = later (and_right (ok m) led h) i

pub in_all : (ok : ℕ → Bool) (ms : List ℕ) → all ok ms ≡ true → (v : ℕ) → is_in ms v ≡ true → ok v ≡ true
in_all ok [] h v i = clash i refl
in_all ok (m ∷ ms) h v i = in_by ok m v (all ok ms) (is_in ms v) (eqb m v) refl h i (λ h i. in_all ok ms h v i)

pub not_in : (b k : ℕ) (xs : List ℕ) → all (λ x. ltb x b) xs ≡ true → b ≤ k → is_in xs k ≡ false
not_in b k xs small far = by (is_in xs k) refl
  where
    by : (i : Bool) → is_in xs k ≡ i → is_in xs k ≡ false
    by false e = e
    by true e = let near : k < b = ltb-true k b (in_all (λ x. ltb x b) xs small k e) in absurd (omega arith)
