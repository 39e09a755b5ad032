-- Laws of a test of every number below a bound, and of a number that may be this one or another.
--     every_at       where it passes, it passes at each number
--     every_from     where it passes at each number, it passes
--     every_next     the test goes on by one number
--     every_same     two tests that agree on each number below the bound come to the same
--     by_same        a statement of every number, by whether the number is p
--     Avoids, avoids_far     a number that is none of those below n, as a match's last arm says it, is n or more
-- Assumes nothing.
use Prim.Native.Nat.{ℕ, zero, suc, ◌+◌, ◌<◌, ◌≤◌, zero-le}
use native.Mathlib.Nat.{not-suc-le-zero, le_of_suc-le-suc, eq-or-lt_of_le}
use native.Mathlib.Numerals.{add-one}
use native.Mathlib.Omega.{arith}
use mathlib.Core.Path.{◌≡◌, refl, sym, ap, ◌∙◌, subst}
use mathlib.Core.Bool.{Bool, true, false, ◌&&◌}
use mathlib.Core.Logic.{◌≢◌, ⊎_elim}
use lib.Dec.{eqb}
use borrow.Author.Tests.{eqb-true, eqb-false}
use Rattle.choice.specs.Every.{every}
use Rattle.choice.proofs.Tests.{and_left, and_right, and_both}

pub every_at : (n : ℕ) (f : ℕ → Bool) → every n f ≡ true → (i : ℕ) → i < n → f i ≡ true
unfolding every
every_at zero f e i h = absurd (not-suc-le-zero h)
every_at (suc n) f e i h =
    ⊎_elim (λ (q : i ≡ n). subst (λ (m : ℕ). f m ≡ true) (sym q) (and_right (every n f) (f n) e))
    (λ (l : i < n). every_at n f (and_left (every n f) (f n) e) i l)
    (eq-or-lt_of_le (le_of_suc-le-suc h))

pub every_from : (n : ℕ) (f : ℕ → Bool) → ((i : ℕ) → i < n → f i ≡ true) → every n f ≡ true
unfolding every
every_from zero f h = refl
every_from (suc n) f h = and_both (every n f) (f n) (every_from n f (λ i l. h i (omega arith))) (h n (omega arith))

pub every_next :
    (n : ℕ) (f : ℕ → Bool) (all here : Bool) → all ≡ every n f → here ≡ f n → all && here ≡ every (n + 1) f
unfolding every
every_next n f all here so now =
    ap (λ (b : Bool). b && here) so
    ∙ ap (λ (b : Bool). every n f && b) now
    ∙ ap (λ (m : ℕ). every m f) (sym (add-one n))

pub every_same : (n : ℕ) (f g : ℕ → Bool) → ((i : ℕ) → i < n → f i ≡ g i) → every n f ≡ every n g
unfolding every
every_same zero f g h = refl
every_same (suc n) f g h =
    ap (λ (b : Bool). b && f n) (every_same n f g (λ i l. h i (omega arith)))
    ∙ ap (λ (b : Bool). every n g && b) (h n (omega arith))

pub by_same : (F : ℕ → Type 0) (p : ℕ) → F p → ((q : ℕ) → q ≢ p → F q) → (q : ℕ) → F q
by_same F p same other q = go (eqb q p) refl
  where
    go : (b : Bool) → eqb q p ≡ b → F q
    go true e = rw (eqb-true q p e) same
    go false e = other q (eqb-false q p e)

abbrev pub Avoids : ℕ → ℕ → Type 0
Avoids k zero = Unit {0}
Avoids k (suc n) = Avoids k n × (k ≡ n → ⊥)

pub avoids_far : (k n : ℕ) → Avoids k n → n ≤ k
avoids_far k zero a = zero-le
avoids_far k (suc n) a =
    let far : n ≤ k = avoids_far k n a.0 in
    let other : k ≡ n → ⊥ = a.1 in
    omega arith
