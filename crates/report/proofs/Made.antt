-- Arrays made by number: what the calls of `array::from_fn` give, and a test of two rows place by place.
--     made         the list whose things those calls gave
--     all_pairs    `all` over two rows is the test of every place
-- Assumes nothing.
use Prim.Native.Nat.{ℕ, zero, suc, ◌+◌, ◌≤◌, ◌<◌, zero-le}
use native.Mathlib.Nat.{eq-or-lt_of_le}
use native.Mathlib.Omega.{arith}
use mathlib.Core.Path.{◌≡◌, refl, sym, ap, ◌∙◌, subst}
use mathlib.Core.Logic.{⊎_elim}
use mathlib.Core.Bool.{Bool, true, false, ◌&&◌}
use mathlib.Core.List.{List, [], ◌∷◌}
use lib.ListN.{length, get_or}
use denote.Param.Members.{Mut, Called}
use Rattle.std.specs.Array.{IsFromFnResultFrom, IsFromFnResult}
use Rattle.std.specs.List.{list_all, zip}
use Rattle.std.proofs.lemmas.Slice.Zip.{length-zip, get_or-zip}
use Rattle.choice.specs.Every.{every}
use Rattle.choice.proofs.Numbers.{every_same}
use Rattle.lock.specs.State.{processors}
use Rattle.report.specs.Table.{upto}
use Rattle.report.proofs.Upto.{upto_all}

module _ {F A : Type 0} (g : Mut F (ℕ × Unit {0}) A) (h : ℕ → A) (f : F) (ys : List A) (n : ℕ)
    (gives : (i : ℕ) (y : A) (q : F) → i < n → Called g f (i, tt) y q → (q ≡ f) × (y ≡ h i)) where
  at_each : (k i : ℕ) → i + k ≡ n → IsFromFnResultFrom g f ys i k → (j : ℕ) (d : A) → i ≤ j → j < n → get_or ys j d ≡ h j
  at_each zero i all m j d low high = absurd (omega arith)
  at_each (suc k) i all (q, y, is, call, more) j d low high =
      let one : (q ≡ f) × (y ≡ h i) = gives i y q (omega arith) call in
      ⊎_elim
      (λ (e : i ≡ j). ap (λ (x : ℕ). get_or ys x d) (sym e) ∙ is.1 d ∙ one.1 ∙ ap h e)
      (λ (l : i < j).
      at_each k (i + 1) (omega arith) (subst (λ (p : F). IsFromFnResultFrom g p ys (i + 1) k) one.0 more) j d (omega arith) high)
      (eq-or-lt_of_le low)

  pub made : IsFromFnResult g f ys n → ys ≡ upto n h
  made m = upto_all h n ys (h 0) m.long (λ i l. at_each n 0 (omega arith) m.each i (h 0) zero-le l)

-- a test of every thing of a list, by its place
module _ {A : Type 0} (test : A → Bool) where
  all_from : (f : ℕ → Bool) (n : ℕ) → every (suc n) f ≡ (f 0 && every n (λ i. f (suc i)))
  unfolding every
  all_from f zero = by (f 0)
    where
      by : (b : Bool) → (true && b) ≡ (b && true)
      by true = refl
      by false = refl
  all_from f (suc n) = ap (λ (b : Bool). b && f (suc n)) (all_from f n) ∙ by (f 0) (every n (λ i. f (suc i))) (f (suc n))
    where
      by : (x y z : Bool) → ((x && y) && z) ≡ (x && (y && z))
      by true y z = refl
      by false y z = refl

  pub all_by_place : (xs : List A) (d : A) → list_all test xs ≡ every (length xs) (λ i. test (get_or xs i d))
  unfolding every
  all_by_place [] d = refl
  all_by_place (x ∷ xs) d =
      ap (λ (b : Bool). test x && b) (all_by_place xs d) ∙ sym (all_from (λ i. test (get_or (x ∷ xs) i d)) (length xs))

-- two rows of sixteen, side by side
pub all_pairs :
    {A : Type 0} (test : A × A → Bool) (t m : List A) (d : A) → length t ≡ processors → length m ≡ processors
    → list_all test (zip t m) ≡ every processors (λ i. test (get_or t i d, get_or m i d))
all_pairs test t m d p q =
    let size : length (zip t m) ≡ processors = length-zip t m ∙ simp (p, q) in
    all_by_place test (zip t m) (d, d)
    ∙ ap (λ (n : ℕ). every n (λ i. test (get_or (zip t m) i (d, d)))) size
    ∙ every_same processors _ _ (λ i l. ap test (get_or-zip t m i (d, d) (omega arith) (omega arith)))
