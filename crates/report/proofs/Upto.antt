-- Laws of `upto`, a list of n things by their number.
--     length_upto     it has n things
--     upto_at         the one at place i is that of number i
--     upto_same       two of them are one where their things are
--     upto_all        n things, each of which is that of its place
--     set_upto        one thing replaced
-- Assumes nothing.
use Prim.Native.Nat.{ℕ, zero, suc, ◌+◌, ◌<◌}
use native.Mathlib.Nat.{not-suc-le-zero, le_of_suc-le-suc, eq-or-lt_of_le}
use native.Mathlib.Numerals.{add-one}
use native.Mathlib.Omega.{arith}
use mathlib.Core.Path.{◌≡◌, refl, sym, ap, ◌∙◌, subst}
use mathlib.Core.Logic.{⊎_elim}
use mathlib.Core.Bool.{Bool, cond}
use mathlib.Core.List.{List, [], ◌∷◌, ◌++◌}
use lib.ListN.{length, get_or, set, length-append, length-set, get_or-append}
use lib.Seq.{get_or_at, ext_get_or, get_or-set_same, get_or-set_other}
use lib.Dec.{eqb}
use borrow.Author.Tests.{eq-eqb, ne_eqb}
use Rattle.choice.proofs.Numbers.{by_same}
use Rattle.report.specs.Table.{upto}

module _ {A : Type 0} where
  pub length_upto : (f : ℕ → A) (n : ℕ) → length (upto n f) ≡ n
  unfolding upto
  length_upto f zero = refl
  length_upto f (suc n) =
      length-append (upto n f) (f n ∷ []) ∙ ap (λ (k : ℕ). k + 1) (length_upto f n) ∙ add-one n

  pub upto_at : (f : ℕ → A) (n i : ℕ) (d : A) → i < n → get_or (upto n f) i d ≡ f i
  unfolding upto
  upto_at f zero i d h = absurd (not-suc-le-zero h)
  upto_at f (suc n) i d h =
      ⊎_elim
      (λ (q : i ≡ n). get_or_at (upto n f) (f n) [] d i (length_upto f n ∙ sym q) ∙ ap f (sym q))
      (λ (l : i < n).
      get_or-append (upto n f) (f n ∷ []) d i (subst (λ (k : ℕ). i < k) (sym (length_upto f n)) l)
      ∙ upto_at f n i d l)
      (eq-or-lt_of_le (le_of_suc-le-suc h))

  pub upto_same : (f g : ℕ → A) (n : ℕ) → ((i : ℕ) → i < n → f i ≡ g i) → upto n f ≡ upto n g
  unfolding upto
  upto_same f g zero h = refl
  upto_same f g (suc n) h =
      ap (λ (xs : List A). xs ++ (f n ∷ [])) (upto_same f g n (λ i l. h i (omega arith)))
      ∙ ap (λ (x : A). upto n g ++ (x ∷ [])) (h n (omega arith))

  -- a list whose things are those, by their place
  upto_is : (f : ℕ → A) (xs : List A) (d : A) → ((i : ℕ) → i < length xs → get_or xs i d ≡ f i)
      → xs ≡ upto (length xs) f
  upto_is f xs d h =
      ext_get_or d xs (upto (length xs) f) (sym (length_upto f (length xs)))
      (λ i l. h i l ∙ sym (upto_at f (length xs) i d l))

  -- n things, each of which is that of its place
  pub upto_all : (f : ℕ → A) (n : ℕ) (xs : List A) (d : A) → length xs ≡ n → ((i : ℕ) → i < n → get_or xs i d ≡ f i) → xs ≡ upto n f
  upto_all f n xs d e h =
      upto_is f xs d (λ i l. h i (subst (λ (k : ℕ). i < k) e l)) ∙ ap (λ (k : ℕ). upto k f) e

  pub set_upto :
      (f : ℕ → A) (n p : ℕ) (v : A) → p < n → set (upto n f) p v ≡ upto n (λ i. cond (eqb i p) v (f i))
  set_upto f n p v h =
      upto_is (λ i. cond (eqb i p) v (f i)) (set (upto n f) p v) v (λ i l.
      let within : i < n = subst (λ (k : ℕ). i < k) size l in
      by_same (λ (j : ℕ). j < n → get_or (set (upto n f) p v) j v ≡ cond (eqb j p) v (f j)) p
      (λ k.
      get_or-set_same (upto n f) p v v (subst (λ (m : ℕ). p < m) (sym (length_upto f n)) h)
      ∙ sym (ap (λ (b : Bool). cond b v (f p)) (eq-eqb p p refl)))
      (λ j other k.
      get_or-set_other (upto n f) p j v v other
      ∙ upto_at f n j v k
      ∙ sym (ap (λ (b : Bool). cond b v (f j)) (ne_eqb j p other)))
      i within)
      ∙ ap (λ (m : ℕ). upto m (λ i. cond (eqb i p) v (f i))) size
    where
      size : length (set (upto n f) p v) ≡ n
      size = length-set (upto n f) p v ∙ length_upto f n
