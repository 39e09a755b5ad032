-- Sums that wrap at 256, and the check that brings one to 0.
--     sum_below          a sum is below 256
--     sum_of_last        one value more at the end is one addition more
--     sum_folded         a fold by wrapping additions is the sum
--     sum_with_check     the check brings the sum to 0
--     check_is_only      and no other byte does
--     negated_is_check   what is 0 with the sum is the check
-- Assumes nothing.
use Rattle.std.proofs.Common.{◌≡◌, ℕ, ◌+◌, ◌-◌, ◌%◌, ◌<◌, List, [], ◌∷◌, ◌++◌, fold, sym, ap, ◌∙◌, add_assoc, arith}
use native.Mathlib.Nat.{mod-add-mod, add-mod-mod}
use Rattle.frame.specs.Pairs.{sum_of, check_of}

pub sum_below : (vs : List ℕ) → sum_of vs < 256
unfolding sum_of
sum_below [] = omega arith
sum_below (v ∷ vs) = omega arith

pub sum_of_last : (vs : List ℕ) (c : ℕ) → sum_of (vs ++ (c ∷ [])) ≡ (sum_of vs + c) % 256
unfolding sum_of
sum_of_last [] c = omega arith
sum_of_last (v ∷ vs) c =
    ap (λ n. (v + n) % 256) (sum_of_last vs c)
    ∙ add-mod-mod v (sum_of vs + c) 256
    ∙ ap (λ n. n % 256) (sym (add_assoc v (sum_of vs) c))
    ∙ sym (mod-add-mod (v + sum_of vs) 256 c)

sums_folded : (vs : List ℕ) (t : ℕ) → t < 256 → fold (λ (t v : ℕ). (t + v) % 256) t vs ≡ (t + sum_of vs) % 256
unfolding sum_of
sums_folded [] t h = omega arith
sums_folded (v ∷ vs) t h =
    sums_folded vs ((t + v) % 256) (omega arith)
    ∙ mod-add-mod (t + v) 256 (sum_of vs)
    ∙ ap (λ n. n % 256) (add_assoc t v (sum_of vs))
    ∙ sym (add-mod-mod t (v + sum_of vs) 256)

pub sum_folded : (vs : List ℕ) → fold (λ (t v : ℕ). (t + v) % 256) 0 vs ≡ sum_of vs
sum_folded vs = sums_folded vs 0 (omega arith) ∙ (let bound = sum_below vs in omega arith)

zero_sum : (s : ℕ) → s < 256 → (s + (256 - s) % 256) % 256 ≡ 0
zero_sum s h = omega arith

pub sum_with_check : (vs : List ℕ) → sum_of (vs ++ (check_of vs ∷ [])) ≡ 0
unfolding check_of
sum_with_check vs = sum_of_last vs (check_of vs) ∙ zero_sum (sum_of vs) (sum_below vs)

only_check : (s c : ℕ) → s < 256 → c < 256 → (s + c) % 256 ≡ 0 → c ≡ (256 - s) % 256
only_check s c hs hc e = omega arith

pub check_is_only : (vs : List ℕ) (c : ℕ) → c < 256 → sum_of (vs ++ (c ∷ [])) ≡ 0 → c ≡ check_of vs
unfolding check_of
check_is_only vs c h e = only_check (sum_of vs) c (sum_below vs) h (sym (sum_of_last vs c) ∙ e)

pub negated_is_check : (vs : List ℕ) (c : ℕ) → c < 256 → (c + sum_of vs) % 256 ≡ 0 → c ≡ check_of vs
unfolding check_of
negated_is_check vs c h e = let bound = sum_below vs in omega arith
