-- What specs/AtMost claims, from the lock's claims on a last join.
--     charged_once            from the join that led to an entry up to it, every processor enters at most once
--     no_more_than_entries    so all entries of b together charge a pair at most once each
--     diagonal_is_zero        who enters stays in the queue from its latest join on, so it makes no entry there; and where there
--                             is no queue there are no joins
-- Assumes nothing.
use Prim.Native.Nat.{ℕ, zero, suc, ◌+◌, ◌*◌, ◌≤◌, zero-le}
use native.Mathlib.Nat.{mul-suc, le_of_eq}
use native.Mathlib.Omega.{arith}
use mathlib.Core.Path.{◌≡◌, refl, sym, ap, ◌∙◌, subst}
use mathlib.Core.Bool.{Bool, true, false, cond, not}
use mathlib.Core.List.{List, [], ◌∷◌, ◌++◌}
use lib.ListN.{take, drop, take-append-drop}
use lib.Seq.{append_snoc}
use lib.Dec.{eqb}
use borrow.Author.Tests.{eqb-true}
use Rattle.choice.proofs.Tests.{clash, by_test}
use Rattle.lock.specs.declared.LockState.{LockState}
use Rattle.lock.specs.State.{old, is_old, fresh_state}
use Rattle.lock.specs.Run.{Call, after, run, joins, enters}
use Rattle.lock.specs.Count.{count_in, joins_in, entries_in, latest_join}
use Rattle.lock.specs.Claims.{Ordered, reached, LastJoin}
use Rattle.lock.proofs.Waiting.Counting.{latest_without_joins}
use Rattle.lock.proofs.Waiting.Demand.{run_last, queue_reached}
use Rattle.lock.proofs.Waiting.Staying.{queued_to_entry}
use Rattle.lock.proofs.Waiting.Standing.{queued_no_entry}
use Rattle.lock.proofs.Roof.Claimed.{once_since_last_join}
use Rattle.lock.proofs.Roof.Old.{old_has_no_joins}
use Rattle.report.specs.Charges.{entries_after, charge, charges_from, charges}
use Rattle.report.specs.Accounts.{pending_in, joined_in}
use Rattle.report.specs.AtMost.{ChargedOnce, NoMoreThanEntries, DiagonalIsZero}
use Rattle.report.proofs.Charging.{reaches, charge_at}
use Rattle.report.proofs.Latest.{join_found, unjoined}

-- a charge is nothing, or what is pending since an earlier join
by_charge :
    (P : ℕ → Type 0) (s : LockState) (before : List Call) (entry : Call) (a b : ℕ) → P 0
    → (joins (run s before) entry b ≡ false → joined_in s before b ≡ true → P (pending_in s before a b))
    → P (charge s before entry a b)
by_charge P s before entry a b nothing earlier =
    subst P (sym (charge_at s before entry a b))
    (by_test P (joins (run s before) entry b) (λ j. nothing)
    (λ j. by_test P (joined_in s before b) (λ h. earlier j h) (λ h. nothing)))

-- ---- once

module _
    (e n : ℕ) (before : List Call) (entry : Call) (a b : ℕ) (ordered : Ordered e n)
    (entered : enters (reached e n before) entry b ≡ true)
    (none : joins (reached e n before) entry b ≡ false) where
  abbrev s : LockState
  s = fresh_state e n

  at_most_once : (k : ℕ) → latest_join s before b ≡ k → not (eqb k 0) ≡ true → entries_after s before k a ≤ 1
  at_most_once zero is some = clash some refl
  at_most_once (suc m) is some =
      let f = join_found s before b m is in
      let split : before ≡ take m before ++ f.join ∷ drop (suc m) before =
      sym (take-append-drop (suc m) before)
      ∙ ap (λ (cs : List Call). cs ++ drop (suc m) before) f.begins
      ∙ append_snoc (take m before) f.join (drop (suc m) before) in
      let last : LastJoin e n (take m before) f.join (drop (suc m) before) entry b = record {
        ordered = ordered;
        joined = f.joined;
        entered = subst (λ (cs : List Call). enters (run s cs) entry b ≡ true) split entered;
        last =
            subst (λ (cs : List Call). joins_in (run s cs) (drop (suc m) before ++ entry ∷ []) b ≡ 0) f.begins
            (subst (λ (k : ℕ). joins_in (run s (take k before)) (drop k before ++ entry ∷ []) b ≡ 0) is
            (unjoined s before entry b none));
      } in
      subst (λ (cs : List Call). entries_in (run s cs) (drop (suc m) before) a ≤ 1) (sym f.begins)
      (once_since_last_join e n (take m before) f.join (drop (suc m) before) entry b last a)

pub charged_once : ChargedOnce
charged_once e n before entry a b ordered entered =
    by_charge (λ (k : ℕ). k ≤ 1) (fresh_state e n) before entry a b zero-le
    (λ none some.
    at_most_once e n before entry a b ordered entered none (latest_join (fresh_state e n) before b) refl some)

-- ---- not for its own entries

none_own :
    (e n : ℕ) (before : List Call) (entry : Call) (b : ℕ) (o : Bool) → is_old e ≡ o
    → enters (reached e n before) entry b ≡ true → charge (fresh_state e n) before entry b b ≡ 0
unfolding run latest_join
none_own e n before entry b true is entered =
    by_charge (λ (k : ℕ). k ≡ 0) (fresh_state e n) before entry b b refl
    (λ none some.
    clash some
    (ap (λ (k : ℕ). not (eqb k 0))
    (latest_without_joins (fresh_state e n) [] before b
    (subst (λ (i : ℕ). joins_in (fresh_state i n) before b ≡ 0) (sym (eqb-true e old is)) (old_has_no_joins n before b)))))
none_own e n before entry b false is entered =
    by_charge (λ (k : ℕ). k ≡ 0) (fresh_state e n) before entry b b refl
    (λ none some.
    let k : ℕ = latest_join (fresh_state e n) before b in
    queued_no_entry (reached e n (take k before)) (drop k before) b
    (queued_to_entry (reached e n (take k before)) (drop k before) entry b (queue_reached e n (take k before) is)
    (unjoined (fresh_state e n) before entry b none)
    (subst (λ (t : LockState). enters t entry b ≡ true) (sym (reaches (fresh_state e n) before k)) entered)))

-- ---- all entries together

-- where each entry charges at most m, all together charge at most m for each
all_at_most :
    (s : LockState) (a b m : ℕ)
    → ((before : List Call) (entry : Call) → enters (run s before) entry b ≡ true → charge s before entry a b ≤ m)
    → (before later : List Call) → charges_from s before later a b ≤ m * entries_in (run s before) later b
unfolding charges_from entries_in count_in
all_at_most s a b m each before [] = zero-le
all_at_most s a b m each before (c ∷ later) =
    let k : ℕ = entries_in (after (run s before) c) later b in
    let more : charges_from s (before ++ c ∷ []) later a b ≤ m * k =
    subst (λ (t : LockState). charges_from s (before ++ c ∷ []) later a b ≤ m * entries_in t later b) (run_last s before c)
    (all_at_most s a b m each (before ++ c ∷ []) later) in
    let product : m * suc k ≡ m * k + m = mul-suc m k in
    by (enters (run s before) c b) refl more product
  where
    by : (t : Bool) → enters (run s before) c b ≡ t
        → charges_from s (before ++ c ∷ []) later a b ≤ m * entries_in (after (run s before) c) later b
        → m * suc (entries_in (after (run s before) c) later b) ≡ m * entries_in (after (run s before) c) later b + m
        → cond t (charge s before c a b) 0 + charges_from s (before ++ c ∷ []) later a b
        ≤ m * cond t (suc (entries_in (after (run s before) c) later b)) (entries_in (after (run s before) c) later b)
    by true e more product = omega (arith, more, product, each before c e)
    by false e more product = omega (arith, more)

pub no_more_than_entries : NoMoreThanEntries
unfolding run
no_more_than_entries e n calls a b ordered =
    let all : charges (fresh_state e n) calls a b ≤ 1 * entries_in (fresh_state e n) calls b =
    all_at_most (fresh_state e n) a b 1 (λ before entry. charged_once e n before entry a b ordered) [] calls in
    omega arith

pub diagonal_is_zero : DiagonalIsZero
unfolding run
diagonal_is_zero e n calls b =
    let all : charges (fresh_state e n) calls b b ≤ 0 * entries_in (fresh_state e n) calls b =
    all_at_most (fresh_state e n) b b 0
    (λ before entry h. le_of_eq (none_own e n before entry b (is_old e) refl h)) [] calls in
    omega arith
