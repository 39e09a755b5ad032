-- Laws of what Count counts, over any run; nothing here knows what a call does.
--     run_append                      a run goes on where the first part ended
--     tickets_of                      the tickets after a run
--     count_yes, count_no             one more call
--     count_none                      where nothing is counted, not in the first call and not in the rest
--     count_append                    a count goes on where the first part ended
--     count_there                     what passes the test within the calls is counted
--     until_entry_has_none            up to its first entry a processor makes none
--     latest_without_joins            further calls without a join of q leave its latest join
--     latest_within                   the number of a latest join is at most the number of calls
--     total_bound                     of n numbers at most 1, one of them 0, the sum is at most n - 1
use Prim.Native.Nat.{ℕ, zero, suc, ◌+◌, ◌-◌, ◌≤◌, ◌<◌}
use native.Mathlib.Nat.{not-suc-le-zero}
use native.Mathlib.Omega.{arith}
use mathlib.Core.Path.{◌≡◌, refl, sym, ap, ◌∙◌, subst}
use mathlib.Core.Bool.{Bool, true, false, cond}
use mathlib.Core.List.{List, [], ◌∷◌, ◌++◌}
use mathlib.Core.Logic.{◌≢◌}
use lib.ListN.{length}
use lib.Dec.{eqb}
use borrow.Author.Tests.{eqb-true, eqb-false}
use Rattle.lock.specs.declared.LockState.{LockState}
use Rattle.lock.specs.Run.{Call, after, run, joins, enters}
use Rattle.lock.specs.Count.{count_in, joins_in, entries_in, latest_join, until_entry}
use Rattle.lock.proofs.Order.Tickets.{Tickets, ticketed}

pub run_append : (s : LockState) (xs ys : List Call) → run s (xs ++ ys) ≡ run (run s xs) ys
unfolding run
run_append s [] ys = refl
run_append s (c ∷ xs) ys = run_append (after s c) xs ys

-- the tickets after a run
unfoldable pub tickets_of : LockState → Tickets → List Call → Tickets
tickets_of s g [] = g
tickets_of s g (c ∷ cs) = tickets_of (after s c) (ticketed s g c) cs

module _ (test : LockState → Call → Bool) where
  pub count_yes :
      (s : LockState) (c : Call) (cs : List Call) → test s c ≡ true
      → count_in test s (c ∷ cs) ≡ suc (count_in test (after s c) cs)
  unfolding count_in
  count_yes s c cs e = ap (λ b. cond b (suc (count_in test (after s c) cs)) (count_in test (after s c) cs)) e

  pub count_no :
      (s : LockState) (c : Call) (cs : List Call) → test s c ≡ false
      → count_in test s (c ∷ cs) ≡ count_in test (after s c) cs
  unfolding count_in
  count_no s c cs e = ap (λ b. cond b (suc (count_in test (after s c) cs)) (count_in test (after s c) cs)) e

  count_none_by : (s : LockState) (c : Call) (cs : List Call) (b : Bool) → test s c ≡ b → count_in test s (c ∷ cs) ≡ 0
      → (test s c ≡ false) × (count_in test (after s c) cs ≡ 0)
  count_none_by s c cs true e h =
      let more : count_in test s (c ∷ cs) ≡ suc (count_in test (after s c) cs) = count_yes s c cs e in absurd
      (omega arith)
  count_none_by s c cs false e h = (e, sym (count_no s c cs e) ∙ h)

  pub count_none :
      (s : LockState) (c : Call) (cs : List Call) → count_in test s (c ∷ cs) ≡ 0
      → (test s c ≡ false) × (count_in test (after s c) cs ≡ 0)
  count_none s c cs h = count_none_by s c cs (test s c) refl h

  count_grows_by :
      (s : LockState) (c : Call) (cs : List Call) (b : Bool) → test s c ≡ b
      → count_in test (after s c) cs ≤ count_in test s (c ∷ cs)
  count_grows_by s c cs true e =
      let more : count_in test s (c ∷ cs) ≡ suc (count_in test (after s c) cs) = count_yes s c cs e in omega arith
  count_grows_by s c cs false e =
      let same : count_in test s (c ∷ cs) ≡ count_in test (after s c) cs = count_no s c cs e in omega arith

  pub count_grows : (s : LockState) (c : Call) (cs : List Call) → count_in test (after s c) cs ≤ count_in test s (c ∷ cs)
  count_grows s c cs = count_grows_by s c cs (test s c) refl

  pub count_append :
      (s : LockState) (xs ys : List Call) → count_in test s (xs ++ ys) ≡ count_in test s xs + count_in test (run s xs) ys
  unfolding count_in run
  count_append s [] ys = omega arith
  count_append s (c ∷ xs) ys = by (test s c) _ _ _ (count_append (after s c) xs ys)
    where
      by : (b : Bool) (x y z : ℕ) → x ≡ y + z → cond b (suc x) x ≡ cond b (suc y) y + z
      by true x y z e = omega arith
      by false x y z e = e

  pub count_there :
      (s : LockState) (seen : List Call) (c : Call) (unseen : List Call) → test (run s seen) c ≡ true
      → 1 ≤ count_in test s (seen ++ c ∷ unseen)
  unfolding run
  count_there s [] c unseen e =
      let more : count_in test s (c ∷ unseen) ≡ suc
      (count_in test (after s c) unseen) = count_yes s c unseen e in omega arith
  count_there s (d ∷ seen) c unseen e =
      let more : count_in test (after s d) (seen ++ c ∷ unseen) ≤ count_in test s (d ∷ (seen ++ c ∷ unseen)) =
      count_grows s d (seen ++ c ∷ unseen) in
      let there : 1 ≤ count_in test (after s d) (seen ++ c ∷ unseen) = count_there (after s d) seen c unseen e in
      omega arith

until_entry_by : (s : LockState) (c : Call) (cs : List Call) (p : ℕ) (b : Bool) → enters s c p ≡ b
    → entries_in (after s c) (until_entry (after s c) cs p) p ≡ 0 → entries_in s (until_entry s (c ∷ cs) p) p ≡ 0
unfolding until_entry entries_in count_in
until_entry_by s c cs p true e h =
    ap (λ b. count_in (λ t d. enters t d p) s (cond b [] (c ∷ until_entry (after s c) cs p))) e
until_entry_by s c cs p false e h =
    ap (λ b. count_in (λ t d. enters t d p) s (cond b [] (c ∷ until_entry (after s c) cs p))) e
    ∙ count_no (λ t d. enters t d p) s c (until_entry (after s c) cs p) e ∙ h

pub until_entry_has_none : (s : LockState) (cs : List Call) (p : ℕ) → entries_in s (until_entry s cs p) p ≡ 0
unfolding until_entry entries_in count_in
until_entry_has_none s [] p = refl
until_entry_has_none s (c ∷ cs) p = until_entry_by s c cs p (enters s c p) refl (until_entry_has_none (after s c) cs p)

-- ---- the latest join

-- no join in the calls: no latest one
latest_none : (s : LockState) (cs : List Call) (q : ℕ) → joins_in s cs q ≡ 0 → latest_join s cs q ≡ 0
unfolding latest_join joins_in count_in
latest_none s [] q h = refl
latest_none s (c ∷ cs) q h =
    let none : (joins s c q ≡ false) × (joins_in (after s c) cs q ≡ 0) = count_none (λ t d. joins t d q) s c cs h in
    ap (λ m. cond (eqb m 0) (cond (joins s c q) 1 0) (suc m)) (latest_none (after s c) cs q none.1) ∙ ap
    (λ b. cond b 1 0) none.0

pub latest_without_joins :
    (s : LockState) (xs ys : List Call) (q : ℕ) → joins_in (run s xs) ys q ≡ 0
    → latest_join s (xs ++ ys) q ≡ latest_join s xs q
unfolding latest_join run
latest_without_joins s [] ys q h = latest_none s ys q h
latest_without_joins s (c ∷ xs) ys q h =
    ap (λ m. cond (eqb m 0) (cond (joins s c q) 1 0) (suc m)) (latest_without_joins (after s c) xs ys q h)

chosen_within : (m k : ℕ) (a b : Bool) → m ≤ k → cond a (cond b 1 0) (suc m) ≤ suc k
chosen_within m k true true h = omega arith
chosen_within m k true false h = omega arith
chosen_within m k false b h = omega arith

pub latest_within : (s : LockState) (xs : List Call) (q : ℕ) → latest_join s xs q ≤ length xs
unfolding latest_join
latest_within s [] q = omega arith
latest_within s (c ∷ xs) q =
    chosen_within (latest_join (after s c) xs q) (length xs) (eqb (latest_join (after s c) xs q) 0) (joins s c q)
    (latest_within (after s c) xs q)

-- ---- sums over the processors

unfoldable pub total : ℕ → (ℕ → ℕ) → ℕ
total zero f = 0
total (suc m) f = total m f + f m

pub total_mono : (n : ℕ) (f g : ℕ → ℕ) → ((q : ℕ) → f q ≤ g q) → total n f ≤ total n g
unfolding total
total_mono zero f g h = omega arith
total_mono (suc m) f g h =
    let rest : total m f ≤ total m g = total_mono m f g h in
    let last : f m ≤ g m = h m in
    omega arith

total_raised_by : (m : ℕ) (f g : ℕ → ℕ) (r : ℕ) (b : Bool) → eqb r m ≡ b → ((q : ℕ) → f q ≤ g q) → f r < g r → r < suc m
    → (r < m → total m f < total m g) → total (suc m) f < total (suc m) g
unfolding total
total_raised_by m f g r true e h up within rec =
    let same : r ≡ m = eqb-true r m e in
    let rest : total m f ≤ total m g = total_mono m f g h in
    let last : f m < g m = subst (λ i. f i < g i) same up in
    omega arith
total_raised_by m f g r false e h up within rec =
    let other : r ≢ m = eqb-false r m e in
    let rest : total m f < total m g = rec (omega arith) in
    let last : f m ≤ g m = h m in
    omega arith

pub total_raised : (n : ℕ) (f g : ℕ → ℕ) (r : ℕ) → ((q : ℕ) → f q ≤ g q) → f r < g r → r < n → total n f < total n g
total_raised zero f g r h up within = absurd (not-suc-le-zero within)
total_raised (suc m) f g r h up within =
    total_raised_by m f g r (eqb r m) refl h up within (λ below. total_raised m f g r h up below)

total_ones : (n : ℕ) (f : ℕ → ℕ) → ((q : ℕ) → f q ≤ 1) → total n f ≤ n
unfolding total
total_ones zero f h = omega arith
total_ones (suc m) f h = let rest : total m f ≤ m = total_ones m f h in let last : f m ≤ 1 = h m in omega arith

total_bound_by : (m : ℕ) (f : ℕ → ℕ) (p : ℕ) (b : Bool) → eqb p m ≡ b → ((q : ℕ) → f q ≤ 1) → f p ≡ 0 → p < suc m
    → (p < m → total m f ≤ m - 1) → total (suc m) f ≤ suc m - 1
unfolding total
total_bound_by m f p true e h nil within rec =
    let rest : total m f ≤ m = total_ones m f h in
    let last : f m ≡ 0 = subst (λ i. f i ≡ 0) (eqb-true p m e) nil in
    omega arith
total_bound_by m f p false e h nil within rec =
    let other : p ≢ m = eqb-false p m e in
    let rest : total m f ≤ m - 1 = rec (omega arith) in
    let last : f m ≤ 1 = h m in
    omega arith

pub total_bound : (n : ℕ) (f : ℕ → ℕ) (p : ℕ) → ((q : ℕ) → f q ≤ 1) → f p ≡ 0 → p < n → total n f ≤ n - 1
total_bound zero f p h nil within = absurd (not-suc-le-zero within)
total_bound (suc m) f p h nil within =
    total_bound_by m f p (eqb p m) refl h nil within (λ below. total_bound m f p h nil below)
