-- The equations a reader expects of what Count counts; no proof here needs them.
--     latest_last        one more call: its number if it is q's join, otherwise the latest join is as it was
--     until_entry_is     the calls up to an entry of p, where p makes no earlier one
--     between_is         the calls between a join and an entry of p, where p makes no earlier one
--     between_one_step   nothing is between where join and entry are one step
use Prim.Native.Nat.{ℕ, suc}
use mathlib.Core.Path.{◌≡◌, refl, ap, ◌∙◌}
use mathlib.Core.Bool.{Bool, true, false, cond}
use mathlib.Core.List.{List, [], ◌∷◌, ◌++◌}
use lib.ListN.{length}
use lib.Dec.{eqb, eqb-suc-zero}
use Rattle.lock.specs.declared.LockState.{LockState}
use Rattle.lock.specs.Run.{Call, after, run, joins, enters}
use Rattle.lock.specs.Count.{entries_in, latest_join, until_entry, between}
use Rattle.lock.proofs.Waiting.Counting.{count_none}

-- in front of a latest join whose number is known, by whether the last call is the join
latest_last_by :
    (m k x : ℕ) (b : Bool)
    → cond (eqb (cond b (suc m) k) 0) x (suc (cond b (suc m) k)) ≡ cond b (suc (suc m)) (cond (eqb k 0) x (suc k))
latest_last_by m k x true = ap (λ b. cond b x (suc (suc m))) (eqb-suc-zero m)
latest_last_by m k x false = refl

pub latest_last :
    (s : LockState) (cs : List Call) (c : Call) (q : ℕ)
    → latest_join s (cs ++ c ∷ []) q ≡ cond (joins (run s cs) c q) (suc (length cs)) (latest_join s cs q)
unfolding latest_join run
latest_last s [] c q = refl
latest_last s (d ∷ cs) c q =
    ap (λ m. cond (eqb m 0) (cond (joins s d q) 1 0) (suc m)) (latest_last (after s d) cs c q)
    ∙ latest_last_by (length cs) (latest_join (after s d) cs q) (cond (joins s d q) 1 0) (joins (run (after s d) cs) c q)

pub until_entry_is :
    (s : LockState) (wait : List Call) (entry : Call) (rest : List Call) (p : ℕ)
    → entries_in s wait p ≡ 0 → enters (run s wait) entry p ≡ true → until_entry s (wait ++ entry ∷ rest) p ≡ wait
unfolding until_entry entries_in run
until_entry_is s [] entry rest p none e = ap (λ b. cond b [] (entry ∷ until_entry (after s entry) rest p)) e
until_entry_is s (c ∷ wait) entry rest p none e =
    let first : (enters s c p ≡ false) × (entries_in (after s c) wait p ≡ 0) =
    count_none (λ t d. enters t d p) s c wait none in
    ap (λ b. cond b [] (c ∷ until_entry (after s c) (wait ++ entry ∷ rest) p)) first.0
    ∙ ap (λ ds. c ∷ ds) (until_entry_is (after s c) wait entry rest p first.1 e)

pub between_is :
    (s : LockState) (join : Call) (wait : List Call) (entry : Call) (rest : List Call) (p : ℕ)
    → enters s join p ≡ false → entries_in (after s join) wait p ≡ 0 → enters (run (after s join) wait) entry p ≡ true
    → between s join (wait ++ entry ∷ rest) p ≡ wait
unfolding between
between_is s join wait entry rest p not_yet none e =
    ap (λ b. cond b [] (until_entry (after s join) (wait ++ entry ∷ rest) p)) not_yet ∙ until_entry_is
    (after s join) wait entry rest p none e

pub between_one_step :
    (s : LockState) (join : Call) (later : List Call) (p : ℕ) → enters s join p ≡ true → between s join later p ≡ []
unfolding between
between_one_step s join later p e = ap (λ b. cond b [] (until_entry (after s join) later p)) e
