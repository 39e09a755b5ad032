-- A processor's latest join, found in the calls.
--     Join, join_found     the call that it is
--     unjoined             no join since, and none by the next call that is none
-- Assumes nothing.
use Prim.Native.Nat.{ℕ, zero, suc}
use native.Mathlib.Nat.{suc_inj, suc-ne-zero}
use mathlib.Core.Path.{◌≡◌, refl, sym, ap, ◌∙◌, subst}
use mathlib.Core.Bool.{Bool, true, false, cond}
use mathlib.Core.List.{List, [], ◌∷◌, ◌++◌}
use lib.ListN.{take, drop}
use lib.Dec.{eqb, eqb-suc-zero}
use Rattle.lock.specs.declared.LockState.{LockState}
use Rattle.lock.specs.Run.{Call, after, run, joins}
use Rattle.lock.specs.Count.{count_in, joins_in, latest_join}
use Rattle.lock.proofs.Waiting.Counting.{count_no}
use Rattle.report.proofs.Charging.{count_last, reaches}

-- the number of the latest join of c and the calls after it, by that among those
abbrev with_first : Bool → ℕ → ℕ
with_first j further = cond (eqb further 0) (cond j 1 0) (suc further)

later : (j : Bool) (f : ℕ) → with_first j (suc f) ≡ suc (suc f)
later j f = ap (λ (t : Bool). cond t (cond j 1 0) (suc (suc f))) (eqb-suc-zero f)

-- call number m + 1 is a join of b
pub record Join (s : LockState) (cs : List Call) (b m : ℕ) : Type 0 where
  pub join : Call
  pub begins : take (suc m) cs ≡ take m cs ++ join ∷ []
  pub joined : joins (run s (take m cs)) join b ≡ true

found_by :
    (s : LockState) (c : Call) (cs : List Call) (b m : ℕ) (j : Bool) (f : ℕ) → joins s c b ≡ j
    → ((k : ℕ) → f ≡ suc k → Join (after s c) cs b k) → with_first j f ≡ suc m → Join s (c ∷ cs) b m
unfolding run
found_by s c cs b m true zero e rec is =
    subst (Join s (c ∷ cs) b) (suc_inj is) (record { join = c; begins = refl; joined = e })
found_by s c cs b m false zero e rec is = absurd (suc-ne-zero m (sym is))
found_by s c cs b m j (suc f) e rec is =
    let r = rec f refl in
    subst (Join s (c ∷ cs) b) (suc_inj (sym (later j f) ∙ is))
    (record { join = r.join; begins = ap (λ (ds : List Call). c ∷ ds) r.begins; joined = r.joined })

pub join_found : (s : LockState) (cs : List Call) (b m : ℕ) → latest_join s cs b ≡ suc m → Join s cs b m
unfolding latest_join
join_found s [] b m is = absurd (suc-ne-zero m (sym is))
join_found s (c ∷ cs) b m is =
    found_by s c cs b m (joins s c b) (latest_join (after s c) cs b) refl (λ k h. join_found (after s c) cs b k h) is

-- the joins of b after call number k
abbrev joins_after : LockState → List Call → ℕ → ℕ → ℕ
joins_after s cs k b = joins_in (run s (take k cs)) (drop k cs) b

none_by :
    (s : LockState) (c : Call) (cs : List Call) (b : ℕ) (j : Bool) (f : ℕ) → joins s c b ≡ j
    → joins_after (after s c) cs f b ≡ 0 → joins_after s (c ∷ cs) (with_first j f) b ≡ 0
unfolding run joins_in
none_by s c cs b true zero e none = none
none_by s c cs b false zero e none = count_no (λ t d. joins t d b) s c cs e ∙ none
none_by s c cs b j (suc f) e none =
    subst (λ (k : ℕ). joins_after s (c ∷ cs) k b ≡ 0) (sym (later j f)) none

none_since : (s : LockState) (cs : List Call) (b : ℕ) → joins_after s cs (latest_join s cs b) b ≡ 0
unfolding latest_join joins_in count_in
none_since s [] b = refl
none_since s (c ∷ cs) b =
    none_by s c cs b (joins s c b) (latest_join (after s c) cs b) refl (none_since (after s c) cs b)

pub unjoined :
    (s : LockState) (cs : List Call) (c : Call) (b : ℕ) → joins (run s cs) c b ≡ false
    → joins_in (run s (take (latest_join s cs b) cs)) (drop (latest_join s cs b) cs ++ c ∷ []) b ≡ 0
unfolding joins_in
unjoined s cs c b e =
    let k : ℕ = latest_join s cs b in
    let n : ℕ = joins_after s cs k b in
    count_last (λ t d. joins t d b) (run s (take k cs)) (drop k cs) c
    ∙ ap (λ (t : LockState). cond (joins t c b) (suc n) n) (reaches s cs k)
    ∙ ap (λ (t : Bool). cond t (suc n) n) e
    ∙ none_since s cs b
