-- What one more call changes in what is counted, and how large it can get; for any run from any state.
--     count_last        a count, after one more call
--     reaches           the calls up to a number, then the others
--     joined_after      whether b has joined, after one more call
--     pending_after     a's entries since b's latest join, after one more call
--     charge_at         what a call charges if it is an entry: what is pending, unless it is b's join itself or b never joined
--     charges_last      the charges, after one more call
--     counted_within, pending_within     at most one for each call
--     charges_within    at most one for each pair of calls
-- Assumes nothing.
use Prim.Native.Nat.{ℕ, suc, ◌+◌, ◌-◌, ◌*◌, ◌≤◌}
use native.Mathlib.Nat.{suc-mul}
use native.Mathlib.Omega.{arith}
use mathlib.Core.Path.{◌≡◌, refl, sym, ap, ◌∙◌}
use mathlib.Core.Bool.{Bool, true, false, cond, not, ◌||◌}
use mathlib.Core.List.{List, [], ◌∷◌, ◌++◌, append-nil}
use lib.ListN.{length, take, drop, take-append-drop, drop_of_length-le, length-append, length-drop}
use lib.Seq.{take-append-le, drop-append-le, append_snoc}
use lib.Dec.{eqb, eqb-suc-zero}
use Rattle.choice.proofs.Tests.{by_either}
use Rattle.lock.specs.declared.LockState.{LockState}
use Rattle.lock.specs.Run.{Call, after, run, joins, enters}
use Rattle.lock.specs.Count.{count_in, entries_in, latest_join}
use Rattle.lock.proofs.Waiting.Counting.{run_append, count_append, latest_within}
use Rattle.lock.proofs.Waiting.Reading.{latest_last}
use Rattle.report.specs.Charges.{entries_after, charge, charges_from, charges}
use Rattle.report.specs.Accounts.{pending_in, joined_in}

pub count_last :
    (test : LockState → Call → Bool) (s : LockState) (cs : List Call) (c : Call)
    → count_in test s (cs ++ c ∷ []) ≡ cond (test (run s cs) c) (suc (count_in test s cs)) (count_in test s cs)
unfolding count_in
count_last test s cs c = count_append test s cs (c ∷ []) ∙ by (test (run s cs) c) (count_in test s cs)
  where
    by : (b : Bool) (n : ℕ) → n + cond b 1 0 ≡ cond b (suc n) n
    by true n = omega arith
    by false n = omega arith

pub reaches : (s : LockState) (cs : List Call) (k : ℕ) → run (run s (take k cs)) (drop k cs) ≡ run s cs
reaches s cs k = sym (run_append s (take k cs) (drop k cs)) ∙ ap (run s) (take-append-drop k cs)

-- no call is after the last one
none_after : (s : LockState) (cs : List Call) (k a : ℕ) → length cs ≤ k → entries_after s cs k a ≡ 0
unfolding entries_in count_in
none_after s cs k a h =
    ap (λ (ds : List Call). entries_in (run s (take k cs)) ds a) (drop_of_length-le cs {i = k} h)

-- one call more after number k
one_after :
    (s : LockState) (before : List Call) (c : Call) (k a : ℕ) → k ≤ length before
    → entries_after s (before ++ c ∷ []) k a
    ≡ cond (enters (run s before) c a) (suc (entries_after s before k a)) (entries_after s before k a)
unfolding entries_in
one_after s before c k a h =
    ap (λ (ds : List Call). entries_in (run s ds) (drop k (before ++ c ∷ [])) a) (take-append-le k before (c ∷ []) h)
    ∙ ap (λ (ds : List Call). entries_in (run s (take k before)) ds a) (drop-append-le k before (c ∷ []) h)
    ∙ count_last (λ t d. enters t d a) (run s (take k before)) (drop k before) c
    ∙ ap (λ (t : LockState). cond (enters t c a) (suc (entries_after s before k a)) (entries_after s before k a))
    (reaches s before k)

pub joined_after :
    (s : LockState) (before : List Call) (c : Call) (b : ℕ)
    → joined_in s (before ++ c ∷ []) b ≡ (joined_in s before b || joins (run s before) c b)
joined_after s before c b =
    ap (λ (k : ℕ). not (eqb k 0)) (latest_last s before c b)
    ∙ by (joins (run s before) c b) (latest_join s before b) (length before)
  where
    or-true : (x : Bool) → true ≡ (x || true)
    or-true true = refl
    or-true false = refl

    or_false : (x : Bool) → x ≡ (x || false)
    or_false true = refl
    or_false false = refl

    by : (j : Bool) (m n : ℕ) → not (eqb (cond j (suc n) m) 0) ≡ (not (eqb m 0) || j)
    by true m n = ap not (eqb-suc-zero n) ∙ or-true (not (eqb m 0))
    by false m n = or_false (not (eqb m 0))

pub pending_after :
    (s : LockState) (before : List Call) (c : Call) (a b : ℕ)
    → pending_in s (before ++ c ∷ []) a b
    ≡ cond (joins (run s before) c b) 0
    (cond (enters (run s before) c a) (suc (pending_in s before a b)) (pending_in s before a b))
pending_after s before c a b =
    ap (λ (k : ℕ). entries_after s (before ++ c ∷ []) k a) (latest_last s before c b) ∙ by (joins (run s before) c b)
  where
    by : (j : Bool)
        → entries_after s (before ++ c ∷ []) (cond j (suc (length before)) (latest_join s before b)) a
        ≡ cond j 0 (cond (enters (run s before) c a) (suc (pending_in s before a b)) (pending_in s before a b))
    by true =
        none_after s (before ++ c ∷ []) (suc (length before)) a
        (let n : length (before ++ c ∷ []) ≡ length before + 1 = length-append before (c ∷ []) in omega arith)
    by false = one_after s before c (latest_join s before b) a (latest_within s before b)

pub charge_at :
    (s : LockState) (before : List Call) (c : Call) (a b : ℕ)
    → charge s before c a b ≡ cond (joins (run s before) c b) 0 (cond (joined_in s before b) (pending_in s before a b) 0)
unfolding charge
charge_at s before c a b =
    ap (λ (k : ℕ). cond (eqb k 0) 0 (entries_after s before k a)) (latest_last s before c b)
    ∙ by (joins (run s before) c b)
  where
    other_way : (t : Bool) (p : ℕ) → cond t 0 p ≡ cond (not t) p 0
    other_way true p = refl
    other_way false p = refl

    by : (j : Bool) →
        cond (eqb (cond j (suc (length before)) (latest_join s before b)) 0) 0
        (entries_after s before (cond j (suc (length before)) (latest_join s before b)) a)
        ≡ cond j 0 (cond (joined_in s before b) (pending_in s before a b) 0)
    by true =
        ap (λ (t : Bool). cond t 0 (entries_after s before (suc (length before)) a)) (eqb-suc-zero (length before))
        ∙ none_after s before (suc (length before)) a (omega arith)
    by false = other_way (eqb (latest_join s before b) 0) (pending_in s before a b)

-- what the call c adds after the calls `before`
abbrev added : LockState → List Call → Call → ℕ → ℕ → ℕ
added s before c a b = cond (enters (run s before) c b) (charge s before c a b) 0

charges_from_last :
    (s : LockState) (before later : List Call) (c : Call) (a b : ℕ)
    → charges_from s before (later ++ c ∷ []) a b ≡ charges_from s before later a b + added s (before ++ later) c a b
unfolding charges_from
charges_from_last s before [] c a b =
    let same : added s before c a b ≡ added s (before ++ []) c a b =
    ap (λ (cs : List Call). added s cs c a b) (sym (append-nil before)) in
    omega arith
charges_from_last s before (d ∷ later) c a b =
    let more :
    charges_from s (before ++ d ∷ []) (later ++ c ∷ []) a b
    ≡ charges_from s (before ++ d ∷ []) later a b + added s (before ++ d ∷ [] ++ later) c a b =
    charges_from_last s (before ++ d ∷ []) later c a b in
    let same : added s (before ++ d ∷ [] ++ later) c a b ≡ added s (before ++ d ∷ later) c a b =
    ap (λ (cs : List Call). added s cs c a b) (append_snoc before d later) in
    omega arith

pub charges_last :
    (s : LockState) (before : List Call) (c : Call) (a b : ℕ)
    → charges s (before ++ c ∷ []) a b
    ≡ charges s before a b + cond (enters (run s before) c b) (charge s before c a b) 0
charges_last s before c a b = charges_from_last s [] before c a b

pub counted_within :
    (test : LockState → Call → Bool) (s : LockState) (calls : List Call) → count_in test s calls ≤ length calls
unfolding count_in
counted_within test s [] = omega arith
counted_within test s (c ∷ cs) =
    let rest : count_in test (after s c) cs ≤ length cs = counted_within test (after s c) cs in
    by_either (λ (n : ℕ). n ≤ suc (length cs)) (test s c) (omega arith) (omega arith)

after_within : (s : LockState) (calls : List Call) (k a : ℕ) → entries_after s calls k a ≤ length calls
unfolding entries_in
after_within s calls k a =
    let some : entries_after s calls k a ≤ length (drop k calls) =
    counted_within (λ t d. enters t d a) (run s (take k calls)) (drop k calls) in
    let size : length (drop k calls) ≡ length calls - k = length-drop k calls in
    omega arith

pub pending_within : (s : LockState) (calls : List Call) (a b : ℕ) → pending_in s calls a b ≤ length calls
pending_within s calls a b = after_within s calls (latest_join s calls b) a

added_within : (s : LockState) (before : List Call) (c : Call) (a b : ℕ) → added s before c a b ≤ length before
unfolding charge
added_within s before c a b =
    by_either (λ (n : ℕ). n ≤ length before) (enters (run s before) c b)
    (by_either (λ (n : ℕ). n ≤ length before) (eqb (latest_join s (before ++ c ∷ []) b) 0) (omega arith)
    (after_within s before (latest_join s (before ++ c ∷ []) b) a))
    (omega arith)

charges_from_within :
    (s : LockState) (before later : List Call) (a b most : ℕ) → length before + length later ≤ most
    → charges_from s before later a b ≤ length later * most
unfolding charges_from
charges_from_within s before [] a b most h = omega arith
charges_from_within s before (c ∷ later) a b most h =
    let size : length (before ++ c ∷ []) ≡ length before + 1 = length-append before (c ∷ []) in
    let rest : charges_from s (before ++ c ∷ []) later a b ≤ length later * most =
    charges_from_within s (before ++ c ∷ []) later a b most (omega arith) in
    let first : added s before c a b ≤ length before = added_within s before c a b in
    let product : suc (length later) * most ≡ length later * most + most = suc-mul (length later) most in
    omega arith

pub charges_within :
    (s : LockState) (calls : List Call) (a b : ℕ) → charges s calls a b ≤ length calls * length calls
charges_within s calls a b = charges_from_within s [] calls a b (length calls) (omega arith)
