-- The accounts along a run: what one accepted call changes in them, and that there is room for it.
--     Taken                    a call of p that is accepted, and what it was by p's places
--     accounts_after           all accounts after it
--     accounts_quiet           as they were, where it was no join, no entry and no interrupt
--     accounts_fit             there is room for one more call, after fewer than a schedule can have
-- Assumes nothing.
use Prim.Native.Nat.{ℕ, suc, ◌+◌, ◌*◌, ◌≤◌, ◌<◌}
use native.Mathlib.Nat.{mul-le-mul_right}
use native.Mathlib.Omega.{arith}
use mathlib.Core.Path.{◌≡◌, refl, sym, ap, ◌∙◌, subst}
use mathlib.Core.Logic.{◌≢◌}
use mathlib.Core.Bool.{Bool, true, false, cond, not, ◌&&◌, ◌||◌}
use mathlib.Core.List.{List, [], ◌∷◌, ◌++◌}
use lib.ListN.{length, get_or, set}
use lib.Dec.{eqb, leb}
use borrow.Author.Tests.{eq-eqb, ne_eqb, le-leb}
use Rattle.choice.proofs.Tests.{neither_left, neither_right}
use Rattle.choice.proofs.Numbers.{by_same, every_from}
use Rattle.lock.specs.declared.LockState.{LockState}
use Rattle.lock.specs.State.{processors, row}
use Rattle.lock.specs.Event.{is_step, happens}
use Rattle.lock.specs.Run.{Call, after, run, steps_of, joins, enters, interrupted}
use Rattle.lock.specs.Count.{count_in, entries_in, interrupts_in, joins_in}
use Rattle.bench.specs.Log.{longest}
use Rattle.report.specs.declared.counting.Did.{Did}
use Rattle.report.specs.declared.counting.Account.{Account}
use Rattle.report.specs.Charges.{charge, charges}
use Rattle.report.specs.Table.{upto, greatest, row_holds, row_sum}
use Rattle.report.specs.Accounts.{pending_in, joined_in, account_of, accounts_of, absent, did_by, tallied}
use Rattle.report.specs.Accounts.{raised_at, pending_then, charged_then, seen_by, noted_by, Fits, AllFit}
use Rattle.report.proofs.Upto.{upto_at, upto_same, set_upto}
use Rattle.report.proofs.Charging.{count_last, joined_after, pending_after, charge_at}
use Rattle.report.proofs.Charging.{charges_last, counted_within, pending_within, charges_within}

-- ---- what the call is for each processor

-- a call that is accepted in the state s
module _ (s : LockState) (c : Call) (taken : eqb (happens s c.event c.processor).refusal 0 ≡ true) where
  abbrev p : ℕ
  p = c.processor

  abbrev pub did : Did
  did = did_by c.event (row s p).place (row (after s c) p).place

  -- a step of another processor is none of p's, whatever else is asked of it
  others : (b : ℕ) (test : Bool) → b ≢ p → (steps_of s c b && test) ≡ false
  unfolding steps_of
  others b test d = simp (taken, ne_eqb p b (λ e. d (sym e))) (none (is_step c.event))
    where
      none : (step : Bool) → (step && false && test) ≡ false
      none true = refl
      none false = refl

  own : (test : Bool) → (steps_of s c p && test) ≡ (is_step c.event && test)
  unfolding steps_of
  own test = simp (taken, eq-eqb p p refl) (drops (is_step c.event))
    where
      drops : (step : Bool) → ((step && true) && test) ≡ (step && test)
      drops true = refl
      drops false = refl

  -- a test of the steps of b: what it is for p, where b is p
  for_each : (test : ℕ → Bool) (b : ℕ) → (steps_of s c b && test b) ≡ (eqb b p && (is_step c.event && test p))
  for_each test b =
      by_same (λ (q : ℕ). (steps_of s c q && test q) ≡ (eqb q p && (is_step c.event && test p))) p
      (own (test p) ∙ sym (ap (λ (x : Bool). x && (is_step c.event && test p)) (eq-eqb p p refl)))
      (λ q d. others q (test q) d ∙ sym (ap (λ (x : Bool). x && (is_step c.event && test p)) (ne_eqb q p d))) b

  joins_is : (b : ℕ) → joins s c b ≡ (eqb b p && did.joined)
  unfolding joins did_by
  joins_is b = for_each (λ q. eqb (row s q).place 3) b

  enters_is : (b : ℕ) → enters s c b ≡ (eqb b p && did.entered)
  unfolding enters did_by
  enters_is b = for_each (λ q. eqb (row (after s c) q).place 9) b

  interrupted_is : (b : ℕ) → interrupted s c b ≡ (eqb b p && did.interrupted)
  unfolding interrupted did_by
  interrupted_is b =
      for_each (λ q.
      (eqb (row s q).place 10 && eqb (row (after s c) q).place 11)
      || (eqb (row s q).place 24 && eqb (row (after s c) q).place 25)) b

-- ---- one account after it

-- one of p's entries more, or none, in a list of counts by processor
raised_upto : (f : ℕ → ℕ) (p : ℕ) (entered : Bool) → p < processors
    → upto processors (λ a. cond (eqb a p && entered) (suc (f a)) (f a))
    ≡ cond entered (raised_at (upto processors f) p) (upto processors f)
unfolding raised_at
raised_upto f p true h =
    upto_same _ _ processors (λ a l.
    by_same (λ (q : ℕ). cond (eqb q p && true) (suc (f q)) (f q) ≡ cond (eqb q p) (suc (f p)) (f q)) p
    (simp (eq-eqb p p refl)) (λ q d. simp (ne_eqb q p d)) a)
    ∙ sym (set_upto f processors p (suc (f p)) h)
    ∙ ap (λ (n : ℕ). set (upto processors f) p (suc n)) (sym (upto_at f processors p 0 h))
raised_upto f p false h = upto_same _ _ processors (λ a l. never (eqb a p) (f a))
  where
    never : (b : Bool) (n : ℕ) → cond (b && false) (suc n) n ≡ n
    never true n = refl
    never false n = refl

pending_by : (f : ℕ → ℕ) (p : ℕ) (entered joins : Bool) → p < processors
    → upto processors (λ a. cond joins 0 (cond (eqb a p && entered) (suc (f a)) (f a)))
    ≡ pending_then (upto processors f) p entered joins
unfolding pending_then upto
pending_by f p entered true h = refl
pending_by f p entered false h = raised_upto f p entered h

charged_by : (f g : ℕ → ℕ) (charges : Bool)
    → upto processors (λ a. f a + cond charges (g a) 0) ≡ charged_then (upto processors f) (upto processors g) charges
unfolding charged_then row_sum
charged_by f g true =
    upto_same _ _ processors (λ a l.
    let one : get_or (upto processors f) a 0 ≡ f a = upto_at f processors a 0 l in
    let other : get_or (upto processors g) a 0 ≡ g a = upto_at g processors a 0 l in
    omega arith)
charged_by f g false = upto_same _ _ processors (λ a l. omega arith)

-- what an entry is charged with, by one test
one_test : (enters joined joins : Bool) (n : ℕ)
    → cond enters (cond joins 0 (cond joined n 0)) 0 ≡ cond (enters && joined && not joins) n 0
one_test true true true n = refl
one_test true true false n = refl
one_test true false true n = refl
one_test true false false n = refl
one_test false joined joins n = refl

-- a call that was no join, no entry and no interrupt
abbrev pub Nothing : Did → Type 0
Nothing d = ((d.joined || d.entered) || d.interrupted) ≡ false

-- leaves an account as it was
seen_quiet : (a : Account) (mine : Bool) (p : ℕ) (d : Did) → Nothing d → seen_by a mine p d ≡ a
unfolding seen_by tallied pending_then charged_then
seen_quiet a mine p d none =
    let quiet : (d.joined || d.entered) ≡ false = neither_left (d.joined || d.entered) d.interrupted none in
    simp (
      neither_left d.joined d.entered quiet,
      neither_right d.joined d.entered quiet,
      neither_right (d.joined || d.entered) d.interrupted none,
      off mine,
      or_false a.joined,
    )
  where
    off : (b : Bool) → (b && false) ≡ false
    off true = refl
    off false = refl

    or_false : (b : Bool) → (b || false) ≡ b
    or_false true = refl
    or_false false = refl

module _ (s : LockState) (calls : List Call) (c : Call)
    (taken : eqb (happens (run s calls) c.event c.processor).refusal 0 ≡ true) (low : c.processor < processors) where
  abbrev here : LockState
  here = run s calls

  abbrev done : Did
  done = did here c taken

  module _ (b : ℕ) where
    abbrev mine : Bool
    mine = eqb b c.processor

    counted : (test : LockState → Call → Bool) (given : Bool) → test here c ≡ given
        → count_in test s (calls ++ c ∷ []) ≡ cond given (suc (count_in test s calls)) (count_in test s calls)
    counted test given e =
        count_last test s calls c ∙ ap (λ (x : Bool). cond x (suc (count_in test s calls)) (count_in test s calls)) e

    pending_is : upto processors (λ a. pending_in s (calls ++ c ∷ []) a b)
        ≡ pending_then (upto processors (λ a. pending_in s calls a b)) c.processor done.entered (mine && done.joined)
    pending_is =
        upto_same _ _ processors (λ a l.
        let n : ℕ = pending_in s calls a b in
        pending_after s calls c a b
        ∙ ap (λ (j : Bool). cond j 0 (cond (enters here c a) (suc n) n)) (joins_is here c taken b)
        ∙ ap (λ (e : Bool). cond (mine && done.joined) 0 (cond e (suc n) n)) (enters_is here c taken a))
        ∙ pending_by (λ a. pending_in s calls a b) c.processor done.entered (mine && done.joined) low

    charged_is : upto processors (λ a. charges s (calls ++ c ∷ []) a b)
        ≡ charged_then (upto processors (λ a. charges s calls a b)) (upto processors (λ a. pending_in s calls a b))
        ((mine && done.entered) && joined_in s calls b && not (mine && done.joined))
    charged_is =
        upto_same _ _ processors (λ a l.
        let n : ℕ = pending_in s calls a b in
        charges_last s calls c a b
        ∙ ap (λ (m : ℕ). charges s calls a b + m)
        (ap (λ (e : Bool). cond e (charge s calls c a b) 0) (enters_is here c taken b)
        ∙ ap (λ (m : ℕ). cond (mine && done.entered) m 0)
        (charge_at s calls c a b ∙ ap (λ (j : Bool). cond j 0 (cond (joined_in s calls b) n 0)) (joins_is here c taken b))
        ∙ one_test (mine && done.entered) (joined_in s calls b) (mine && done.joined) n))
        ∙ charged_by (λ a. charges s calls a b) (λ a. pending_in s calls a b)
        ((mine && done.entered) && joined_in s calls b && not (mine && done.joined))

    account_after : account_of s (calls ++ c ∷ []) b ≡ seen_by (account_of s calls b) mine c.processor done
    unfolding account_of seen_by tallied entries_in interrupts_in joins_in
    account_after =
        simp (
          counted (λ t d. enters t d b) (mine && done.entered) (enters_is here c taken b),
          counted (λ t d. interrupted t d b) (mine && done.interrupted) (interrupted_is here c taken b),
          counted (λ t d. joins t d b) (mine && done.joined) (joins_is here c taken b),
          joined_after s calls c b,
          joins_is here c taken b,
          pending_is,
          charged_is,
        )

  pub accounts_after : accounts_of s (calls ++ c ∷ []) ≡ noted_by (accounts_of s calls) c.processor done
  unfolding noted_by
  accounts_after =
      upto_same _ _ processors (λ b l.
      account_after b
      ∙ ap (λ (a : Account). seen_by a (eqb b c.processor) c.processor done)
      (sym (upto_at (account_of s calls) processors b absent l)))

  pub accounts_quiet : Nothing done → accounts_of s (calls ++ c ∷ []) ≡ accounts_of s calls
  accounts_quiet none =
      upto_same _ _ processors (λ b l.
      account_after b ∙ seen_quiet (account_of s calls b) (eqb b c.processor) c.processor done none)

-- ---- room for one more call

module _ (s : LockState) (calls : List Call) (few : length calls < longest) (b : ℕ) where
  below : (test : LockState → Call → Bool) → count_in test s calls < greatest
  below test = omega (arith, counted_within test s calls)

  abbrev pending : ℕ → ℕ
  pending a = pending_in s calls a b

  abbrev charged : ℕ → ℕ
  charged a = charges s calls a b

  pending_at : (a : ℕ) → a < processors → get_or (upto processors pending) a 0 ≤ length calls
  pending_at a l =
      subst (λ (n : ℕ). n ≤ length calls) (sym (upto_at pending processors a 0 l)) (pending_within s calls a b)

  -- the square of the longest schedule is still a count
  sum_fits : (a : ℕ) → a < processors
      → get_or (upto processors charged) a 0 + get_or (upto processors pending) a 0 ≤ greatest
  sum_fits a l =
      let sums : get_or (upto processors charged) a 0 ≡ charges s calls a b = upto_at charged processors a 0 l in
      let square : length calls * length calls ≤ longest * length calls = mul-le-mul_right (length calls) (omega arith) in
      omega (arith, pending_at a l, charges_within s calls a b)

  account_fits : Fits (account_of s calls b)
  unfolding account_of entries_in interrupts_in joins_in row_holds
  account_fits = record {
    tally = record {
      entries = below (λ t d. enters t d b);
      interrupts = below (λ t d. interrupted t d b);
      joins = below (λ t d. joins t d b);
    };
    pending = λ a l. omega (arith, pending_at a l);
    sums =
        every_from processors
        (λ a. leb (get_or (upto processors charged) a 0 + get_or (upto processors pending) a 0) greatest)
        (λ a l. le-leb (get_or (upto processors charged) a 0 + get_or (upto processors pending) a 0) greatest (sum_fits a l));
  }

pub accounts_fit : (s : LockState) (calls : List Call) → length calls < longest → AllFit (accounts_of s calls)
accounts_fit s calls few b l =
    subst Fits (sym (upto_at (account_of s calls) processors b absent l)) (account_fits s calls few b)
