-- The report of a schedule by what was found going along it.
--     added_same                    counts that are the same below 16 are added to the same table
--     charges-are, tallies_are      what the accounts hold is what the definitions say
--     own, few, over, counted       the four ways in which a report ends
-- Assumes nothing.
use Prim.Native.Nat.{ℕ, ◌+◌, ◌≤◌, ◌<◌}
use native.Mathlib.Omega.{arith}
use mathlib.Core.Path.{◌≡◌, refl, sym, ap, ◌∙◌, subst}
use Rattle.std.specs.Prelude.{Err}
use mathlib.Core.Logic.{⊎_elim}
use mathlib.Core.Bool.{Bool, true, false, cond}
use mathlib.Core.List.{List, []}
use lib.ListN.{length, get_or}
use lib.Dec.{eqb, ltb, leb}
use borrow.Author.Tests.{eqb-true, ltb-false}
use Rattle.choice.proofs.Tests.{cases}
use Rattle.choice.proofs.Numbers.{every_same}
use Rattle.lock.specs.State.{processors}
use Rattle.lock.specs.declared.LockState.{LockState}
use Rattle.lock.specs.Run.{Call}
use Rattle.bench.specs.Log.{longest}
use Rattle.bench.specs.Bridge.{processors_of, first_state, first_refusal, heard_of}
use Rattle.bench.specs.Verdict.{verdict_of}
use Rattle.bench.proofs.Hearing.{log_is_run}
use Rattle.report.specs.declared.Tally.{Tally}
use Rattle.report.specs.declared.Refused.{Refused}
use Rattle.report.specs.declared.counting.Account.{Account}
use Rattle.report.specs.Followed.{Followed}
use Rattle.report.specs.Named.{number}
use Rattle.report.specs.Charges.{charges}
use Rattle.report.specs.Table.{Reported, told, upto, greatest, Counts, cell, holds, raised, counts_added}
use Rattle.report.specs.Report.{Measured, told_measured, charges_of, tally_of, reported_of, unmeasured, laid_down, measured_as, measured_of}
use Rattle.report.specs.Accounts.{account_of, accounts_of, absent, charges_row, charges_by, tallies_by}
use Rattle.report.specs.Followed.{Follows}
use Rattle.report.proofs.Upto.{upto_at, upto_same}

added_same : (table : List (List ℕ)) (f g : Counts) → ((a b : ℕ) → a < processors → b < processors → f a b ≡ g a b)
    → counts_added table f ≡ counts_added table g
unfolding counts_added holds raised
added_same table f g h =
    let tests : holds table f ≡ holds table g =
    every_same processors _ _ (λ a la. every_same processors _ _ (λ b lb.
    ap (λ (k : ℕ). leb (cell table a b + k) greatest) (h a b la lb))) in
    let sums : raised table f ≡ raised table g =
    upto_same _ _ processors (λ a la. upto_same _ _ processors (λ b lb.
    ap (λ (k : ℕ). cell table a b + k) (h a b la lb))) in
    let told : Bool → List (List ℕ) → Reported =
    λ fits sum. cond fits (record { refusal = 0; line = 0; table = sum }) (record { refusal = 12; line = 0; table = table }) in
    ap (λ (b : Bool). told b (raised table f)) tests ∙ ap (told (holds table g)) sums

module _ (s : LockState) (calls : List Call) where
  account_at : (b : ℕ) → b < processors → get_or (accounts_of s calls) b absent ≡ account_of s calls b
  account_at b l = upto_at (account_of s calls) processors b absent l

  charge_at : (a b : ℕ) → a < processors → b < processors → cell (charges_by (accounts_of s calls)) a b ≡ charges s calls a b
  unfolding cell charges_by charges_row account_of
  charge_at a b la lb =
      ap (λ (r : List ℕ). get_or r b 0) (upto_at (charges_row (accounts_of s calls)) processors a [] la)
      ∙ upto_at (λ b. get_or (get_or (accounts_of s calls) b absent).charged a 0) processors b 0 lb
      ∙ ap (λ (x : Account). get_or x.charged a 0) (account_at b lb)
      ∙ upto_at (λ a. charges s calls a b) processors a 0 la

tallies_are : (text : List ℕ) → tallies_by (accounts_of (first_state text) (heard_of text)) ≡ upto processors (tally_of text)
unfolding tallies_by tally_of account_of
tallies_are text =
    upto_same _ _ processors (λ p l. ap (λ (x : Account). x.tally) (account_at (first_state text) (heard_of text) p l))

-- N is at most 16 where nothing is refused
verdict_first : (text : List ℕ) → (verdict_of text).refusal ≡ 0 → first_refusal text ≡ 0
unfolding verdict_of
verdict_first text h =
    ⊎_elim (λ (long : ltb longest (length text) ≡ true). absurd (never (simp long at h)))
    (λ (short : ltb longest (length text) ≡ false).
    ⊎_elim (λ (e : eqb (first_refusal text) 0 ≡ true). eqb-true (first_refusal text) 0 e)
    (λ (e : eqb (first_refusal text) 0 ≡ false). simp (short, e) at h)
    (cases (eqb (first_refusal text) 0)))
    (cases (ltb longest (length text)))
  where
    never : ◌≡◌ {A = ℕ} 1 0 → ⊥
    never e = omega arith

pub processors_within : (text : List ℕ) → (verdict_of text).refusal ≡ 0 → processors_of text ≤ processors
processors_within text h = ((log_is_run text).in_range (verdict_first text h)).most

-- a report that was made along a schedule
module _ (text : List ℕ) (table : List (List ℕ)) (lent : ℕ) (f : Followed) (found : Follows text f) where
  abbrev Ends : Measured → Type 0
  Ends m = (m ≡ measured_of text table lent) × ((m.count ≤ lent) × (m.count ≤ processors))

  -- what is refused: the answer alone
  refused_so : (m : Measured) (told : Reported) → m ≡ unmeasured told → told ≡ reported_of text table lent
      → eqb told.refusal 0 ≡ false → Ends m
  unfolding measured_of
  refused_so m told e is some =
      let nothing : m.count ≡ 0 = ap (λ (x : Measured). x.count) e in (
        e ∙ sym (ap (measured_as text) (sym is) ∙ ap (λ (b : Bool). cond b (laid_down text told) (unmeasured told)) some),
        (omega arith, omega arith),
      )

  pub own : eqb f.refusal 0 ≡ false → (told : Reported) → told ≡ record { refusal = f.refusal; line = f.line; table = table }
      → (m : Measured) → m ≡ unmeasured told → Ends m
  unfolding reported_of
  own some told e m is =
      let not-zero : eqb (verdict_of text).refusal 0 ≡ false = ap (λ (r : ℕ). eqb r 0) (sym found.refusal) ∙ some in
      refused_so m told is
      (e ∙ ap (λ (r : ℕ). record { refusal = r; line = f.line; table = table }) found.refusal
      ∙ ap (λ (l : ℕ). record { refusal = (verdict_of text).refusal; line = l; table = table }) found.line
      ∙ simp not-zero)
      (ap (λ (x : Reported). eqb x.refusal 0) e ∙ some)

  -- the same of the code's answer
  pub own_refused : eqb f.refusal 0 ≡ false → (r : Refused) → number r.refusal ≡ f.refusal → r.line ≡ f.line → r.table ≡ table
      → Ends (told_measured (Err r))
  own_refused some r e l t =
      own some (told (Err r))
      (ap (λ (k : ℕ). record { refusal = k; line = r.line; table = r.table }) e
      ∙ ap (λ (k : ℕ). record { refusal = f.refusal; line = k; table = r.table }) l
      ∙ ap (λ (x : List (List ℕ)). record { refusal = f.refusal; line = f.line; table = x }) t)
      (told_measured (Err r)) refl

  module _ (none : eqb f.refusal 0 ≡ true) where
    zero_told : (verdict_of text).refusal ≡ 0
    zero_told = sym found.refusal ∙ eqb-true f.refusal 0 none

    pub few : ltb lent f.n ≡ true → (told : Reported) → told ≡ record { refusal = 13; line = 0; table = table }
        → (m : Measured) → m ≡ unmeasured told → Ends m
    unfolding reported_of
    few short told e m is =
        let not-enough : ltb lent (processors_of text) ≡ true = ap (ltb lent) (sym (found.n zero_told)) ∙ short in
        refused_so m told is (e ∙ simp (zero_told, not-enough)) (ap (λ (x : Reported). eqb x.refusal 0) e)

    module _ (enough : ltb lent f.n ≡ false) (told : Reported)
        (e : told ≡ counts_added table (cell (charges_by f.accounts))) where
      told_is : told ≡ reported_of text table lent
      unfolding reported_of
      told_is =
          let rows : ltb lent (processors_of text) ≡ false = ap (ltb lent) (sym (found.n zero_told)) ∙ enough in
          e ∙ ap (λ (x : List Account). counts_added table (cell (charges_by x))) (found.accounts zero_told)
          ∙ added_same table (cell (charges_by (accounts_of (first_state text) (heard_of text)))) (charges_of text)
          (charge_at (first_state text) (heard_of text))
          ∙ simp (zero_told, rows)

      pub over : eqb told.refusal 0 ≡ false → (m : Measured) → m ≡ unmeasured told → Ends m
      over some m is = refused_so m told is told_is some

      pub counted : eqb told.refusal 0 ≡ true → (rows : List Tally) → rows ≡ tallies_by f.accounts
          → Ends (record { told = told; count = f.n; rows = rows })
      unfolding measured_of
      counted all rows is =
          let within : f.n ≤ processors =
          subst (λ (k : ℕ). k ≤ processors) (sym (found.n zero_told)) (processors_within text zero_told) in (
            ap (λ (k : ℕ). record { told = told; count = k; rows = rows }) (found.n zero_told)
                ∙ ap (λ (x : List Tally). record { told = told; count = processors_of text; rows = x })
                (is ∙ ap tallies_by (found.accounts zero_told) ∙ tallies_are text)
                ∙ sym (ap (measured_as text) (sym told_is) ∙ ap (λ (b : Bool). cond b (laid_down text told) (unmeasured told)) all),
            (ltb-false lent f.n enough, within),
          )
