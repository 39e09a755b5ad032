-- What the code carries from call to call for each processor b, in the words of the definitions; and what one call changes in it.
--     account_of     the account of b after the calls: its tally, whether it has joined, what is pending, what it was charged
--     seen_by        an account after one more call
use Rattle.std.specs.Prelude.{ℕ, suc, ◌<◌, ◌≡◌, Bool, true, false, cond, not, ◌&&◌, ◌||◌, List, [], get_or, set, replicate, eqb}
use Rattle.lock.specs.declared.LockState.{LockState}
use Rattle.lock.specs.State.{processors}
use Rattle.lock.specs.Event.{is_step}
use Rattle.lock.specs.Run.{Call}
use Rattle.lock.specs.Count.{latest_join}
use Rattle.report.specs.declared.Tally.{Tally}
use Rattle.report.specs.declared.counting.Did.{Did}
use Rattle.report.specs.declared.counting.Account.{Account}
use Rattle.report.specs.Charges.{entries_after, charges}
use Rattle.report.specs.Table.{upto, greatest, row_holds, row_sum}
use Rattle.report.specs.Report.{tally_in, no_tally}

-- a's entries since b's latest join
abbrev pub pending_in : LockState → List Call → ℕ → ℕ → ℕ
pending_in s calls a b = entries_after s calls (latest_join s calls b) a

-- b has joined
abbrev pub joined_in : LockState → List Call → ℕ → Bool
joined_in s calls b = not (eqb (latest_join s calls b) 0)

unfoldable pub account_of : LockState → List Call → ℕ → Account
account_of s calls b = record {
  tally = tally_in s calls b;
  joined = joined_in s calls b;
  pending = upto processors (λ a. pending_in s calls a b);
  charged = upto processors (λ a. charges s calls a b);
}

abbrev pub accounts_of : LockState → List Call → List Account
accounts_of s calls = upto processors (account_of s calls)

abbrev pub no_account : Account
no_account = record {
  tally = no_tally;
  joined = false;
  pending = replicate processors 0;
  charged = replicate processors 0;
}

-- the kit's word for an account that is not there; there are always sixteen
abbrev pub absent : Account
absent = record { tally = no_tally; joined = false; pending = []; charged = [] }

-- what an accepted call was for its processor, by its place before and after
unfoldable pub did_by : ℕ → ℕ → ℕ → Did
did_by event was is = record {
  joined = is_step event && eqb was 3;
  entered = is_step event && eqb is 9;
  interrupted = is_step event && ((eqb was 10 && eqb is 11) || (eqb was 24 && eqb is 25));
}

-- one more, where it is given
abbrev pub more : Bool → ℕ → ℕ
more given count = cond given (suc count) count

unfoldable pub tallied : Tally → Bool → Bool → Bool → Tally
tallied t enters taken joins = record {
  entries = more enters t.entries;
  interrupts = more taken t.interrupts;
  joins = more joins t.joins;
}

-- one entry of p more
unfoldable pub raised_at : List ℕ → ℕ → List ℕ
raised_at counts p = set counts p (suc (get_or counts p 0))

-- what is pending: dropped at the processor's own join; otherwise p's entry is one more
unfoldable pub pending_then : List ℕ → ℕ → Bool → Bool → List ℕ
pending_then pending p entered joins = cond joins (replicate processors 0) (cond entered (raised_at pending p) pending)

-- what is charged: all that is pending, at an entry that an earlier join led to
unfoldable pub charged_then : List ℕ → List ℕ → Bool → List ℕ
charged_then charged pending charges = cond charges (row_sum charged pending) charged

-- the account after a call of processor p, which is this one or another
unfoldable pub seen_by : Account → Bool → ℕ → Did → Account
seen_by a own p did =
    let joins = own && did.joined in
    let enters = own && did.entered in
    record {
      tally = tallied a.tally enters (own && did.interrupted) joins;
      joined = a.joined || joins;
      pending = pending_then a.pending p did.entered joins;
      charged = charged_then a.charged a.pending (enters && a.joined && not joins);
    }

-- all accounts after it
unfoldable pub noted_by : List Account → ℕ → Did → List Account
noted_by accounts p did = upto processors (λ b. seen_by (get_or accounts b absent) (eqb b p) p did)

-- the charges as a table, row a, column b; and the tallies
unfoldable pub charges_row : List Account → ℕ → List ℕ
charges_row accounts a = upto processors (λ b. get_or (get_or accounts b absent).charged a 0)

unfoldable pub charges_by : List Account → List (List ℕ)
charges_by accounts = upto processors (charges_row accounts)

unfoldable pub tallies_by : List Account → List Tally
tallies_by accounts = upto processors (λ p. (get_or accounts p absent).tally)

-- there is room for one call more
pub record TallyFits (t : Tally) : Type 0 where
  pub entries : t.entries < greatest
  pub interrupts : t.interrupts < greatest
  pub joins : t.joins < greatest

abbrev pub Summable : List ℕ → List ℕ → Type 0
Summable charged pending = row_holds charged pending ≡ true

pub record Fits (a : Account) : Type 0 where
  pub tally : TallyFits a.tally
  pub pending : (p : ℕ) → p < processors → get_or a.pending p 0 < greatest
  pub sums : Summable a.charged a.pending

abbrev pub AllFit : List Account → Type 0
AllFit accounts = (b : ℕ) → b < processors → Fits (get_or accounts b absent)
