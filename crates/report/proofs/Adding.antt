-- A table added to a table, row by row as the code has it.
--     fits, sum                     two rows at a place: their sum is a count; their sum
--     rows_fit, rows_sum            two tables at a row, likewise
--     sum_fits, row_fits            where every sum is a count, each is
--     added_as, added_stays         the sum by its test; counts that are refused leave the table as it was
--     same_test, same_sums          row by row is the same as cell by cell
-- Assumes nothing.
use Prim.Native.Nat.{ℕ, ◌+◌, ◌≤◌, ◌<◌}
use mathlib.Core.Path.{◌≡◌, refl, sym, ap, ◌∙◌}
use mathlib.Core.Bool.{Bool, true, false, cond}
use mathlib.Core.List.{List, []}
use lib.ListN.{get_or}
use lib.Dec.{eqb, leb}
use borrow.Author.Tests.{leb-true}
use Rattle.lock.specs.State.{processors}
use Rattle.choice.proofs.Numbers.{every_at}
use Rattle.choice.proofs.Tests.{clash}
use Rattle.report.specs.Table.{Reported, Counts, greatest, cell, holds, raised, counts_added, row_holds, row_sum, table_holds, table_sum}

module _ (t m : List ℕ) where
  abbrev pub sum : ℕ → ℕ
  sum i = get_or t i 0 + get_or m i 0

  abbrev pub fits : ℕ → Bool
  fits i = leb (sum i) greatest

  pub sum_fits : (i : ℕ) → row_holds t m ≡ true → i < processors → sum i ≤ greatest
  unfolding row_holds
  sum_fits i e h = leb-true (sum i) greatest (every_at processors fits e i h)

module _ (t m : List (List ℕ)) where
  abbrev pub rows_sum : ℕ → List ℕ
  rows_sum a = row_sum (get_or t a []) (get_or m a [])

  abbrev pub rows_fit : ℕ → Bool
  rows_fit a = row_holds (get_or t a []) (get_or m a [])

  pub row_fits : (a : ℕ) → table_holds t m ≡ true → a < processors → rows_fit a ≡ true
  unfolding table_holds
  row_fits a e h = every_at processors rows_fit e a h

  pub same_test : table_holds t m ≡ holds t (cell m)
  unfolding table_holds row_holds holds cell
  same_test = refl

  pub same_sums : table_sum t m ≡ raised t (cell m)
  unfolding table_sum row_sum raised cell
  same_sums = refl

abbrev pub added_as : List (List ℕ) → Counts → Bool → Reported
added_as t f b = cond b (record { refusal = 0; line = 0; table = raised t f }) (record { refusal = 12; line = 0; table = t })

-- counts that are refused leave the table as it was
pub added_stays : (t : List (List ℕ)) (f : Counts) (r : Reported) → r ≡ counts_added t f → eqb r.refusal 0 ≡ false
    → (counts_added t f).table ≡ t
unfolding counts_added
added_stays t f r e some = stays (holds t f) (ap (λ (x : Reported). eqb x.refusal 0) (sym e) ∙ some)
  where
    stays : (b : Bool) → eqb (added_as t f b).refusal 0 ≡ false → (added_as t f b).table ≡ t
    stays true h = clash refl h
    stays false h = refl
