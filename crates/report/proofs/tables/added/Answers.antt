-- `report::tables::added` meets its contract: the test and the sums row by row are those of the definition.
use Rattle.std.proofs.Common.{◌≡◌, ℕ, Bool, true, false, List, ap, ◌∙◌}
use Rattle.report.specs.Table.{Reported, cell, table_holds, counts_added}
use Rattle.report.proofs.Adding.{added_as, same_test, same_sums}
use Rattle.report.proofs.tables.added.Goals as goal

-- the choice, once the test is known
chosen : (t m : List (List ℕ)) (b : Bool) → b ≡ table_holds t m → added_as t (cell m) b ≡ counts_added t (cell m)
unfolding counts_added
chosen t m b e = ap (added_as t (cell m)) (e ∙ same_test t m)

pub returns-then-not-table_holds : goal.returns-then-not-table_holds
returns-then-not-table_holds c = chosen c.args.t c.args.m false c.if-not-table_holds.ensures

pub returns : goal.returns
returns c =
    let sum : List (List ℕ) → Reported = λ t. record { refusal = 0; line = 0; table = t } in
    ap sum (c.add_table.ensures ∙ same_sums _ _) ∙ chosen c.args.t c.args.m true c.if-not-table_holds.ensures
