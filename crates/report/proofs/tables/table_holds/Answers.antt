-- `report::tables::table_holds` meets its contract: the test of each pair of rows, row by row.
use Rattle.std.proofs.Common.{ℕ, Bool, List, [], ◌∙◌, rules}
use borrow.Author.Tests.{tests}
use Rattle.std.proofs.lemmas.Iterator.{YieldsList-from_slice, YieldsList-from_zip}
use Rattle.std.proofs.lemmas.Iterator.Search.{all_from_yields_List}
use Rattle.report.specs.Table.{row_holds, table_holds}
use Rattle.report.proofs.Made.{all_pairs}
use Rattle.report.proofs.tables.table_holds.Goals as goal

abbrev fit : List ℕ × List ℕ → Bool
fit p = row_holds p.0 p.1

pub returns : goal.returns
unfolding table_holds
returns c =
    let t = c.args.t.now in
    let m = c.args.m.now in
    all_from_yields_List fit c.all.new.self _ _ c.all.ensures.ran
    (YieldsList-from_zip (YieldsList-from_slice t cc) (YieldsList-from_slice m cc))
    (λ x b q k. search (rules, tests))
    ∙ all_pairs fit t m [] (search rules) (search rules)
