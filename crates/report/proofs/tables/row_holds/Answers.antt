-- `report::tables::row_holds` meets its contract: the test of each pair, place by place.
use Rattle.std.proofs.Common.{ℕ, Bool, ◌+◌, ◌∙◌, leb, rules}
use borrow.Author.Tests.{tests}
use Rattle.std.proofs.lemmas.Iterator.{YieldsList-from_slice, YieldsList-from_zip}
use Rattle.std.proofs.lemmas.Iterator.Search.{all_from_yields_List}
use Rattle.report.specs.Table.{greatest, row_holds}
use Rattle.report.proofs.Made.{all_pairs}
use Rattle.report.proofs.tables.row_holds.Goals as goal

abbrev fits : ℕ × ℕ → Bool
fits p = leb (p.0 + p.1) greatest

pub returns : goal.returns
unfolding row_holds
returns c =
    let t = c.args.t.now in
    let m = c.args.m.now in
    all_from_yields_List fits c.all.new.self _ _ c.all.ensures.ran
    (YieldsList-from_zip (YieldsList-from_slice t cc) (YieldsList-from_slice m cc))
    (λ x b q k. search (rules, tests))
    ∙ all_pairs fits t m 0 (search rules) (search rules)
