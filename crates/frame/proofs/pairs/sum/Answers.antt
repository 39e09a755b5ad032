-- `frame::pairs::sum` meets its contract: the fold of the wrapping additions.
use Rattle.std.proofs.Common.{ℕ, ◌+◌, ◌%◌, ◌∙◌, rules}
use Rattle.std.proofs.lemmas.Iterator.{YieldsList-from_slice}
use Rattle.std.proofs.lemmas.Iterator.Consumers.{fold_from_yields_List}
use Rattle.frame.proofs.Sums.{sum_folded}
use Rattle.frame.proofs.pairs.sum.Goals as goal

pub returns : goal.returns
returns c =
    fold_from_yields_List _ (λ (t v : ℕ). (t + v) % 256) 0 _ c.fold.ensures.ran (YieldsList-from_slice c.args.values.now (cc))
    (λ a x b q k. search rules)
    ∙ sum_folded c.args.values.now
