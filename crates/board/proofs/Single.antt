-- Only one answer meets a contract that is an equation.
use mathlib.Core.Path.{sym, ◌∙◌}
use Rattle.board.specs.Unique.{OnlyOneAnswerFits}

pub only_one_answer_fits : OnlyOneAnswerFits
only_one_answer_fits =
    record {
      to_room = λ bytes r s p q. p ∙ sym q;
      to_log = λ text out r s after kept p f q g. (p ∙ sym q, f ∙ sym g);
      to_line = λ line out r s after kept p f q g. (p ∙ sym q, f ∙ sym g);
      to_report = λ text table rows told same after kept p f q g. (p ∙ sym q, f ∙ sym g);
      to_add = λ table other r s after kept p f q g. (p ∙ sym q, f ∙ sym g);
    }
