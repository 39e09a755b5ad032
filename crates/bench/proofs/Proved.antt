-- The statements of `specs/Laws.antt`, `specs/Bridge.antt` and `specs/Case.antt`, each with its proof.
-- Assumes nothing.
use native.Mathlib.Omega.{arith}
use mathlib.Core.Path.{sym, ap, ◌∙◌}
use lib.ListN.{length}
use Rattle.bench.specs.Log.{log_of}
use Rattle.bench.specs.Laws.{FuelDoesNotMatter, LogFitsItsRoom, OnlyOneAnswerFits}
use Rattle.bench.specs.Bridge.{EveryLogIsARun, AcceptedLogIsARun, RowsFollowTheRun, EntryMarkIsAnEntry}
use Rattle.bench.specs.Case.{CaseDoesNotMatter, LogIsInUpperCase, UpperCaseAsBefore, CaseIsSharp}
use Rattle.bench.proofs.Fuel.{fuel_same}
use Rattle.bench.proofs.Room.{log_fits}
use Rattle.bench.proofs.Hearing.{log_is_run}
use Rattle.bench.proofs.Along.{accepted_is_run, rows_follow, entry_mark}
use Rattle.bench.proofs.Case.{log_raised, as_before, sharp}
use Rattle.bench.proofs.Upper.{log_upper}
use Rattle.bench.proofs.Unique.{told_one, number_one}

pub fuel_does_not_matter : FuelDoesNotMatter
fuel_does_not_matter fuel s accepted text h = fuel_same fuel (length text) s accepted text h (omega arith)

pub log_fits_its_room : LogFitsItsRoom
log_fits_its_room text = log_fits text

pub only_one_answer_fits : OnlyOneAnswerFits
only_one_answer_fits =
    record {
      to_bench = λ text out r s after kept p f q g. (p ∙ sym q, f ∙ sym g);
      to_room = λ bytes r s p q. p ∙ sym q;
      to_told = told_one;
      to_number = number_one;
      of_number = λ refusal r s e f. e ∙ sym f;
      of_line = λ line r s e f. e ∙ sym f;
      of_lock = λ lock r s e f. e ∙ sym f;
      of_refused = λ refused r s e f. e ∙ sym f;
    }

pub every_log_is_a_run : EveryLogIsARun
every_log_is_a_run text = log_is_run text

pub accepted_log_is_a_run : AcceptedLogIsARun
accepted_log_is_a_run text h = accepted_is_run text h

pub rows_follow_the_run : RowsFollowTheRun
rows_follow_the_run s before c = rows_follow s before c

pub entry_mark_is_an_entry : EntryMarkIsAnEntry
entry_mark_is_an_entry s c h = entry_mark s c h

pub case_does_not_matter : CaseDoesNotMatter
case_does_not_matter =
    record {
      raised = λ text. sym (log_raised text);
      mixed = λ s t e. sym (log_raised s) ∙ ap log_of e ∙ log_raised t;
    }

pub log_is_in_upper_case : LogIsInUpperCase
log_is_in_upper_case text = log_upper text

pub upper_case_as_before : UpperCaseAsBefore
upper_case_as_before text e low h = as_before text e low h

pub case_is_sharp : CaseIsSharp
case_is_sharp = sharp
