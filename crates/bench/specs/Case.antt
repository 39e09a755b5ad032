-- Request [3], for whole logs: "Let the reader take both cases, also mixed within a line. The writer keeps upper case.
-- Lockbench now prints the 01 line as the writer gives it."
--     CaseDoesNotMatter     a schedule has the log that it has in upper case, so schedules equal up to case have one log
--     LogIsInUpperCase      no log has a to f
--     UpperCaseAsBefore     where line 1 is in upper case, the log begins with line 1 as read, as document 01 says
--     CaseIsSharp           in another case it does not: computed
use Rattle.std.specs.Prelude.{ℕ, ◌≤◌, ◌≡◌, ◌≢◌, List, ◌++◌, length, take}
use Rattle.frame.specs.Case.{upper_case, EqualUpToCase}
use Rattle.frame.specs.Laws.{InUpperCase, line_with}
use Rattle.bench.specs.Log.{longest, counted, log_of}
use Rattle.bench.specs.Bridge.{first_refusal, later_lines}

pub record CaseDoesNotMatter : Type 0 where
  pub raised : (text : List ℕ) → log_of text ≡ log_of (upper_case text)
  pub mixed : (s t : List ℕ) → EqualUpToCase s t → log_of s ≡ log_of t

abbrev pub LogIsInUpperCase : Type 0
LogIsInUpperCase = (text : List ℕ) → InUpperCase (log_of text)

-- what `EveryLogIsARun` says of an accepted line 1, with "the 01 line as read" for the line of its numbers
abbrev pub UpperCaseAsBefore : Type 0
UpperCaseAsBefore =
    (text : List ℕ) → upper_case (take 9 text) ≡ take 9 text → length text ≤ longest → first_refusal text ≡ 0 →
    log_of text ≡ take 9 text ++ later_lines text

-- 010001Fe alone: its log is that of 010001FE, and does not begin with line 1 as read
pub record CaseIsSharp : Type 0 where
  pub accepted : first_refusal (line_with 101) ≡ 0
  pub one_log : log_of (line_with 101) ≡ line_with 69 ++ counted 0
  pub not_as_read : log_of (line_with 101) ≢ take 9 (line_with 101) ++ counted 0
