-- A schedule's own refusal and its line as two numbers, 0 and 0 where nothing is refused: what the 05 line of its log tells. For
-- those who go along a schedule and write no log.
--     LogTellsTheVerdict    the log ends with the 05 line of the verdict, or, where nothing is refused, with the 04 line
use Rattle.std.specs.Prelude.{ℕ, ◌+◌, ◌≡◌, cond, ◌||◌, not, List, [], ◌++◌, length, eqb, ltb}
use Rattle.bench.specs.Log.{longest, refused_at, counted, log_of}
use Rattle.bench.specs.Bridge.{first_state, first_refusal, heard_of, refusal_of, rows_of, first_line}

pub record Verdict : Type 0 where
  pub refusal : ℕ
  pub line : ℕ

abbrev pub at : ℕ → ℕ → Verdict
at refusal line = record { refusal = refusal; line = line }

-- of the later lines: "the refusal and its line", where so many calls were heard before it
abbrev pub later_verdict : ℕ → ℕ → Verdict
later_verdict refusal heard = cond (eqb refusal 0) (at 0 0) (at refusal (heard + 2))

-- "1 first": "line 0 for refusal 1"; then line 1; then the later lines
unfoldable pub verdict_of : List ℕ → Verdict
verdict_of text =
    cond (ltb longest (length text)) (at 1 0)
    (cond (eqb (first_refusal text) 0) (later_verdict (refusal_of text) (length (heard_of text))) (at (first_refusal text) 1))

-- what the log shows before its last line: nothing where line 1 is not accepted, otherwise line 1 and the rows
abbrev pub shown_before : List ℕ → List ℕ
shown_before text =
    cond (ltb longest (length text) || not (eqb (first_refusal text) 0)) []
    (first_line text ++ rows_of (first_state text) (heard_of text))

abbrev pub LogTellsTheVerdict : Type 0
LogTellsTheVerdict =
    (text : List ℕ)
    → log_of text
    ≡ shown_before text
    ++ cond (eqb (verdict_of text).refusal 0) (counted (length (heard_of text)))
    (refused_at (verdict_of text).refusal (verdict_of text).line)
