-- The log ends with what the verdict tells, from the log as a run: by whether the text is too long, line 1 refused, a later line.
-- Assumes nothing.
use Prim.Native.Nat.{ℕ, ◌+◌}
use mathlib.Core.Path.{◌≡◌, refl, sym, ap, ◌∙◌}
use mathlib.Core.Bool.{Bool, true, false, cond, not, ◌||◌}
use mathlib.Core.List.{List, [], ◌++◌, append_assoc}
use lib.ListN.{length}
use lib.Dec.{eqb, ltb}
use borrow.Author.Tests.{eqb-true, eqb-false, ltb-true, ltb-false}
use Rattle.bench.specs.Log.{longest, refused_at, counted, log_of}
use Rattle.bench.specs.Bridge.{first_state, first_refusal, heard_of, refusal_of, rows_of, ending, first_line}
use Rattle.bench.specs.Verdict.{Verdict, at, verdict_of, LogTellsTheVerdict}
use Rattle.bench.proofs.Hearing.{log_is_run}

module _ (text : List ℕ) where
  abbrev heard : ℕ
  heard = length (heard_of text)

  -- verdict and end of the log by the three tests
  abbrev verdict_by : Bool → Bool → Bool → Verdict
  verdict_by long first later =
      cond long (at 1 0)
      (cond first (cond later (at 0 0) (at (refusal_of text) (heard + 2))) (at (first_refusal text) 1))

  abbrev end_by : Verdict → List ℕ
  end_by v = cond (eqb v.refusal 0) (counted heard) (refused_at v.refusal v.line)

  abbrev shown_by : Bool → Bool → List ℕ
  shown_by long first = cond (long || not first) [] (first_line text ++ rows_of (first_state text) (heard_of text))

  -- of the later lines it is the end as the run has it
  end_is :
      (later : Bool) → eqb (refusal_of text) 0 ≡ later
      → end_by (verdict_by false true later) ≡ ending (refusal_of text) heard
  end_is true e = sym (ap (λ (b : Bool). cond b (counted heard) (refused_at (refusal_of text) (heard + 2))) e)
  end_is false e = refl

  by_tests :
      (long first : Bool) → ltb longest (length text) ≡ long → eqb (first_refusal text) 0 ≡ first
      → log_of text ≡ shown_by long first ++ end_by (verdict_by long first (eqb (refusal_of text) 0))
  by_tests true first l f = (log_is_run text).too_long (ltb-true longest (length text) l)
  by_tests false false l f =
      (log_is_run text).line_1_refused (ltb-false longest (length text) l) (eqb-false (first_refusal text) 0 f)
      ∙ sym (ap (λ (b : Bool). cond b (counted heard) (refused_at (first_refusal text) 1)) f)
  by_tests false true l f =
      (log_is_run text).line_1_accepted (ltb-false longest (length text) l) (eqb-true (first_refusal text) 0 f)
      ∙ sym (append_assoc (first_line text) (rows_of (first_state text) (heard_of text)) (ending (refusal_of text) heard))
      ∙ ap (λ (e : List ℕ). first_line text ++ rows_of (first_state text) (heard_of text) ++ e)
      (sym (end_is (eqb (refusal_of text) 0) refl))

pub log_tells_the_verdict : LogTellsTheVerdict
unfolding verdict_of
log_tells_the_verdict text = by_tests text (ltb longest (length text)) (eqb (first_refusal text) 0) refl refl
