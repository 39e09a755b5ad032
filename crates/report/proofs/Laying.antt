-- The lent rows after a report, row by row.
--     rows_are_laid     N tallies where nothing is refused; all others as they were
-- Assumes nothing.
use Prim.Native.Nat.{ℕ, ◌+◌, ◌-◌, ◌≤◌, ◌<◌}
use native.Mathlib.Omega.{arith}
use mathlib.Core.Path.{◌≡◌, refl, sym, ap, ◌∙◌, subst}
use mathlib.Core.Logic.{⊎_elim}
use mathlib.Core.Bool.{Bool, true, false, not}
use mathlib.Core.List.{List, ◌++◌}
use lib.ListN.{length, get_or, take, drop, length-append, length-drop, get_or-append}
use lib.Seq.{length-take-le, get_or-take, get_or-drop, get_or-append-add}
use lib.Dec.{eqb, ltb}
use borrow.Author.Tests.{eqb-true, eqb-false, eq-eqb, ltb-false}
use Rattle.choice.proofs.Tests.{cases, clash, and_left, and_right}
use Rattle.lock.specs.State.{processors}
use Rattle.bench.specs.Bridge.{processors_of}
use Rattle.bench.specs.Verdict.{verdict_of}
use Rattle.report.specs.declared.Tally.{Tally}
use Rattle.report.specs.Table.{upto}
use Rattle.report.specs.Report.{tally_of, reported_of, measured_of, rows_after}
use Rattle.report.specs.Laid.{Laid, RowsAreLaid}
use Rattle.report.proofs.Upto.{length_upto, upto_at}
use Rattle.report.proofs.Measuring.{processors_within}
use Rattle.report.proofs.Orders.{unrefused, refused_adds_nothing}

module _ (text : List ℕ) (table : List (List ℕ)) (rows : List Tally) where
  abbrev n : ℕ
  n = processors_of text

  abbrev tallies : List Tally
  tallies = upto processors (tally_of text)

  abbrev refusal : ℕ
  refusal = (reported_of text table (length rows)).refusal

  -- nothing is refused: N rows are laid down, and there are so many
  module _ (none : refusal ≡ 0) where
    rows_are : rows_after text table rows ≡ take n tallies ++ drop n rows
    unfolding rows_after measured_of
    rows_are = simp (eq-eqb refusal 0 none)

    passed : (eqb (verdict_of text).refusal 0 ≡ true) × (not (ltb (length rows) n) ≡ true)
    passed =
        let both = (unrefused table (record { text = text; lent = length rows }) (eq-eqb refusal 0 none)).0 in (
          and_left (eqb (verdict_of text).refusal 0) (not (ltb (length rows) n)) both,
          and_right (eqb (verdict_of text).refusal 0) (not (ltb (length rows) n)) both,
        )

    lent : n ≤ length rows
    lent = ltb-false (length rows) n (off (ltb (length rows) n) passed.1)
      where
        off : (b : Bool) → not b ≡ true → b ≡ false
        off true e = sym e
        off false e = refl

    within : n ≤ processors
    within = processors_within text (eqb-true (verdict_of text).refusal 0 passed.0)

    long : length (take n tallies) ≡ n
    long = length-take-le n tallies (subst (λ (k : ℕ). n ≤ k) (sym (length_upto (tally_of text) processors)) within)

    laid : Laid text table rows
    laid = record {
      as_many =
          ap length rows_are
          ∙ length-append (take n tallies) (drop n rows)
          ∙ omega (arith, long, length-drop n rows, lent);
      below_n = λ h p d l.
          ap (λ (x : List Tally). get_or x p d) rows_are
          ∙ get_or-append (take n tallies) (drop n rows) d p (subst (λ (k : ℕ). p < k) (sym long) l)
          ∙ get_or-take n tallies p d l
          ∙ upto_at (tally_of text) processors p d (omega (arith, l, within));
      from_n = λ p d h.
          let split : p ≡ length (take n tallies) + (p - n) = omega (arith, long, h) in
          let back : n + (p - n) ≡ p = omega (arith, h) in
          ap (λ (x : List Tally). get_or x p d) rows_are
          ∙ ap (λ (k : ℕ). get_or (take n tallies ++ drop n rows) k d) split
          ∙ get_or-append-add (take n tallies) (drop n rows) (p - n) d
          ∙ get_or-drop n rows (p - n) d
          ∙ ap (λ (k : ℕ). get_or rows k d) back;
    }

  kept : eqb refusal 0 ≡ false → Laid text table rows
  kept some =
      let same : rows_after text table rows ≡ rows = (refused_adds_nothing text table rows (eqb-false refusal 0 some)).rows_stay in
      record {
        as_many = ap length same;
        below_n = λ h p d l. clash (eq-eqb refusal 0 h) some;
        from_n = λ p d h. ap (λ (x : List Tally). get_or x p d) same;
      }

pub rows_are_laid : RowsAreLaid
rows_are_laid text table rows =
    ⊎_elim (λ (e : eqb (refusal text table rows) 0 ≡ true). laid text table rows (eqb-true (refusal text table rows) 0 e))
    (λ (e : eqb (refusal text table rows) 0 ≡ false). kept text table rows e)
    (cases (eqb (refusal text table rows) 0))
