-- What is told of an answer is the whole answer: two with the same told are one.
--     told_one             of a table, or a refusal
--     told_measured_one    by value
--     one_answer           so only one answer fits each public contract
-- Assumes nothing.
use Prim.Native.Nat.{ℕ}
use mathlib.Core.Path.{◌≡◌, refl, sym, ap, ◌∙◌}
use mathlib.Core.List.{List}
use borrow.Author.Tests.{eq-eqb}
use Rattle.std.specs.Prelude.{Result, Ok, Err}
use Rattle.choice.proofs.Tests.{clash}
use Rattle.report.specs.declared.Tally.{Tally}
use Rattle.report.specs.declared.Refusal.{Refusal}
use Rattle.report.specs.declared.Refused.{Refused}
use Rattle.report.specs.declared.Measured.{Measured as Found}
use Rattle.report.specs.Named.{number}
use Rattle.report.specs.Table.{Reported, told}
use Rattle.report.specs.Report.{Measured, told_measured}
use Rattle.report.specs.Unique.{OnlyOneAnswerFits}
use Rattle.report.proofs.Numbers.{not_zero, number_one}

same_refused : (r s : Refused) → r.refusal ≡ s.refusal → r.line ≡ s.line → r.table ≡ s.table → r ≡ s
same_refused r s e l t =
    ap (λ (x : Refusal). record { refusal = x; line = r.line; table = r.table }) e
    ∙ ap (λ (x : ℕ). record { refusal = s.refusal; line = x; table = r.table }) l
    ∙ ap (λ (x : List (List ℕ)). record { refusal = s.refusal; line = s.line; table = x }) t

same_found : (m o : Found) → m.table ≡ o.table → m.count ≡ o.count → m.rows ≡ o.rows → m ≡ o
same_found m o t n r =
    ap (λ (x : List (List ℕ)). record { table = x; count = m.count; rows = m.rows }) t
    ∙ ap (λ (x : ℕ). record { table = o.table; count = x; rows = m.rows }) n
    ∙ ap (λ (x : List Tally). record { table = o.table; count = o.count; rows = x }) r

-- nothing refused is told as a refusal
accepted_told : (r : Refused) (n : ℕ) → n ≡ number r.refusal → n ≡ 0 → ⊥
accepted_told r n e z = clash (eq-eqb (number r.refusal) 0 (sym e ∙ z)) (not_zero r.refusal)

pub told_one : (r s : Result (List (List ℕ)) Refused) → told r ≡ told s → r ≡ s
told_one (Ok t) (Ok u) e = ap (λ (x : Reported). Ok x.table) e
told_one (Ok t) (Err s) e = absurd (accepted_told s 0 (ap (λ (x : Reported). x.refusal) e) refl)
told_one (Err r) (Ok u) e = absurd (accepted_told r 0 (sym (ap (λ (x : Reported). x.refusal) e)) refl)
told_one (Err r) (Err s) e =
    ap (λ (x : Refused). Err x)
    (same_refused r s (number_one r.refusal s.refusal (ap (λ (x : Reported). x.refusal) e)) (ap (λ (x : Reported). x.line) e)
    (ap (λ (x : Reported). x.table) e))

pub told_measured_one : (m o : Result Found Refused) → told_measured m ≡ told_measured o → m ≡ o
told_measured_one (Ok m) (Ok o) e =
    ap (λ (x : Found). Ok x)
    (same_found m o (ap (λ (x : Measured). x.told.table) e) (ap (λ (x : Measured). x.count) e) (ap (λ (x : Measured). x.rows) e))
told_measured_one (Ok m) (Err s) e = absurd (accepted_told s 0 (ap (λ (x : Measured). x.told.refusal) e) refl)
told_measured_one (Err r) (Ok o) e = absurd (accepted_told r 0 (sym (ap (λ (x : Measured). x.told.refusal) e)) refl)
told_measured_one (Err r) (Err s) e =
    ap (λ (x : Refused). Err x)
    (same_refused r s (number_one r.refusal s.refusal (ap (λ (x : Measured). x.told.refusal) e))
    (ap (λ (x : Measured). x.told.line) e) (ap (λ (x : Measured). x.told.table) e))

pub one_answer : OnlyOneAnswerFits
one_answer = record {
  to_report = λ text table rows r s after kept e f g h. (told_one r s (e ∙ sym g), f ∙ sym h);
  to_by_value = λ text table lent m o e f. told_measured_one m o (e ∙ sym f);
  to_added = λ t m r s e f. told_one r s (e ∙ sym f);
  to_laid_down = λ m r s e f. e ∙ sym f;
  of_number = λ refusal r s e f. e ∙ sym f;
  of_schedule = λ schedule r s e f. e ∙ sym f;
}
