-- `frame::reading::read_line` meets its contract: what each test has shown is a condition of the refusal's law.
use Rattle.std.proofs.Common.{◌≡◌, Err, sym, ap, ◌∙◌, arith}
use Rattle.frame.specs.Pairs.{sum_of}
use Rattle.std.proofs.lemmas.Result.{err_from_is_err_and}
use Rattle.frame.specs.declared.Refusal.TheVariants.{NotDigits}
use Rattle.frame.specs.Reading.{told_line}
use Rattle.frame.proofs.Lines.{first_pair}
use Rattle.frame.proofs.Refusals.{whole_line, pairs_read, pairs_unread, is_two, is_three, is_four, is_five, is_zero}
use Rattle.frame.proofs.reading.read_line.Goals as goal

pub returns-then-is_torn : goal.returns-then-is_torn
returns-then-is_torn g c = sym (is_two _ _ _ (sym c.is_torn.ensures ∙ c.if-is_torn.true))

pub read_pairs-requires : goal.read_pairs-requires
read_pairs-requires g c =
    let long = whole_line g.row.N c.args.text.now (sym c.is_torn.ensures ∙ c.if-is_torn.false) in
    (omega arith, omega arith)

pub returns-in_err-numbers : goal.returns-in_err-numbers
returns-in_err-numbers g c =
    let unread = pairs_unread g.row.N c.args.text.now (sym c.in_err-numbers.ensures.ok_part ∙ c.read_pairs.ensures) in
    let p = err_from_is_err_and c.from_residual.result c.from_residual.ensures.1 in
    let is : c.from_residual.result ≡ Err NotDigits = cc (p.1, p.2, c.in_err-numbers.ensures.value, c.in_err-numbers.ensures.ok_part) in
    ap told_line is ∙ sym (is_three _ _ _ (sym c.is_torn.ensures ∙ c.if-is_torn.false) unread)

-- after the first test the line is whole, after the second it is of digits and read, after the third its sum is 0

pub returns-then-sum-ne0 : goal.returns-then-sum-ne0
returns-then-sum-ne0 g c =
    let read = pairs_read g.row.N c.args.text.now _ (sym c.in_ok-numbers.ensures.ok_part ∙ c.read_pairs.ensures) in
    sym
    (is_four _ _ _ (sym c.is_torn.ensures ∙ c.if-is_torn.false) read.0
    (λ e. c.if-sum-ne0.true (c.sum.ensures ∙ ap sum_of read.1 ∙ e)))

pub returns-then-numbers-from : goal.returns-then-numbers-from
returns-then-numbers-from g c =
    let read = pairs_read g.row.N c.args.text.now _ (sym c.in_ok-numbers.ensures.ok_part ∙ c.read_pairs.ensures) in
    let first = first_pair g.row.N c.args.text.now _ c.requires.0 read.1 in
    sym
    (is_five _ _ _ (sym c.is_torn.ensures ∙ c.if-is_torn.false) read.0
    (ap sum_of (sym read.1) ∙ sym c.sum.ensures ∙ c.if-sum-ne0.false) (λ e. c.if-numbers-from.true (first ∙ e ∙ sym c.from.ensures)))

pub returns : goal.returns
returns g c =
    let read = pairs_read g.row.N c.args.text.now _ (sym c.in_ok-numbers.ensures.ok_part ∙ c.read_pairs.ensures) in
    let first = first_pair g.row.N c.args.text.now _ c.requires.0 read.1 in
    ap (λ ns. record { refusal = 0; numbers = ns }) read.1
    ∙ sym
    (is_zero _ _ _ (sym c.is_torn.ensures ∙ c.if-is_torn.false) read.0
    (ap sum_of (sym read.1) ∙ sym c.sum.ensures ∙ c.if-sum-ne0.false) (sym first ∙ c.if-numbers-from.false ∙ c.from.ensures))
