-- `board::pontivesca_report` meets its contract: the report by value, with its tallies laid down; or its refusal, and all as it was.
use Rattle.std.proofs.Common.{◌≡◌, ◌/◌, ◌*◌, ◌++◌, Ok, Err, length, take, drop, sym, ap, ◌∙◌, rules, arith}
use lib.Seq.{length-take-le}
use Rattle.report.specs.Table.{Reported, told}
use Rattle.report.specs.Report.{Measured, told_measured, reported_of}
use Rattle.report.proofs.Numbers.{not_zero}
use Rattle.board.specs.Numbers.{numbers_of, numbers_after}
use Rattle.board.proofs.Laid.{told_is, table_stays, numbers_are}
use Rattle.board.proofs.pontivesca_report.Goals as goal

pub returns-in-Ok : goal.returns-in-Ok
returns-in-Ok c =
    let text = c.args.schedule.now in
    let table = c.args.table.now in
    let lent = length c.args.rows.now / 3 in
    let m = c.in-Ok.measured in
    let rows : length m.rows ≡ 16 = search rules in
    let answer : told (Ok m.table) ≡ reported_of text table lent =
    ap (λ (k : Measured). k.told) c.in-Ok.ensures.value ∙ told_is text table lent in
    record {
      value = ap (λ (r : Reported). r.refusal) answer;
      line_after = ap (λ (r : Reported). r.line) answer;
      table_after = ap (λ (r : Reported). r.table) answer;
      rows_after =
          numbers_are text table c.args.rows.now (told_measured (Ok m)) c.laid_down.result.now c.lay.new.rows c.in-Ok.ensures.value
          c.laid_down.ensures (ap length c.laid_down.ensures ∙ length-take-le m.count m.rows (omega (arith, rows, c.in-Ok.ensures.count_le_lent.1))) c.lay.ensures;
    }

pub returns-in-Err : goal.returns-in-Err
unfolding numbers_of numbers_after
returns-in-Err c =
    let text = c.args.schedule.now in
    let table = c.args.table.now in
    let lent = length c.args.rows.now / 3 in
    let r = c.in-Err.refused in
    let answer : told (Err r) ≡ reported_of text table lent =
    ap (λ (k : Measured). k.told) c.in-Err.ensures.value ∙ told_is text table lent in
    record {
      value = c.from.ensures ∙ ap (λ (x : Reported). x.refusal) answer;
      line_after = ap (λ (x : Reported). x.line) answer;
      table_after = sym (table_stays text table lent (told (Err r)) answer (not_zero r.refusal));
      rows_after =
          ap (λ (k : Measured). numbers_of (take k.count k.rows) ++ drop (3 * k.count) c.args.rows.now) c.in-Err.ensures.value;
    }
