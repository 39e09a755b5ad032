-- `frame::pairs::read_pairs` meets its contract: two bytes more are tested, and put down as one pair more.
use Rattle.std.proofs.Common.{◌≡◌, ℕ, replicate, refl, ap, ◌∙◌, arith}
use Rattle.std.proofs.lemmas.List.{length-replicate}
use Rattle.choice.specs.Every.{every}
use Rattle.frame.specs.Pairs.{pairs_from}
use Rattle.frame.specs.Reading.{pairs_of}
use Rattle.frame.proofs.Pass.{digits_go_on, pairs_go_on, pairs_are}
use Rattle.frame.proofs.pairs.read_pairs.Goals as goal

pub loop-i-init : goal.loop-i-init
unfolding every pairs_from
loop-i-init g c = record { tested = refl; read = λ e. refl }

pub loop-i-preserved : goal.loop-i-preserved
loop-i-preserved g c =
    let at = c.loop-i in
    let high = c.worth-high in
    let low = c.worth-low in
    let text = c.args.text.now in record {
      tested = digits_go_on text at.i high.result low.result at.all high.ensures low.ensures at.invariant.tested;
      read =
          pairs_go_on text at.i high.result low.result at.all high.ensures low.ensures _ at.number-items
          c.joined.result c.joined.ensures (omega (arith, length-replicate {A = ℕ})) at.invariant.read;
    }

pub returns : goal.returns
returns g c =
    let at = c.loop-i in
    let ended : at.i ≡ g.row.N = omega arith in
    c.then_some.ensures
    ∙ pairs_are at.i c.args.text.now (replicate g.row.N 0) at.number-items at.all (omega (arith, length-replicate {A = ℕ}))
    at.invariant.tested at.invariant.read
    ∙ ap (λ k. pairs_of k c.args.text.now) ended
