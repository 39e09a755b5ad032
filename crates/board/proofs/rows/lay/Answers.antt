-- `board::rows::lay` meets its contract: one tally more in each turn of the loop.
use Rattle.std.proofs.Common.{◌≡◌, ℕ, ◌*◌, ◌++◌, List, length, take, drop, refl, ap, ◌∙◌, arith}
use lib.Seq.{take-length}
use Rattle.report.specs.declared.Tally.{Tally}
use Rattle.board.specs.Numbers.{numbers_of}
use Rattle.board.proofs.Laid.{row_goes_on}
use Rattle.board.proofs.rows.lay.Goals as goal

pub loop-i-init : goal.loop-i-init
unfolding numbers_of
loop-i-init c = refl

pub loop-i-preserved : goal.loop-i-preserved
loop-i-preserved c =
    let at = c.loop-i in
    let a = c.args in
    row_goes_on a.tallies.now a.rows.now at.rows at.i (omega arith) (omega arith) at.invariant

pub returns : goal.returns
returns c =
    let at = c.loop-i in
    let a = c.args in
    let all : at.i ≡ length a.tallies.now = omega arith in
    at.invariant ∙ ap (λ (m : ℕ). numbers_of (take m a.tallies.now) ++ drop (3 * m) a.rows.now) all
    ∙ ap (λ (ts : List Tally). numbers_of ts ++ drop (3 * length a.tallies.now) a.rows.now) (take-length a.tallies.now)
