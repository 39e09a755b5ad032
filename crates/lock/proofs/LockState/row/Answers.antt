-- `lock::LockState::row` meets its contract: within the rows the default does not matter, past them the row is fresh.
use borrow.Author.Tests.{true-ltb, false-ltb}
use Prim.Native.Nat.{◌<◌, ◌≤◌}
use lib.ListN.{length, get_or, get_or-eq_default}
use mathlib.Core.Path.{◌∙◌, sym, ap}
use native.Mathlib.Omega.{arith}
use Rattle.lock.specs.State.{fresh_row, row}
use Rattle.lock.proofs.Ground.Rows.{get_d_any}
use Rattle.lock.proofs.LockState.row.Goals as goal

pub returns-in-Some : goal.returns-in-Some
unfolding row
returns-in-Some c =
    let rows = c.args.self.rows in
    let within : c.from.result < length rows = true-ltb c.from.result (length rows) c.in-Some.ensures.lookup.0 in
    c.in-Some.ensures.lookup.1 ∙ get_d_any rows c.from.result _ fresh_row within ∙ ap (λ k. get_or rows k fresh_row) c.from.ensures

pub returns-in-None : goal.returns-in-None
unfolding row
returns-in-None c =
    let rows = c.args.self.rows in
    let past : length rows ≤ c.from.result = false-ltb c.from.result (length rows) c.in-None.ensures.lookup.0 in
    let h : length rows ≤ c.args.p = omega (arith, past, c.from.ensures) in
    c.fresh.ensures ∙ sym (get_or-eq_default rows fresh_row h)
