-- `lock::LockState::put_row` meets its contract: past the rows nothing is replaced.
use borrow.Author.Rules.{rules}
use Prim.Native.Nat.{◌≤◌}
use mathlib.Core.List.{List}
use mathlib.Core.Path.{◌≡◌, sym, ap}
use lib.ListN.{length}
use lib.Seq.{set_out}
use native.Mathlib.Omega.{arith}
use Rattle.lock.specs.declared.Row.{Row}
use Rattle.lock.specs.declared.LockState.{LockState}
use Rattle.lock.specs.State.{processors, put_row}
use Rattle.lock.proofs.Ground.Rows.{length_mapped}
use Rattle.lock.proofs.LockState.put_row.Goals as goal

pub returns-then-p-lt-PROCESSORS : goal.returns-then-p-lt-PROCESSORS
unfolding put_row
returns-then-p-lt-PROCESSORS c = search rules

with_rows : LockState → List Row → LockState
with_rows s rows = record { edition = s.edition; n = s.n; tail = s.tail; rows = rows }

pub returns-else-p-lt-PROCESSORS : goal.returns-else-p-lt-PROCESSORS
unfolding put_row with_rows
returns-else-p-lt-PROCESSORS c =
    let a = c.args in
    let n : length a.self.rows ≡ processors = search (length_mapped, rules) in
    let h : length a.self.rows ≤ a.p = omega arith in
    ap (with_rows a.self) (sym (set_out a.self.rows a.p a.r h))
