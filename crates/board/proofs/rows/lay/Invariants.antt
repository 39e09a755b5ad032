-- The loop of `board::rows::lay`: the tallies below i are laid down, the rest is as it was.
use Rattle.std.proofs.Common.{◌≡◌, ◌++◌, ◌*◌, take, drop}
use Rattle.board.specs.Numbers.{numbers_of}
use Rattle.board.proofs.rows.lay.Given as goal

abbrev pub invariant-loop-i : goal.invariant-loop-i
invariant-loop-i l = l.rows ≡ numbers_of (take l.i l.tallies) ++ drop (3 * l.i) l.fn.rows
