-- The loop of `frame::pairs::put_pairs`: the buffer begins with the digits of the values passed and is as it was after them.
use Rattle.std.proofs.Common.{◌≡◌, ◌*◌, ◌++◌, take, drop}
use Rattle.frame.specs.Writing.{digits_of}
use Rattle.frame.proofs.pairs.put_pairs.Given as goal

abbrev pub invariant-loop-i : goal.invariant-loop-i
invariant-loop-i l = l.out ≡ digits_of (take l.i l.values) ++ drop (2 * l.i) l.initial.out
