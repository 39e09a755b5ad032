-- The loop of `frame::pairs::read_pairs`: `all` is the test of every byte passed, and where it holds, `numbers` begins with
-- the pairs passed and is as it was after them.
use Rattle.std.proofs.Common.{◌≡◌, ◌*◌, true, ◌++◌, drop}
use Rattle.choice.specs.Every.{every}
use Rattle.frame.specs.Pairs.{is_digit, byte_at, pairs_from}
use Rattle.frame.proofs.pairs.read_pairs.Given as goal

abbrev pub invariant-loop-i : goal.invariant-loop-i
invariant-loop-i g l = record {
  tested : l.all ≡ every (2 * l.i) (λ b. is_digit (byte_at l.text b));
  read : l.all ≡ true → l.number-items ≡ pairs_from 0 l.i l.text ++ drop l.i l.initial.number-items;
}
