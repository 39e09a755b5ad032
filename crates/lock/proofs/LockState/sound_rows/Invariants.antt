-- The loop's invariant: where the edition is the state's, `ok` is the test of the rows below `i`.
use mathlib.Core.Path.{◌≡◌}
use Rattle.choice.specs.Every.{every}
use Rattle.lock.specs.Named.{edition_number}
use Rattle.lock.specs.Sound.{sound_row}
use Rattle.lock.proofs.LockState.sound_rows.Given as goal

abbrev pub invariant-loop-i : goal.invariant-loop-i
invariant-loop-i l = l.fn.self.edition ≡ edition_number l.fn.edition → l.ok ≡ every l.i (sound_row l.fn.self)
