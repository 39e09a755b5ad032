-- `lock::sound::cells_sound` meets its contract: part by part.
use Rattle.lock.specs.Sound.{cells_sound}
use Rattle.lock.proofs.sound.cells_sound.Goals as goal

pub returns : goal.returns
unfolding cells_sound
returns c =
    simp
    (c.none_or_below.ensures, c.none_or_below-2.ensures, c.none_or_below-3.ensures, c.none_or_below-4.ensures, c.from.ensures)
