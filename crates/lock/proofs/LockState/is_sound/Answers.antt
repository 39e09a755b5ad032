-- `lock::LockState::is_sound` meets its contract: part by part.
use borrow.Author.Tests.{lt-ltb, le-ltb}
use mathlib.Core.Path.{◌≡◌, ap, ◌∙◌}
use mathlib.Core.Bool.{true}
use lib.Dec.{ltb}
use Rattle.lock.specs.Named.{edition_number}
use Rattle.lock.specs.State.{editions}
use Rattle.lock.specs.Sound.{sound}
use Rattle.lock.proofs.Ground.Editions.{edition_below}
use Rattle.lock.proofs.LockState.is_sound.Goals as goal

pub returns-in_default : goal.returns-in_default
unfolding sound
returns-in_default c = simp (le-ltb c.args.self.edition editions c.in_default.ensures.1)

pub returns : goal.returns
unfolding sound
returns c =
    let number = edition_number c.in-Ok.edition in
    let known : ltb c.args.self.edition editions ≡ true =
    ap (λ k. ltb k editions) c.in-Ok.ensures ∙ lt-ltb number editions (edition_below c.in-Ok.edition) in
    simp (known, c.none_or_below.ensures, c.sound_rows.ensures c.in-Ok.ensures)
