-- `lock::sound::place_sound` meets its contract: part by part, of the place that the number names; where it names none no edition has it.
use mathlib.Core.Path.{◌≡◌, ◌∙◌}
use Rattle.lock.specs.Named.{edition_number, place_number}
use Rattle.lock.specs.Sound.{has_place, place_sound}
use Rattle.lock.proofs.Ground.Editions.{has_beyond, rule_is}
use Rattle.lock.proofs.sound.place_sound.Goals as goal

pub returns-in_default : goal.returns-in_default
unfolding place_sound
returns-in_default c = simp (← has_beyond (edition_number c.args.edition) c.args.r.place c.in_default.ensures)

pub returns : goal.returns
unfolding place_sound
returns c =
    let has : c.has_place.result ≡ has_place (edition_number c.args.edition) (place_number c.in-Ok.place) =
    c.has_place.ensures ∙ rule_is _ _ in
    simp
    (c.in-Ok.ensures, has, c.is_there.ensures, c.is_there-2.ensures, c.is_there-3.ensures, c.wants_pred.ensures, c.wants_succ.ensures, c.wants_nx.ensures)
