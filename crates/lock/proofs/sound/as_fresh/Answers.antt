-- `lock::sound::as_fresh` meets its contract: the cells are compared in the definition's order.
use mathlib.Core.Bool.{Bool, true, false, not, ◌&&◌, beq}
use mathlib.Core.Path.{◌≡◌, refl}
use lib.Dec.{eqb}
use Rattle.lock.specs.State.{is_none}
use Rattle.lock.specs.Sound.{as_fresh}
use Rattle.lock.proofs.sound.as_fresh.Goals as goal

-- a row's eight comparisons, of which those of guard and flag are with false
eight : (next locked guard flag place pred succ nx : Bool) → (next && (locked && (beq guard false && (beq flag false && (place && (pred && (succ && nx))))))) ≡ (next && locked && not guard && not flag && place && pred && succ && nx)
eight false _ _ _ _ _ _ _ = refl
eight true false _ _ _ _ _ _ = refl
eight true true true _ _ _ _ _ = refl
eight true true false true _ _ _ _ = refl
eight true true false false false _ _ _ = refl
eight true true false false true false _ _ = refl
eight true true false false true true false _ = refl
eight true true false false true true true _ = refl

pub returns : goal.returns
unfolding as_fresh
returns c =
    let r = c.args.r in
    simp
    (c.eq.ensures, c.fresh.ensures)
    (eight (is_none r.next) (eqb r.locked 0) r.guard r.flag (eqb r.place 0) (is_none r.pred) (is_none r.succ) (is_none r.nx))
