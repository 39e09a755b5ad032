-- `lock::LockState::sound_rows` meets its contract: one row more in each turn of the loop.
use borrow.Author.Rules.{rules}
use Prim.Native.Nat.{ℕ, ◌+◌}
use mathlib.Core.Bool.{Bool, ◌&&◌, cond}
use lib.Dec.{ltb}
use mathlib.Core.Path.{◌≡◌, refl}
use native.Mathlib.Numerals.{add-one}
use native.Mathlib.Omega.{arith}
use lib.ListN.{length}
use Rattle.lock.specs.declared.Row.{Row}
use Rattle.lock.specs.declared.LockState.{LockState}
use Rattle.choice.specs.Every.{every}
use Rattle.lock.specs.Sound.{cells_sound, place_sound, as_fresh, sound_row}
use Rattle.lock.specs.State.{processors, row}
use Rattle.lock.proofs.Ground.Rows.{length_mapped, row_within}
use Rattle.lock.proofs.LockState.sound_rows.Goals as goal

pub loop-i-init : goal.loop-i-init
unfolding every
loop-i-init c = λ same. refl

-- one row more
one_more : (s : LockState) (e i : ℕ) (ok b : Bool) (r : Row) → s.edition ≡ e → r ≡ row s i → ok ≡ every i (sound_row s) → b ≡ cond (ltb i s.n) (cells_sound s.n r && place_sound e r) (as_fresh r) → (ok && b) ≡ every (i + 1) (sound_row s)
unfolding every sound_row
one_more s e i ok b r same it all one = simp (add-one, all, one, it, ← same)

pub loop-i-preserved : goal.loop-i-preserved
loop-i-preserved c = λ same.
    let at = c.loop-i in
    let s = c.args.self in
    let n : length s.rows ≡ processors = search (length_mapped, rules) in
    one_more s _ at.i _ _ _ same (row_within s at.i (omega arith)) (at.invariant same) c.sound_row-ok.ensures
