-- `lock::LockState::fresh` meets its contract: the tests that led to a return pick the definition's case.
use borrow.Author.Tests.{le-leb, lt-leb, eq-eqb, ne_eqb, lt-ltb, le-ltb}
use Prim.Native.Nat.{ℕ, ◌<◌}
use mathlib.Core.Path.{◌≡◌, ap, ◌∙◌}
use mathlib.Core.Bool.{true, false, ◌||◌}
use mathlib.Core.Logic.{◌⊎◌, inl, inr}
use lib.Dec.{eqb, ltb, leb}
use Rattle.lock.specs.declared.Edition.{Edition}
use Rattle.lock.specs.Named.{edition_number}
use Rattle.lock.specs.State.{editions, processors}
use Rattle.lock.specs.Event.{fresh}
use Rattle.lock.proofs.Ground.Editions.{edition_below}
use Rattle.lock.proofs.LockState.fresh.Goals as goal

pub returns-in_default : goal.returns-in_default
unfolding fresh
returns-in_default c =
    simp (le-leb editions c.args.edition c.in_default.ensures.1, c.refused.ensures, c.fresh_state-filler.ensures)

-- a number that names an edition is no 6
known : {k : _} (e : Edition) → k ≡ edition_number e → leb editions k ≡ false
known e same = ap (λ k. leb editions k) same ∙ lt-leb editions (edition_number e) (edition_below e)

outside : (n : ℕ) → (n ≡ 0) ⊎ ((n ≡ 0 → ⊥) × processors < n) → eqb n 0 || ltb processors n ≡ true
outside n (inl e) = simp (eq-eqb n 0 e)
outside n (inr h) = simp (ne_eqb n 0 h.0, lt-ltb processors n h.1)

pub returns-then-n-eq0 : goal.returns-then-n-eq0
unfolding fresh
returns-then-n-eq0 c =
    simp
    (known c.in-Ok.edition c.in-Ok.ensures, outside c.args.n c.then-n-eq0.either, c.refused-then-n-eq0.ensures, c.fresh_state-filler.ensures)

pub returns : goal.returns
unfolding fresh
returns c =
    simp
    (known c.in-Ok.edition c.in-Ok.ensures, ne_eqb c.args.n 0 c.if-n-eq0.false, le-ltb processors c.args.n c.if-n-gt-PROCESSORS.false, c.fresh_state.ensures, ← c.in-Ok.ensures)
