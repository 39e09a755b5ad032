-- Never two inside, over any run, from an invariant of states that holds at fresh, is kept by every call and says so
-- of one state. Once over the edition: the plain and the guarded edition are two of the four.
use Prim.Native.Nat.{ℕ, ◌≤◌}
use mathlib.Core.Path.{◌≡◌, refl}
use mathlib.Core.Bool.{Bool, true, false, ◌||◌}
use Rattle.choice.proofs.Tests.{clash}
use Rattle.lock.specs.State.{processors, editions, is_plain, is_drawn, is_guarded, is_old, fresh_state}
use Rattle.lock.specs.Run.{Call, after, run, is_inside}
use Rattle.lock.specs.Claims.{reached, Ordered, AnyEdition, NeverTwoInside, NeverTwoInsideAnyEdition}
use mathlib.Core.List.{List, [], ◌∷◌}
use lib.Dec.{ltb}
use borrow.Author.Tests.{eqb-true}
use Rattle.lock.specs.declared.LockState.{LockState}

-- an edition that is named is one of those that there are
edition_within_by : (e : ℕ) (plain drawn guarded old : Bool) → is_plain e ≡ plain → is_drawn e ≡ drawn → is_guarded e ≡ guarded
    → is_old e ≡ old → (plain || drawn || guarded || old) ≡ true → ltb e editions ≡ true
edition_within_by e true drawn guarded old f g h i k = rw (eqb-true e 0 f) refl
edition_within_by e false true guarded old f g h i k = rw (eqb-true e 1 g) refl
edition_within_by e false false true old f g h i k = rw (eqb-true e 2 h) refl
edition_within_by e false false false true f g h i k = rw (eqb-true e 3 i) refl
edition_within_by e false false false false f g h i k = clash k refl

edition_within : (e : ℕ) → (is_plain e || is_drawn e || is_guarded e || is_old e) ≡ true → ltb e editions ≡ true
edition_within e h = edition_within_by e (is_plain e) (is_drawn e) (is_guarded e) (is_old e) refl refl refl refl h

-- plain or guarded is one of the four
ordered_any_by : (plain drawn guarded old : Bool) → (plain || guarded) ≡ true → (plain || drawn || guarded || old) ≡ true
ordered_any_by true drawn guarded old h = refl
ordered_any_by false true guarded old h = refl
ordered_any_by false false true old h = refl
ordered_any_by false false false old h = clash h refl

ordered_any : (e n : ℕ) → Ordered e n → AnyEdition e n
ordered_any e n h =
    record {
      edition = ordered_any_by (is_plain e) (is_drawn e) (is_guarded e) (is_old e)
          h.edition;
      least = h.least;
      most = h.most;
    }

module _ (Excl : LockState → Type 0)
    (excl_fresh : (e n : ℕ) → ltb e editions ≡ true → 1 ≤ n → n ≤ processors → Excl (fresh_state e n))
    (excl_after : (s : LockState) (c : Call) → Excl s → Excl (after s c))
    (excl_inside : (s : LockState) (p q : ℕ) → Excl s → is_inside s p ≡ true → is_inside s q ≡ true → p ≡ q) where
  excl_run : (s : LockState) (cs : List Call) → Excl s → Excl (run s cs)
  unfolding run
  excl_run s [] h = h
  excl_run s (c ∷ cs) h = excl_run (after s c) cs (excl_after s c h)

  pub excl_reached : (e n : ℕ) (calls : List Call) → AnyEdition e n → Excl (reached e n calls)
  excl_reached e n calls h =
      excl_run (fresh_state e n) calls (excl_fresh e n (edition_within e h.edition) h.least h.most)

  pub never_two_inside_any_edition : NeverTwoInsideAnyEdition
  never_two_inside_any_edition e n calls p q h one two = excl_inside (reached e n calls) p q (excl_reached e n calls h) one two

  pub never_two_inside : NeverTwoInside
  never_two_inside e n calls p q h one two = never_two_inside_any_edition e n calls p q (ordered_any e n h) one two
