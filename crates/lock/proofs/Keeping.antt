-- Soundness is kept: the acts put together into a step, an event and a run, and the claims of Kept proved. Parts has
-- soundness in parts, Puts the puts, Acts the acts one by one. A whole state is a sound one with its sixteen rows.
--     step_kept, after_kept, event_kept, run_kept      a step, an event, refused or not, and a schedule keep a whole state whole
--     fresh_whole, fresh_kept              the fresh state is whole, and so is the filler
--     fresh_is_sound, sound_is_kept, never_unsound         the claims
pub mod Parts
pub mod Puts
pub mod Acts
use Prim.Native.Nat.{ℕ, ◌<◌}
use native.Mathlib.Omega.{arith}
use mathlib.Core.Path.{◌≡◌, refl, sym, subst}
use mathlib.Core.Bool.{Bool, true, false, cond, not, ◌||◌}
use mathlib.Core.List.{List, [], ◌∷◌}
use lib.Dec.{eqb, ltb, leb}
use borrow.Author.Tests.{ltb-false, leb-true, leb-false, eqb-false, le-leb, lt-ltb}
use Rattle.lock.specs.declared.LockState.{LockState}
use Rattle.lock.specs.Event.{Answer}
use Rattle.choice.specs.Every.{every}
use Rattle.lock.specs.State.{processors, editions, fresh_row, fresh_state, row}
use Rattle.lock.specs.Sound.{has_place, place_sound, as_fresh, sound}
use Rattle.lock.specs.Table.{Place, place_at, act, stepped}
use Rattle.lock.specs.Event.{accepted, refused, filler, fresh, raised, happens}
use Rattle.lock.specs.Run.{Call, after, run}
use Rattle.lock.specs.Kept.{Whole, FreshIsSound, SoundIsKept, NeverUnsound}
use Rattle.lock.proofs.Keeping.Parts.{Fits, Ready, standing, ready, whole}
use Rattle.lock.proofs.Keeping.Puts.{nothing, suits, suited, flag_kept}
use Rattle.lock.proofs.Keeping.Acts.{acts}
use Rattle.lock.proofs.Ground.Places.{each, place_far}
use Rattle.lock.proofs.Ground.Writes.{fresh_row_there}
use Rattle.lock.proofs.Ground.Calls.{Kind, idle, raise, step, kind}

-- by the number of p's place, if it is one
step_kept : {s : LockState} {p : ℕ} → Whole s → p < s.n → Whole (stepped s p)
unfolding stepped
step_kept {s} {p} w below =
    each (λ m. Ready s p (standing m) → Whole (act (place_at m) s p)) (acts w)
    (λ m far x. subst (λ (k : Place). Whole (act k s p)) (sym (place_far m far)) w) (row s p).place (ready w below)

-- a call, refused or not
after_kept : (s : LockState) (c : Call) → Whole s → Whole (after s c)
unfolding raised
after_kept s c w = by (kind s c)
  where
    by : Kind s c → Whole (after s c)
    by (idle e still) = subst Whole (sym e) w
    by (raise a e still) = subst Whole (sym e) (flag_kept true w a.below)
    by (step a e whose) = subst Whole (sym e) (step_kept w a.below)

pub event_kept : (s : LockState) (event p : ℕ) → Whole s → Whole (happens s event p).state
unfolding after
event_kept s event p w = after_kept s (record { event = event; processor = p }) w

pub run_kept : (s : LockState) (calls : List Call) → Whole s → Whole (run s calls)
unfolding run
run_kept s [] w = w
run_kept s (c ∷ cs) w = run_kept (after s c) cs (after_kept s c w)

fresh_place : (e : ℕ) → ltb e editions ≡ true → place_sound e fresh_row ≡ true
unfolding suits every has_place
fresh_place e small =
    suited nothing 0 e fresh_row refl small refl (record { pred = refl; succ = refl; nx = refl })

fresh_fits : (e n i : ℕ) → ltb e editions ≡ true → Fits e n 0 i fresh_row
unfolding as_fresh
fresh_fits e n i small =
    record {
      cells = λ low. record { next = refl; pred = refl; succ = refl; nx = refl; locked = refl };
      place = λ low other. fresh_place e small;
      fresh = λ far room. refl;
    }

pub fresh_whole : (e n : ℕ) → ltb e editions ≡ true → leb 1 n ≡ true → leb n processors ≡ true → Whole (fresh_state e n)
unfolding fresh_state
fresh_whole e n small least most =
    whole
    (record {
      rooms = refl;
      small = small;
      least = least;
      most = most;
      tail = refl;
      rows = λ i. rw (fresh_row_there e n i) (fresh_fits e n i small);
      below = leb-true 1 n least;
    })
    (rw (fresh_row_there e n 0) (fresh_place e small))

-- fresh, by its tests: an edition that there is not, an N that is 0, an N over the limit
fresh_outcome :
    (over empty high : Bool) (s : LockState) → (over ≡ false → empty ≡ false → high ≡ false → Whole s)
    → Whole (cond over (refused 6 filler) (cond (empty || high) (refused 7 filler) (accepted s))).state
fresh_outcome true empty high s f = fresh_whole 0 1 refl refl refl
fresh_outcome false true high s f = fresh_whole 0 1 refl refl refl
fresh_outcome false false true s f = fresh_whole 0 1 refl refl refl
fresh_outcome false false false s f = f refl refl refl

pub fresh_kept : (e n : ℕ) → Whole (fresh e n).state
unfolding fresh
fresh_kept e n =
    fresh_outcome (leb editions e) (eqb n 0) (ltb processors n) (fresh_state e n)
    (λ low some most.
    let positive : n ≡ 0 → ⊥ = eqb-false n 0 some in
    fresh_whole e n (lt-ltb e editions (leb-false editions e low)) (le-leb 1 n (omega arith))
    (le-leb n processors (ltb-false processors n most)))

-- 11 is given where the state is not sound, so an accepted event had a sound one
accepted_sound :
    (fit : Bool) (s : LockState) (rest : Answer) → (cond (not fit) (refused 11 s) rest).refusal ≡ 0 → fit ≡ true
accepted_sound true s rest h = refl
accepted_sound false s rest h = absurd (omega arith)

pub fresh_is_sound : FreshIsSound
fresh_is_sound e n = (fresh_kept e n).fit

pub sound_is_kept : SoundIsKept
unfolding happens
sound_is_kept s event p rooms h =
    (event_kept s event p (record { rooms = rooms; fit = accepted_sound (sound s) s _ h })).fit

pub never_unsound : NeverUnsound
never_unsound e n calls = (run_kept (fresh e n).state calls (fresh_kept e n)).fit
