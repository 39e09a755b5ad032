-- Any sequence of calls of the library's `event` from `LockState::fresh` is a run of the step table
-- (calls_are_a_run). In order: what the fresh state's refusals leave, that a fresh state in range is whole (range_whole), and one more
-- call at the end of a run.
use Prim.Native.Nat.{ℕ, zero, suc, ◌<◌}
use native.Mathlib.Omega.{arith}
use mathlib.Core.Path.{◌≡◌, refl, sym, ap, ◌∙◌, subst}
use mathlib.Core.Bool.{Bool, true, false, ◌||◌, cond}
use mathlib.Core.List.{[], ◌∷◌}
use lib.Dec.{eqb, ltb, leb}
use borrow.Author.Tests.{ltb-false, leb-false, eqb-false, ne_eqb, le-leb}
use Rattle.choice.proofs.Tests.{clash}
use Rattle.lock.specs.declared.LockState.{LockState}
use Rattle.lock.specs.Event.{Answer}
use Rattle.lock.specs.State.{processors, editions, is_plain, is_drawn, is_guarded, is_old, fresh_state}
use Rattle.lock.specs.Event.{accepted, refused, filler, fresh}
use Rattle.lock.specs.Run.{after, run}
use Rattle.lock.specs.Kept.{Whole}
use Rattle.lock.specs.Claims.{AnyEdition, made, answered, IsRun, CallsAreARun}
use Rattle.lock.proofs.Keeping.{fresh_whole}
use Rattle.lock.proofs.Waiting.Counting.{run_append}

-- an edition that there is is one of the four
edition_named : (e : ℕ) → e < editions → (is_plain e || is_drawn e || is_guarded e || is_old e) ≡ true
edition_named zero h = refl
edition_named (suc zero) h = refl
edition_named (suc (suc zero)) h = refl
edition_named (suc (suc (suc zero))) h = refl
edition_named (suc (suc (suc (suc e)))) h = absurd (omega arith)

-- and one of the four is one that there is
named_there : (e : ℕ) → (is_plain e || is_drawn e || is_guarded e || is_old e) ≡ true → ltb e editions ≡ true
named_there zero h = refl
named_there (suc zero) h = refl
named_there (suc (suc zero)) h = refl
named_there (suc (suc (suc zero))) h = refl
named_there (suc (suc (suc (suc e)))) h =
    let past : (k : ℕ) → k < editions → eqb (suc (suc (suc (suc e)))) k ≡ false = λ k low. ne_eqb _ k (λ q. absurd (omega arith)) in
    clash h (simp (past 0 (omega arith), past 1 (omega arith), past 2 (omega arith), past 3 (omega arith)))

pub range_whole : (e n : ℕ) → AnyEdition e n → Whole (fresh_state e n)
range_whole e n r =
    fresh_whole e n (named_there e r.edition) (le-leb 1 n r.least) (le-leb n processors r.most)

-- the fresh state's answer, by the outcomes of its tests
abbrev fresh_by : Bool → Bool → Bool → LockState → Answer
fresh_by over nobody many s = cond over (refused 6 filler) (cond (nobody || many) (refused 7 filler) (accepted s))

module _ (e n : ℕ) where
  fresh_by_tests : (over nobody many : Bool) → leb editions e ≡ over → eqb n 0 ≡ nobody → ltb processors n ≡ many
      → (fresh e n).refusal ≡ 0 → IsRun e n [] (fresh e n).state
  unfolding fresh run
  fresh_by_tests over nobody many f g h = by over nobody many f g h
    where
      told :
          (over nobody many : Bool) → leb editions e ≡ over → eqb n 0 ≡ nobody → ltb processors n ≡ many
          → fresh e n ≡ fresh_by over nobody many (fresh_state e n)
      told over nobody many f g h = λ i. fresh_by (f i) (g i) (h i) (fresh_state e n)

      by :
          (over nobody many : Bool) → leb editions e ≡ over → eqb n 0 ≡ nobody → ltb processors n ≡ many
          → (fresh e n).refusal ≡ 0 → IsRun e n [] (fresh e n).state
      by true nobody many f g h ok =
          let six : ◌≡◌ {A = ℕ} 6 0 = sym (ap (λ a. a.refusal) (told true nobody many f g h)) ∙ ok in absurd
          (omega arith)
      by false true many f g h ok =
          let seven : ◌≡◌ {A = ℕ} 7 0 = sym (ap (λ a. a.refusal) (told false true many f g h)) ∙ ok in absurd
          (omega arith)
      by false false true f g h ok =
          let seven : ◌≡◌ {A = ℕ} 7 0 = sym (ap (λ a. a.refusal) (told false false true f g h)) ∙ ok in absurd
          (omega arith)
      by false false false f g h ok =
          let some : n ≡ 0 → ⊥ = eqb-false n 0 g in
          record {
            range =
                record {
                  edition = edition_named e
                      (leb-false editions e f);
                  least = omega arith;
                  most = ltb-false processors n h;
                };
            state = ap (λ a. a.state) (told false false false f g h);
          }

pub calls_are_a_run : CallsAreARun
unfolding run after
calls_are_a_run e n calls s (made a is ok) =
    subst (λ b. IsRun e n [] b.state) (sym is)
    (fresh_by_tests e n (leb editions e) (eqb n 0) (ltb processors n) refl refl refl (ap (λ b. b.refusal) (sym is) ∙ ok))
calls_are_a_run e n calls s (answered earlier t c a held is) =
    let so : IsRun e n earlier t = calls_are_a_run e n earlier t held in
    record {
      range = so.range;
      state =
          ap (λ b. b.state) is ∙ ap (λ x. after x c) so.state ∙ sym (run_append (fresh_state e n) earlier (c ∷ []));
    }
