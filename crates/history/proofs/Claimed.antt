-- The claims of request [6], each with its proof.
--     walk_follows              a schedule keeps the history following the pile
--     step_back                 the request's sentence
--     without_undos_as_before   and of a schedule without undos
--     of_not_undone             the one step by which a claim on runs becomes one on the events not undone
--     demand_three              demand 3 by that step
--     calls_are_a_walk          what a caller of the library holds
use Rattle.std.proofs.Common.{◌≡◌, ℕ, Bool, true, false, cond, not, ◌&&◌, ◌||◌, eqb, leb, List, [], ◌∷◌, ◌++◌, sym, refl, ap, ◌∙◌, true≢false}
use Rattle.std.proofs.lemmas.Bool.{not-true}
use Rattle.choice.proofs.Tests.{and_left, and_right}
use Rattle.lock.specs.declared.LockState.{LockState}
use Rattle.lock.specs.State.{fresh_state}
use Rattle.lock.specs.Sound.{sound}
use Rattle.lock.specs.Event as Lock
use Rattle.lock.specs.Event.{is_step, is_raise, fresh, happens}
use Rattle.lock.specs.Run.{Call, after, run}
use Rattle.lock.specs.Kept.{Whole}
use Rattle.lock.specs.Claims.{AnyEdition, IsRun, reached}
use Rattle.lock.specs.Claims as Runs
use Rattle.lock.proofs.Waiting.Counting.{run_append}
use Rattle.lock.proofs.Roof.Callers.{calls_are_a_run, range_whole}
use Rattle.lock.proofs.Roof.Claimed.{never_two_inside_any_edition, nobody_later_enters, others_enter_once, waits_at_most, nobody_overtakes}
use Rattle.history.specs.declared.History.{History}
use Rattle.history.specs.Event.{unwritten, begun, is_undo}
use Rattle.history.specs.Survivors.{Pile, nothing, onto, off, oldest_first, accepts, told, piled, survivors, afterward, walk}
use Rattle.history.specs.Claims.{not_undone, StepBack, no_undo, WithoutUndosAsBefore, Claim, HoldsOfNotUndone, Exclusion, Order, Once, Bound, LastOrder, DemandThree, Held, made, answered, CallsAreAWalk}
use Rattle.history.proofs.Following.{Follows, pile_state, goes_follows, starts}

-- ---- the request's sentence

module _ (s : LockState) (w : Whole s) where
  pub walk_follows : (h : History) (k : Pile) (calls : List Call) → Follows s h k → Follows s (walk h calls) (piled s k calls)
  unfolding walk piled
  walk_follows h k [] f = f
  walk_follows h k (c ∷ cs) f = walk_follows (afterward h c) (told s k c) cs (goes_follows s w h k c f)

  pub survivors_give : (calls : List Call) → (walk (unwritten s) calls).lock ≡ run s (survivors s calls)
  unfolding survivors
  survivors_give calls =
      (walk_follows (unwritten s) nothing calls (starts s)).state ∙ pile_state s (piled s nothing calls).calls

pub step_back : StepBack
step_back e n calls range = survivors_give (fresh_state e n) (range_whole e n range) calls

-- ---- without undos

-- a call that the lock refuses leaves its state
refused_by_tests :
    (fit known high : Bool) (s t : LockState)
    → eqb (cond (not fit) (Lock.refused 11 s) (cond (not known) (Lock.refused 8 s) (cond high (Lock.refused 9 s) (Lock.accepted t)))).refusal 0 ≡ false
    → (cond (not fit) (Lock.refused 11 s) (cond (not known) (Lock.refused 8 s) (cond high (Lock.refused 9 s) (Lock.accepted t)))).state ≡ s
refused_by_tests false known high s t h = refl
refused_by_tests true false high s t h = refl
refused_by_tests true true true s t h = refl
refused_by_tests true true false s t h = absurd (true≢false h)

refused_stays : (s : LockState) (c : Call) → accepts s c ≡ false → after s c ≡ s
unfolding happens after
refused_stays s c h =
    refused_by_tests (sound s) (is_step c.event || is_raise c.event) (leb s.n c.processor) s _ h

-- the run of the pile with one call more, undo aside
one_more_told : (s : LockState) (k : Pile) (c : Call) → is_undo c.event ≡ false → run s (oldest_first (told s k c).calls) ≡ after (run s (oldest_first k.calls)) c
unfolding told oldest_first run
one_more_told s k c e =
    ap (λ b. run s (oldest_first (cond (b && eqb c.processor 0) (cond (eqb k.depth 0) k (off k)) (cond (accepts (run s (oldest_first k.calls)) c) (onto k c) k)).calls)) e
    ∙ by (accepts (run s (oldest_first k.calls)) c) refl
  where
    by :
        (taken : Bool) → accepts (run s (oldest_first k.calls)) c ≡ taken
        → run s (oldest_first (cond taken (onto k c) k).calls) ≡ after (run s (oldest_first k.calls)) c
    by true h = run_append s (oldest_first k.calls) (c ∷ [])
    by false h = sym (refused_stays (run s (oldest_first k.calls)) c h)

pile_runs :
    (s : LockState) (k : Pile) (calls : List Call) → no_undo calls ≡ true
    → run s (oldest_first (piled s k calls).calls) ≡ run (run s (oldest_first k.calls)) calls
unfolding piled run
pile_runs s k [] h = refl
pile_runs s k (c ∷ cs) h =
    pile_runs s (told s k c) cs (and_right (not (is_undo c.event)) (no_undo cs) h)
    ∙ ap (λ x. run x cs) (one_more_told s k c (not-true (is_undo c.event) (and_left (not (is_undo c.event)) (no_undo cs) h)))

pub survivors_run : (s : LockState) (calls : List Call) → no_undo calls ≡ true → run s (survivors s calls) ≡ run s calls
unfolding survivors oldest_first run
survivors_run s calls h = pile_runs s nothing calls h

pub without_undos_as_before : WithoutUndosAsBefore
without_undos_as_before e n calls range h = step_back e n calls range ∙ survivors_run (fresh_state e n) calls h

-- ---- claims on runs move up

pub of_not_undone : (C : Claim) → ((e n : ℕ) (calls : List Call) → C e n calls) → HoldsOfNotUndone C
of_not_undone C holds e n calls range =
    record { state = step_back e n calls range; claim = holds e n (not_undone e n calls) }

pub demand_three : DemandThree
demand_three =
    record {
      never_two_inside = of_not_undone Exclusion never_two_inside_any_edition;
      nobody_later_enters = of_not_undone Order (λ e n calls before join later p _. nobody_later_enters e n before join later p);
      others_enter_once = of_not_undone Once (λ e n calls before join later p _. others_enter_once e n before join later p);
      waits_at_most = of_not_undone Bound (λ e n calls before join later p _. waits_at_most e n before join later p);
      nobody_overtakes =
          of_not_undone LastOrder
          (λ e n calls before join wait entry later p _. nobody_overtakes e n before join wait entry p);
    }

-- ---- what a caller holds

walk_append : (h : History) (xs ys : List Call) → walk h (xs ++ ys) ≡ walk (walk h xs) ys
unfolding walk
walk_append h [] ys = refl
walk_append h (x ∷ xs) ys = walk_append (afterward h x) xs ys

-- the history is a walk, with edition and N in range
record Walked (e n : ℕ) (calls : List Call) (h : History) : Type 0 where
  range : AnyEdition e n
  walked : h ≡ walk (unwritten (fresh_state e n)) calls

held_walked : (e n : ℕ) (calls : List Call) (h : History) → Held e n calls h → Walked e n calls h
unfolding walk run begun afterward
held_walked e n calls h (made o is ok) =
    let first : IsRun e n [] (fresh e n).state =
    calls_are_a_run e n [] (fresh e n).state (Runs.made (fresh e n) refl (ap (λ x. x.refusal) (sym is) ∙ ok)) in
    record { range = first.range; walked = ap (λ x. x.state) is ∙ ap unwritten first.state }
held_walked e n calls h (answered earlier t c o held is) =
    let so : Walked e n earlier t = held_walked e n earlier t held in
    record {
      range = so.range;
      walked =
          ap (λ x. x.state) is ∙ ap (λ x. afterward x c) so.walked
          ∙ sym (walk_append (unwritten (fresh_state e n)) earlier (c ∷ []));
    }

pub calls_are_a_walk : CallsAreAWalk
calls_are_a_walk e n calls h held =
    let so = held_walked e n calls h held in
    record {
      range = so.range;
      walked = so.walked;
      lock = ap (λ x. x.lock) so.walked ∙ step_back e n calls so.range;
    }
