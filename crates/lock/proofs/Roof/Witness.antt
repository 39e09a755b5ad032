-- Demand 3's claims on schedules that are worked out step by step: each fact here is computed from the schedule. Those that
-- schedules/ names are the same as there, without the first line. In order:
--     bound_met, bound_met_plain     the premises can be met, and the bound is sharp
--     passed                         with one interrupt the order fails
--     twice, past_the_bound          and so do at most once and the bound
--     drawn                          what the guard buys: the drawn edition has no order, even without interrupts
--     back_last_join, back-..        the order with interrupts is not empty
--     guard_is_set                   a guard is set in a run
use Prim.Native.Nat.{ℕ, ◌-◌, ◌≤◌, ◌<◌}
use native.Mathlib.Omega.{arith}
use mathlib.Core.Path.{◌≡◌, refl}
use mathlib.Core.Bool.{true}
use mathlib.Core.List.{List, [], ◌∷◌, ◌++◌}
use lib.Dec.{lit≤}
use borrow.Author.Tests.{eqb-false}
use Rattle.lock.specs.State.{row}
use Rattle.lock.specs.Run.{Call, enters}
use Rattle.lock.specs.Cases.{step, steps, raise}
use Rattle.lock.specs.Count.{entries_in, interrupts_in, all_entries_in}
use Rattle.lock.specs.Claims.{reached, waited, Ordered, Waits, LastJoin}
use Rattle.lock.specs.Sharp.{Order, Once, Bound, no_interrupt, one_at_most, ClaimsAreSharp}
use Rattle.lock.proofs.Roof.Opened.{computed}
use Rattle.lock.proofs.Roof.Claimed.{nobody_later_enters, others_enter_once, waits_at_most}

-- ---- bound_met: "N 2, 0 hands to 1, 0 joins again, then 1 enters, hands to 0, and 0 enters: 0's second join waited through
-- one entry", which is N - 1

abbrev met_before : List Call
met_before = steps 0 4 ++ steps 1 7 ++ steps 0 6

abbrev met_later : List Call
met_later = steps 0 3 ++ steps 1 4 ++ steps 0 4

bound_met_waits : Waits 2 2 met_before (step 0) met_later 0
unfolding computed
bound_met_waits =
    record { ordered = record { edition = refl; least = lit≤ tt; most = lit≤ tt }; joined = refl; uninterrupted = refl }

bound_met_enters :
    enters (reached 2 2 (met_before ++ step 0 ∷ waited 2 2 met_before (step 0) met_later 0)) (step 0) 0 ≡ true
unfolding computed
bound_met_enters = refl

bound_met : all_entries_in (reached 2 2 (met_before ++ step 0 ∷ [])) (waited 2 2 met_before (step 0) met_later 0) ≡ 2 - 1
unfolding computed
bound_met = refl

-- bound_met_plain: the same in the plain edition, which has no gate, claim and poll

abbrev plain_before : List Call
plain_before = steps 0 3 ++ steps 1 5 ++ steps 0 5

abbrev plain_later : List Call
plain_later = steps 0 2 ++ steps 1 4 ++ steps 0 4

bound_met_plain_waits : Waits 0 2 plain_before (step 0) plain_later 0
unfolding computed
bound_met_plain_waits =
    record { ordered = record { edition = refl; least = lit≤ tt; most = lit≤ tt }; joined = refl; uninterrupted = refl }

bound_met_plain_enters :
    enters (reached 0 2 (plain_before ++ step 0 ∷ waited 0 2 plain_before (step 0) plain_later 0)) (step 0) 0 ≡ true
unfolding computed
bound_met_plain_enters = refl

bound_met_plain :
    all_entries_in (reached 0 2 (plain_before ++ step 0 ∷ [])) (waited 0 2 plain_before (step 0) plain_later 0) ≡ 2 - 1
unfolding computed
bound_met_plain = refl

-- ---- With no_interrupt, the claims of Sharp are those of demand 3.

order_claimed : (e n : ℕ) → Ordered e n → Order e n no_interrupt
order_claimed e n o before join later p j i =
    nobody_later_enters e n before join later p (record { ordered = o; joined = j; uninterrupted = i })

once_claimed : (e n : ℕ) → Ordered e n → Once e n no_interrupt
once_claimed e n o before join later p j i =
    others_enter_once e n before join later p (record { ordered = o; joined = j; uninterrupted = i })

bound_claimed : (e n : ℕ) → Ordered e n → Bound e n no_interrupt
bound_claimed e n o before join later p j i =
    waits_at_most e n before join later p (record { ordered = o; joined = j; uninterrupted = i })

-- interrupt_passed: guarded, N 3. 1 joins (call 8) and takes an interrupt; 2 joins behind it (call 18) and enters while 1 is
-- away. So one interrupt is too much for the order.
passed : Order 2 3 one_at_most → ⊥
unfolding computed
passed order =
    let later : 18 < 8 =
    order (steps 0 4 ++ steps 1 3) (step 1)
    (steps 1 4 ++ raise 1 ∷ steps 1 1 ++ steps 2 7 ++ steps 0 9 ++ steps 2 1 ++ steps 1 9 ++ steps 2 3 ++ steps 1 4) 1 refl (lit≤ tt)
    (steps 1 4 ++ raise 1 ∷ steps 1 1 ++ steps 2 7 ++ steps 0 9) (step 2) (steps 1 9 ++ steps 2 3) 2 refl refl in
    omega arith

-- Guarded, N 2: 1 joins (call 8) and takes an interrupt. 0 parks the lock on it, joins again, claims the lock and enters,
-- leaves, joins and enters once more. Then 1 joins again and enters. Two entries, both of 0, where N - 1 is 1.

abbrev twice_before : List Call
twice_before = steps 0 4 ++ steps 1 3

abbrev twice_later : List Call
twice_later = steps 1 4 ++ raise 1 ∷ steps 1 1 ++ steps 0 25 ++ steps 1 6

twice : Once 2 2 one_at_most → ⊥
unfolding computed
twice once =
    let two : 2 ≤ 1 = once twice_before (step 1) twice_later 1 refl (lit≤ tt) 0 (eqb-false 0 1 refl) in
    omega arith

past_the_bound : Bound 2 2 one_at_most → ⊥
unfolding computed
past_the_bound bound =
    let two : 2 ≤ 1 = bound twice_before (step 1) twice_later 1 refl (lit≤ tt) in
    omega arith

-- halo_drawn_three: drawn, N 3. 0 joins (call 65), takes no interrupt and enters at call 78; 1 joins behind it (call 69) and
-- enters before it (call 74). So the drawn edition has no order, even for those that take no interrupt.

abbrev drawn_before : List Call
drawn_before =
    steps 0 3 ++ steps 1 7 ++ steps 2 5 ++ raise 1 ∷ steps 1 1 ++ steps 0 5 ++ steps 2 2 ++ steps 1 9 ++ raise 1 ∷ steps 1 1
    ++ steps 2 4 ++ steps 0 1 ++ steps 1 9 ++ steps 0 1 ++ steps 2 1 ++ raise 1 ∷ steps 1 1 ++ steps 0 2 ++ steps 2 2 ++ steps 1 4
    ++ steps 0 3

abbrev drawn_seen : List Call
drawn_seen = steps 0 3 ++ steps 1 4 ++ steps 2 1

abbrev drawn_unseen : List Call
drawn_unseen = steps 1 3

drawn : Order 1 3 no_interrupt → ⊥
unfolding computed
drawn order =
    let later : 69 < 65 =
    order drawn_before (step 0) (drawn_seen ++ step 1 ∷ drawn_unseen ++ steps 0 1) 0 refl refl drawn_seen (step 1) drawn_unseen 1 refl refl in
    omega arith

-- ---- The order with interrupts is not empty. Guarded, N 3: 2 joins (call 15), takes an interrupt and comes back in time; 1,
-- which joined before it (call 8), enters meanwhile.

abbrev back_before : List Call
back_before = steps 0 4 ++ steps 1 7 ++ steps 2 3

abbrev back_wait : List Call
back_wait = steps 2 4 ++ raise 2 ∷ steps 2 3 ++ steps 0 3 ++ steps 1 4

back_last_join : LastJoin 2 3 back_before (step 2) back_wait (step 2) 2
unfolding computed
back_last_join =
    record { ordered = record { edition = refl; least = lit≤ tt; most = lit≤ tt }; joined = refl; entered = refl; last = refl }

back_interrupted : interrupts_in (reached 2 3 (back_before ++ step 2 ∷ [])) back_wait 2 ≡ 1
unfolding computed
back_interrupted = refl

back_waits_through : entries_in (reached 2 3 (back_before ++ step 2 ∷ [])) back_wait 1 ≡ 1
unfolding computed
back_waits_through = refl

-- ---- guard_set: as in P12, 0 has fenced the interrupted 1 and is about to park the lock on it

abbrev fenced_calls : List Call
fenced_calls = steps 0 4 ++ steps 1 8 ++ raise 1 ∷ steps 1 1 ++ steps 0 4

guard_is_set : (row (reached 2 2 fenced_calls) 1).guard ≡ true
unfolding computed
guard_is_set = refl

pub claims_are_sharp : ClaimsAreSharp
claims_are_sharp =
    record {
      met_guarded =
          record {
            before = met_before;
            join = step 0;
            later = met_later;
            entry = step 0;
            p = 0;
            waits = bound_met_waits;
            enters_at_last = bound_met_enters;
            entries = bound_met;
          };
      met_plain =
          record {
            before = plain_before;
            join = step 0;
            later = plain_later;
            entry = step 0;
            p = 0;
            waits = bound_met_plain_waits;
            enters_at_last = bound_met_plain_enters;
            entries = bound_met_plain;
          };
      order_needs_calm = passed;
      once_needs_calm = twice;
      bound_needs_calm = past_the_bound;
      drawn_has_none = drawn;
      kept =
          record {
            before = back_before;
            join = step 2;
            wait = back_wait;
            entry = step 2;
            p = 2;
            q = 1;
            last_join = back_last_join;
            interrupt = back_interrupted;
            meanwhile = back_waits_through;
          };
      guard_set =
          record {
            calls = fenced_calls;
            q = 1;
            ordered = record { edition = refl; least = lit≤ tt; most = lit≤ tt };
            set = guard_is_set;
          };
    }
