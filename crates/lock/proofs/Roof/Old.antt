-- The old boards' lock: what specs/Old says of it.
--     old_has_no_joins     none of its places is the swap
--     old_overtakes        computed
--     old_has_no_bound     after 0's four steps round, the state is what it was; so it may go round any number of times
use Prim.Native.Nat.{ℕ, zero, suc, ◌+◌, ◌<◌}
use mathlib.Core.Path.{◌≡◌, refl, ap, subst, ◌∙◌}
use mathlib.Core.Bool.{Bool, true, false}
use native.Mathlib.Omega.{arith}
use mathlib.Core.List.{List, [], ◌∷◌, ◌++◌}
use lib.ListN.{length, replicate}
use lib.Dec.{eqb}
use borrow.Author.Tests.{eqb-true, eqb-false}
use Rattle.choice.proofs.Tests.{clash, and_right}
use Rattle.lock.specs.declared.LockState.{LockState}
use Rattle.lock.specs.State.{processors, old, is_old, fresh_row, fresh_state, with_place, row}
use Rattle.lock.specs.Sound.{has_place}
use Rattle.lock.specs.Run.{Call, after, run, joins, enters, interrupted, steps_of}
use Rattle.lock.specs.Count.{count_in, joins_in, entries_in, interrupts_in}
use Rattle.lock.specs.Cases.{step, steps}
use Rattle.lock.specs.Claims.{reached}
use Rattle.lock.specs.Old.{OldHasNoJoins, OldOvertakes, OldHasNoBound}
use Rattle.lock.proofs.Keeping.Parts.{row_room, row_has}
use Rattle.lock.proofs.Waiting.Counting.{count_no, count_append}
use Rattle.lock.proofs.Waiting.Stepping.{by_step, rows_stay, edition_after, joins_steps, joins_below}
use Rattle.lock.proofs.Roof.Opened.{computed}

-- ---- no joins

module _ (s : LockState) (c : Call) (p : ℕ) (whole : length s.rows ≡ processors) (is : is_old s.edition ≡ true) where
  -- a step at 3 is accepted, so 3 is a place of the edition; it is none
  no_join : (b : Bool) → joins s c p ≡ b → joins s c p ≡ false
  unfolding joins has_place
  no_join true e =
      by_step s c (λ still same. clash (joins_steps s c p e) (still p))
      (λ k.
      let at : (row s p).place ≡ 3 =
      eqb-true (row s p).place 3 (and_right (steps_of s c p) (eqb (row s p).place 3) e) in
      let room : p < processors = subst (λ m. p < m) whole (row_room s k.accepted.fit whole (joins_below s c p e)) in
      let has : has_place 3 3 ≡ true =
      subst (λ v. has_place v 3 ≡ true) (eqb-true s.edition 3 is)
      (subst (λ m. has_place s.edition m ≡ true) at (row_has s k.accepted.fit p room)) in
      clash has refl)
  no_join false e = e

no_joins :
    (s : LockState) (calls : List Call) (p : ℕ) → length s.rows ≡ processors → is_old s.edition ≡ true
    → joins_in s calls p ≡ 0
unfolding joins_in count_in
no_joins s [] p whole is = refl
no_joins s (c ∷ calls) p whole is =
    count_no (λ t d. joins t d p) s c calls (no_join s c p whole is (joins s c p) refl)
    ∙ no_joins (after s c) calls p (rows_stay s c whole) (ap is_old (edition_after s c whole) ∙ is)

pub old_has_no_joins : OldHasNoJoins
unfolding fresh_state
old_has_no_joins n calls p = no_joins (fresh_state old n) calls p refl refl

-- ---- overtaken

pub old_overtakes : OldOvertakes
unfolding computed
old_overtakes =
    record {
      before = steps 0 2 ++ steps 1 1;
      try = step 1;
      meanwhile = steps 0 1;
      leave = step 0;
      back = steps 0 1;
      entry = step 0;
      all = refl;
      other = eqb-false 0 1 refl;
      left = refl;
      entered = refl;
      waited = record { failed = refl; entries = refl; interrupts = refl };
    }

-- ---- no bound

-- 0 is inside, 1 has tried and failed
abbrev tried : LockState
tried =
    record {
      edition = old;
      n = 2;
      tail = 0;
      rows = with_place fresh_row 9 ∷ with_place fresh_row 24 ∷ replicate 14 fresh_row;
    }

there_first : reached old 2 (steps 0 2 ++ steps 1 2) ≡ tried
unfolding computed
there_first = refl

-- 0 goes round and is inside again, and nothing has changed
same_again : run tried (steps 0 4) ≡ tried
unfolding computed
same_again = refl

abbrev rounds : ℕ → List Call
rounds zero = []
rounds (suc k) = steps 0 4 ++ rounds k

-- so what one round counts to is added with every round
round :
    (test : LockState → Call → Bool) (m : ℕ) → count_in test tried (steps 0 4) ≡ m → (k : ℕ)
    → count_in test tried (rounds (suc k)) ≡ m + count_in test tried (rounds k)
round test m once k =
    count_append test tried (steps 0 4) (rounds k) ∙ (λ i. once i + count_in test (same_again i) (rounds k))

one_entry : entries_in tried (steps 0 4) 0 ≡ 1
unfolding computed
one_entry = refl

counted : (k : ℕ) → entries_in tried (rounds k) 0 ≡ k
unfolding entries_in count_in
counted zero = refl
counted (suc k) =
    let more : entries_in tried (rounds (suc k)) 0 ≡ 1 + entries_in tried (rounds k) 0 =
    round (λ t d. enters t d 0) 1 one_entry k in
    let so : entries_in tried (rounds k) 0 ≡ k = counted k in
    omega arith

none_more : {x y : ℕ} → x ≡ 0 + y → y ≡ 0 → x ≡ 0
none_more e h = omega arith

no_entry : entries_in tried (steps 0 4) 1 ≡ 0
unfolding computed
no_entry = refl

kept_out : (k : ℕ) → entries_in tried (rounds k) 1 ≡ 0
unfolding entries_in count_in
kept_out zero = refl
kept_out (suc k) = none_more (round (λ t d. enters t d 1) 0 no_entry k) (kept_out k)

without_interrupt : interrupts_in tried (steps 0 4) 1 ≡ 0
unfolding computed
without_interrupt = refl

calm : (k : ℕ) → interrupts_in tried (rounds k) 1 ≡ 0
unfolding interrupts_in count_in
calm zero = refl
calm (suc k) = none_more (round (λ t d. interrupted t d 1) 0 without_interrupt k) (calm k)

pub old_has_no_bound : OldHasNoBound
unfolding computed
old_has_no_bound entries =
    record {
      before = steps 0 2 ++ steps 1 1;
      try = step 1;
      later = rounds entries;
      p = 1;
      q = 0;
      other = eqb-false 0 1 refl;
      waited =
          record { failed = refl; entries = rw there_first (kept_out entries); interrupts = rw there_first (calm entries) };
      entered = rw there_first (counted entries);
    }
