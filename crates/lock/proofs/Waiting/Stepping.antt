-- A step of a processor, seen through a test that passes wherever the act of its place leads; and what follows for
-- any call without looking at the step table.
--     Same, Stepped, by_step   a call leaves every place, locked and private cell, or is the step of one processor
--     stepping, anywhere       the step ends where the test passes; the other rows are as Goes says
--     whoever                  what holds of the one that steps and of every other holds of each
--     join_test, entry_test, interrupt_test      Run's tests on the step, as tests of the places before and after
--     rows_stay, size_after, edition_after      the number of rows, N and the edition stay
--     unmoved                  who does not step keeps its place and its private cells
--     Queue, queue_after       a state of a lock with a queue, which its rows and its edition make it; it stays one
--     not_apart                who steps in such a state is not at a place of the old boards' lock
--     joins_own, joins_below, enters_below     who joins is the call's own processor; who joins or enters is below N
--     inside_by_entry          one comes to place 9 only by its own entry
use Prim.Native.Nat.{ℕ, ◌<◌}
use mathlib.Core.Path.{◌≡◌, refl, sym, ap, ap₂, ◌∙◌, subst}
use mathlib.Core.Bool.{Bool, true, false, ◌&&◌, ◌||◌, or-true}
use mathlib.Core.Logic.{◌≢◌}
use lib.ListN.{length}
use lib.Dec.{eqb, lit<}
use borrow.Author.Tests.{eqb-true, eqb-false, eq-eqb}
use Rattle.lock.specs.declared.LockState.{LockState}
use Rattle.choice.specs.Every.{every}
use Rattle.choice.proofs.Tests.{and_left, and_rest, neither_left, clash}
use Rattle.lock.specs.State.{processors, is_old, row, put_row, put_flag, with_flag}
use Rattle.lock.specs.Table.{Place, place_at, stepped}
use Rattle.lock.specs.Run.{Call, after, steps_of, joins, enters, from_to, interrupted, is_inside}
use Rattle.lock.specs.Event.{raised}
use Rattle.lock.proofs.Ground.Rows.{rows_put}
use Rattle.lock.proofs.Ground.Writes.{put_all}
use Rattle.lock.proofs.Ground.Calls.{Accepted, Kind, idle, raise, step, kind}
use Rattle.lock.proofs.Ground.Facts.{entry, number, phase_at, is_apart, number_test, at_facts}
use Rattle.lock.proofs.Ground.Editions.{has_queue}
use Rattle.lock.proofs.Keeping.Parts.{row_room, row_has}
use Rattle.lock.proofs.Waiting.Kept.{Cells, cells_self, Goes}
use Rattle.lock.proofs.Waiting.Leads.{all_of, goes}

-- x has the places, the locked and the private cells, as many rows, the N and the edition of s
pub record Same (s x : LockState) : Type 0 where
  pub places : (q : ℕ) → (row x q).place ≡ (row s q).place
  pub locked : (q : ℕ) → (row x q).locked ≡ (row s q).locked
  pub private : (q : ℕ) → Cells (row s q) (row x q)
  pub rows : length x.rows ≡ length s.rows
  pub size : x.n ≡ s.n
  pub edition : x.edition ≡ s.edition

same_self : (s : LockState) → Same s s
same_self s = record { places = λ q. refl; locked = λ q. refl; private = λ q. cells_self; rows = refl; size = refl; edition = refl }

same_raised : (s : LockState) (p : ℕ) → Same s (raised s p)
unfolding raised put_flag put_row
same_raised s p =
    record {
      places = put_all (λ q w. w.place ≡ (row s q).place) s p (with_flag (row s p) true) (λ q. refl) refl;
      locked = put_all (λ q w. w.locked ≡ (row s q).locked) s p (with_flag (row s p) true) (λ q. refl) refl;
      private = put_all (λ q w. Cells (row s q) w) s p (with_flag (row s p) true) (λ q. cells_self)
          (record { succ = refl; nx = refl });
      rows = rows_put s p (with_flag (row s p) true);
      size = refl;
      edition = refl;
    }

-- the call is an accepted step
pub record Stepped (s : LockState) (c : Call) : Type 0 where
  pub accepted : Accepted s c
  pub act : after s c ≡ stepped s c.processor
  pub whose : (q : ℕ) → steps_of s c q ≡ eqb c.processor q

-- a law of a call, by whether it is a step
pub by_step :
    (s : LockState) (c : Call) {F : Type 0} → (((q : ℕ) → steps_of s c q ≡ false) → Same s (after s c) → F)
    → (Stepped s c → F)
    → F
by_step s c {F} quiet stepping = by (kind s c)
  where
    by : Kind s c → F
    by (idle e still) = quiet still (subst (λ x. Same s x) (sym e) (same_self s))
    by (raise a e still) = quiet still (subst (λ x. Same s x) (sym e) (same_raised s c.processor))
    by (step a e whose) = stepping (record { accepted = a; act = e; whose = whose })

-- A step of p, seen through a test that passes wherever the act of p's place leads.
module _ (s : LockState) (c : Call) (whole : length s.rows ≡ processors) (k : Stepped s c) where
  pub there : c.processor < length s.rows
  there = row_room s k.accepted.fit whole k.accepted.below

  pub stepping :
      (ok : Place → Bool) → all_of ok (entry (place_at (row s c.processor).place)).leads ≡ true
      → Goes s c.processor ok (after s c)
  unfolding stepped
  stepping ok h =
      subst (λ x. Goes s c.processor ok x) (sym k.act) (goes s c.processor there ok h)

  pub anywhere : Goes s c.processor (λ j. true) (after s c)
  unfolding every
  anywhere =
      stepping (λ j. true) (at_facts (λ j. all_of (λ i. true) (entry j).leads) refl (row s c.processor).place)

  -- what holds of the processor that steps, and of every other, holds of each
  pub whoever :
      (P : ℕ → Type 0) → P c.processor → ((q : ℕ) → q ≢ c.processor → steps_of s c q ≡ false → P q) → (q : ℕ) → P q
  whoever P own other q = by (eqb c.processor q) refl
    where
      by : (b : Bool) → eqb c.processor q ≡ b → P q
      by true e = subst P (eqb-true c.processor q e) own
      by false e = other q (λ f. eqb-false c.processor q e (sym f)) (k.whose q ∙ e)

  pub own_step : steps_of s c c.processor ≡ true
  own_step = k.whose c.processor ∙ eq-eqb c.processor c.processor refl

  -- the tests of Run on p's step, as tests of the places before and after
  pub join_test :
      (v : Bool) → joins s c c.processor ≡ v → eqb (number (place_at (row s c.processor).place)) 3 ≡ v
  unfolding joins
  join_test v h =
      number_test (row s c.processor).place 3 (lit< tt) ∙ and_rest (steps_of s c c.processor)
      (eqb (row s c.processor).place 3) v own_step h

  pub entry_test :
      (v : Bool) → enters s c c.processor ≡ v
      → eqb (number (place_at (row (after s c) c.processor).place)) 9 ≡ v
  unfolding enters
  entry_test v h =
      number_test (row (after s c) c.processor).place 9 (lit< tt)
      ∙ and_rest (steps_of s c c.processor) (eqb (row (after s c) c.processor).place 9) v own_step h

  pub interrupt_test : interrupted s c c.processor ≡ false
      →
      (eqb (number (place_at (row s c.processor).place)) 10 && eqb
      (number (place_at (row (after s c) c.processor).place)) 11) ≡ false
  unfolding interrupted
  interrupt_test h =
      ap₂ ◌&&◌ (number_test (row s c.processor).place 10 (lit< tt))
      (number_test (row (after s c) c.processor).place 11 (lit< tt))
      ∙ neither_left (from_to s c c.processor 10 11) (from_to s c c.processor 24 25)
      (and_rest (steps_of s c c.processor) (from_to s c c.processor 10 11 || from_to s c c.processor 24 25) false own_step h)

-- ---- the number of rows, N and the edition stay

pub rows_stay : (s : LockState) (c : Call) → length s.rows ≡ processors → length (after s c).rows ≡ processors
rows_stay s c whole =
    by_step s c (λ still same. same.rows ∙ whole) (λ k. (anywhere s c whole k).rows ∙ whole)

pub size_after : (s : LockState) (c : Call) → length s.rows ≡ processors → (after s c).n ≡ s.n
size_after s c whole = by_step s c (λ still same. same.size) (λ k. (anywhere s c whole k).size)

pub edition_after : (s : LockState) (c : Call) → length s.rows ≡ processors → (after s c).edition ≡ s.edition
edition_after s c whole = by_step s c (λ still same. same.edition) (λ k. (anywhere s c whole k).edition)

-- ---- who does not step

pub unmoved :
    (s : LockState) (c : Call) (q : ℕ) → length s.rows ≡ processors → steps_of s c q ≡ false
    → ((row (after s c) q).place ≡ (row s q).place) × Cells (row s q) (row (after s c) q)
unmoved s c q whole quiet =
    by_step s c (λ still same. (same.places q, same.private q))
    (λ k.
    let other : q ≢ c.processor = λ e. eqb-false c.processor q (sym (k.whose q) ∙ quiet) (sym e) in
    let goes = anywhere s c whole k in
    (goes.others q other, goes.private q other))

-- ---- a lock with a queue

-- it has its rows, and its edition is not the old boards', in which one enters without a join
pub record Queue (s : LockState) : Type 0 where
  pub rows : length s.rows ≡ processors
  pub edition : is_old s.edition ≡ false

pub queue_after : (s : LockState) (c : Call) → Queue s → Queue (after s c)
queue_after s c whole =
    record {
      rows = rows_stay s c whole.rows;
      edition = ap is_old (edition_after s c whole.rows) ∙ whole.edition;
    }

pub not_apart :
    (s : LockState) (c : Call) → Queue s → Stepped s c → is_apart (phase_at (row s c.processor).place) ≡ false
not_apart s c whole k =
    has_queue s.edition (row s c.processor).place whole.edition
    (row_has s k.accepted.fit c.processor
    (subst (λ m. c.processor < m) whole.rows (there s c whole.rows k)))

-- ---- entries

-- a call that is no step of q is neither a join nor an entry of q
pub no_step_no_entry : (s : LockState) (c : Call) (q : ℕ) → steps_of s c q ≡ false → enters s c q ≡ false
unfolding enters
no_step_no_entry s c q e = ap (λ b. b && eqb (row (after s c) q).place 9) e

pub enters_steps : (s : LockState) (c : Call) (q : ℕ) → enters s c q ≡ true → steps_of s c q ≡ true
unfolding enters
enters_steps s c q h = and_left (steps_of s c q) (eqb (row (after s c) q).place 9) h

pub joins_steps : (s : LockState) (c : Call) (q : ℕ) → joins s c q ≡ true → steps_of s c q ≡ true
unfolding joins
joins_steps s c q h = and_left (steps_of s c q) (eqb (row s q).place 3) h

-- a step of q is the call's own processor's, which is below N
steps_own : (s : LockState) (c : Call) (q : ℕ) → steps_of s c q ≡ true → (c.processor ≡ q) × (q < s.n)
steps_own s c q h =
    by_step s c (λ still same. clash h (still q))
    (λ k.
    let own : c.processor ≡ q = eqb-true c.processor q (sym (k.whose q) ∙ h) in
    (own, subst (λ i. i < s.n) own k.accepted.below))

pub joins_own : (s : LockState) (c : Call) (q : ℕ) → joins s c q ≡ true → c.processor ≡ q
joins_own s c q h = (steps_own s c q (joins_steps s c q h)).0

pub joins_below : (s : LockState) (c : Call) (q : ℕ) → joins s c q ≡ true → q < s.n
joins_below s c q h = (steps_own s c q (joins_steps s c q h)).1

pub enters_below : (s : LockState) (c : Call) (q : ℕ) → enters s c q ≡ true → q < s.n
enters_below s c q h = (steps_own s c q (enters_steps s c q h)).1

-- who is at place 9 after a call was there before, or the call is its entry
pub inside_by_entry :
    (s : LockState) (c : Call) → length s.rows ≡ processors → (q : ℕ) → is_inside (after s c) q ≡ true
    → is_inside s q || enters s c q ≡ true
unfolding is_inside enters
inside_by_entry s c whole =
    by_step s c (λ still same q h. rw (sym (ap (λ m. eqb m 9) (same.places q)) ∙ h) refl)
    (λ k.
    whoever s c whole k
    (λ q. eqb (row (after s c) q).place 9 ≡ true
    → eqb (row s q).place 9 || (steps_of s c q && eqb (row (after s c) q).place 9) ≡ true)
    (λ h. rw (own_step s c whole k, h) (or-true (eqb (row s c.processor).place 9)))
    (λ q other idle h. rw (sym (ap (λ m. eqb m 9) ((anywhere s c whole k).others q other)) ∙ h) refl))
