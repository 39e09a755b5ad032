-- Soundness is kept: an accepted event on a whole history, whatever its journal, gives a whole history, and names a processor.
--     Kept            what an accepted answer is
--     happens_carried, taken_below    the lock's two events are one, and name a processor where they are accepted
--     event_kept      an event, by its tests in their order
--     sound_is_kept   the claim
use Rattle.std.proofs.Common.{◌≡◌, ℕ, ◌-◌, ◌<◌, ◌≤◌, true, cond, not, ◌&&◌, ◌||◌, eqb, ltb, leb, length, set, sym, refl, ap, ◌∙◌, arith, length-set, ltb-true, lt-ltb, eqb-true, le-leb, leb-false, leb-true}
use Rattle.std.proofs.lemmas.Bool.{eqb-false, not-false}
use Rattle.choice.proofs.Tests.{and_left, and_right, and_both, by_test}
use Rattle.lock.specs.declared.LockState.{LockState}
use Rattle.lock.specs.Event.{Answer}
use Rattle.lock.specs.State.{processors, put_row, put_tail}
use Rattle.lock.specs.Sound.{sound}
use Rattle.lock.specs.Event as Lock
use Rattle.lock.specs.Event.{is_step, is_raise, happens, carried}
use Rattle.lock.specs.Run.{after}
use Rattle.lock.specs.Kept.{Whole}
use Rattle.lock.specs.Touched.{put_back}
use Rattle.lock.proofs.Keeping as Lower
use Rattle.lock.proofs.Touched.{one_event_touches}
use Rattle.history.specs.declared.Entry.{Entry}
use Rattle.history.specs.declared.Journal.{Journal}
use Rattle.history.specs.declared.History.{History}
use Rattle.history.specs.Event.{Outcome}
use Rattle.history.specs.Journal.{most, next, previous, deeper, entry_of, restored, in_range, pushed, newest, popped}
use Rattle.history.specs.Event.{is_undo, is_whole, brings_back, stepped_back, undone, recorded, goes}
use Rattle.history.specs.Claims.{SoundIsKept}

pub record Kept (h : History) (o : Outcome) : Type 0 where
  pub whole : Whole o.state.lock
  pub size : o.state.lock.n ≡ h.lock.n
  pub below : o.processor < h.lock.n
  pub fits : in_range o.state.journal ≡ true

-- where the answer is accepted
abbrev Keeps : History → Outcome → Type 0
Keeps h o = o.refusal ≡ 0 → Kept h o

-- ---- the journal

popped_fits : (j : Journal) → in_range j ≡ true → in_range (popped j) ≡ true
unfolding in_range popped
popped_fits j h =
    let low = leb-true j.depth most (and_right (ltb j.top most) (leb j.depth most) h) in
    and_both _ _ (lt-ltb (previous j.top) most (omega arith)) (le-leb (j.depth - 1) most (omega arith))

pushed_fits : (j : Journal) (e : Entry) → in_range j ≡ true → in_range (pushed j e) ≡ true
unfolding in_range pushed
pushed_fits j e h =
    let low = leb-true j.depth most (and_right (ltb j.top most) (leb j.depth most) h) in
    and_both _ _ (lt-ltb (next j.top) most (omega arith))
    (le-leb (deeper j.depth) most
    (by_test (λ d. d ≤ most) (ltb j.depth most)
    (λ t. let less = ltb-true j.depth most t in omega arith)
    (λ t. low)))

-- ---- an undo

rooms_back : (s : LockState) (e : Entry) → length s.rows ≡ processors → length (restored s e).rows ≡ processors
unfolding restored put_back put_row put_tail
rooms_back s e rooms =
    length-set (set s.rows e.processor e.own) e.neighbour e.other
    ∙ length-set s.rows e.processor e.own ∙ rooms

restored_n : (s : LockState) (e : Entry) → (restored s e).n ≡ s.n
unfolding restored put_back put_row put_tail
restored_n s e = refl

-- ---- the lock's answer to a step or a raise

-- on a sound state the lock's two events are one
pub happens_carried : (s : LockState) → Whole s → (event p : ℕ) → happens s event p ≡ carried s event p
unfolding happens
happens_carried s w event p = ap (λ b. cond (not b) (Lock.refused 11 s) (carried s event p)) w.fit

-- where it is accepted
pub taken_below : (s : LockState) (event p : ℕ) → (carried s event p).refusal ≡ 0 → p < s.n
taken_below s event p =
    by_test (λ (a : Answer). a.refusal ≡ 0 → p < s.n) (not (is_step event || is_raise event)) (λ _ z. absurd (omega arith))
    (λ _.
    by_test (λ (a : Answer). a.refusal ≡ 0 → p < s.n) (leb s.n p) (λ _ z. absurd (omega arith)) (λ t _. leb-false s.n p t))

module _ (h : History) (w : Whole h.lock) (fits : in_range h.journal ≡ true) where
  back_kept : (p : ℕ) (e : Entry) → Keeps h (stepped_back h p e)
  unfolding stepped_back brings_back
  back_kept p e =
      by_test (Keeps h) (brings_back h.lock e)
      (λ b _.
      let first = ltb e.processor h.lock.n in
      let second = ltb e.neighbour h.lock.n in
      let good = sound (restored h.lock e) in
      record {
        whole = record { rooms = rooms_back h.lock e w.rooms; fit = and_right (first && second) good b };
        size = restored_n h.lock e;
        below = ltb-true e.processor h.lock.n (and_left first second (and_left (first && second) good b));
        fits = popped_fits h.journal fits;
      })
      (λ _ z. absurd (omega arith))

  undo_kept : (p : ℕ) → Keeps h (undone h p)
  unfolding undone
  undo_kept p =
      by_test (Keeps h) (not (eqb p 0)) (λ _ z. absurd (omega arith))
      (λ _.
      by_test (Keeps h) (eqb h.journal.depth 0) (λ _ z. absurd (omega arith)) (λ _. back_kept p (newest h.journal)))

  -- ---- a step or a raise

  event_size : (event p : ℕ) → (carried h.lock event p).state.n ≡ h.lock.n
  unfolding after
  event_size event p =
      ap (λ (a : Answer). a.state.n) (sym (happens_carried h.lock w event p))
      ∙ (one_event_touches h.lock (record { event = event; processor = p })).n

  record_kept : (event p : ℕ) → Keeps h (recorded h p (carried h.lock event p))
  unfolding recorded
  record_kept event p =
      let a = carried h.lock event p in
      by_test (Keeps h) (eqb a.refusal 0)
      (λ t _. record {
        whole = rw (← happens_carried h.lock w event p) (Lower.event_kept h.lock event p w);
        size = event_size event p;
        below = taken_below h.lock event p (eqb-true a.refusal 0 t);
        fits = pushed_fits h.journal (entry_of h.lock p) fits;
      })
      (λ t z. absurd (eqb-false a.refusal 0 t z))

pub event_kept : (h : History) (event p : ℕ) → Whole h.lock → Keeps h (goes h event p)
unfolding goes is_whole
event_kept h event p w =
    by_test (Keeps h) (not (is_whole h)) (λ _ z. absurd (omega arith))
    (λ t.
    let fits = and_right (sound h.lock) (in_range h.journal) (not-false (is_whole h) t) in
    by_test (Keeps h) (is_undo event) (λ _. undo_kept h w fits p) (λ _. record_kept h w fits event p))

-- 11 comes first, so an accepted event had a whole history
pub accepted_whole : (h : History) (event p : ℕ) → (goes h event p).refusal ≡ 0 → is_whole h ≡ true
unfolding goes
accepted_whole h event p =
    by_test (λ (o : Outcome). o.refusal ≡ 0 → is_whole h ≡ true) (not (is_whole h)) (λ _ z. absurd (omega arith))
    (λ t _. not-false (is_whole h) t)

pub sound_is_kept : SoundIsKept
unfolding is_whole
sound_is_kept h event p rooms z =
    let fit = and_left (sound h.lock) (in_range h.journal) (accepted_whole h event p z) in
    let k = event_kept h event p (record { rooms = rooms; fit = fit }) z in
    and_both _ _ k.whole.fit k.fits
