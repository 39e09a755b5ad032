-- An event as a loop carries it out that keeps the lock's state and the journal apart (specs/Apart) is the event: on a history that is
-- ready, as every one is that follows a pile.
--     popped_then, pushed_then     what becomes of the journal is what an undo, or another event, makes of it
--     goes_turned                  the answer, put together from its parts
use Rattle.std.proofs.Common.{◌≡◌, ℕ, Bool, true, false, cond, not, eqb, get_or, set, sym, refl, ap, ◌∙◌, eqb-true}
use Rattle.std.proofs.lemmas.List.{set-get_or}
use Rattle.lock.specs.Event.{Answer}
use Rattle.lock.specs.Event.{carried}
use Rattle.history.specs.declared.Entry.{Entry}
use Rattle.history.specs.declared.Journal.{Journal}
use Rattle.history.specs.declared.History.{History}
use Rattle.history.specs.Event.{Outcome}
use Rattle.history.specs.Apart.{Move}
use Rattle.history.specs.Journal.{empty_entry, entry_of, restored, pushed, newest, popped, next, previous, deeper, shallower}
use Rattle.history.specs.Event.{accepted, refused, is_undo, stepped_back, undone, recorded, goes}
use Rattle.history.specs.Apart.{moved_back, moved_on, moved, slot_then, top_then, depth_then, journal_then}
use Rattle.history.proofs.Following.{Ready}

-- the journal, by whether the event is an undo
abbrev journal_by : Bool → Journal → Entry → Journal
journal_by undo j made =
    record {
      entries = set j.entries j.top (cond undo (get_or j.entries j.top empty_entry) made);
      top = cond undo (previous j.top) (next j.top);
      depth = cond undo (shallower j.depth) (deeper j.depth);
    }

journal_by_kind : (event : ℕ) (undo : Bool) → is_undo event ≡ undo → (j : Journal) (made : Entry) → journal_then event j made ≡ journal_by undo j made
unfolding slot_then top_then depth_then
journal_by_kind event undo e j made = ap (λ b. journal_by b j made) e

pub popped_then : (event : ℕ) → is_undo event ≡ true → (j : Journal) (made : Entry) → journal_then event j made ≡ popped j
unfolding popped
popped_then event e j made =
    journal_by_kind event true e j made
    ∙ ap (λ es. record { entries = es; top = previous j.top; depth = shallower j.depth })
    (set-get_or j.entries j.top empty_entry)

pub pushed_then : (event : ℕ) → is_undo event ≡ false → (j : Journal) (made : Entry) → journal_then event j made ≡ pushed j made
unfolding pushed
pushed_then event e j made = journal_by_kind event false e j made

-- the answer that the parts make
abbrev pub turned : History → Move → Journal → Outcome
turned h m j =
    record {
      refusal = m.refusal;
      processor = m.processor;
      state = cond (eqb m.refusal 0) (record { lock = m.lock; journal = j }) h;
    }

module _ (h : History) (r : Ready h) (event p : ℕ) where
  abbrev bare_of : Bool
  bare_of = eqb h.journal.depth 0

  undo_turned : undone h p ≡ turned h (moved_back h.lock h.journal.depth (newest h.journal) p) (popped h.journal)
  unfolding undone moved_back stepped_back
  undo_turned = by (eqb p 0) bare_of refl
    where
      by :
          (nought bare : Bool) → bare_of ≡ bare
          → cond (not nought) (refused 9 p h) (cond bare (refused 14 p h) (stepped_back h p (newest h.journal)))
          ≡ turned h
          (cond (not nought) (record { refusal = 9; processor = p; lock = h.lock })
          (cond bare (record { refusal = 14; processor = p; lock = h.lock })
          (record { refusal = 0; processor = (newest h.journal).processor; lock = restored h.lock (newest h.journal) })))
          (popped h.journal)
      by false bare e = refl
      by true true e = refl
      by true false e =
          ap
          (λ b.
          cond b (accepted (newest h.journal).processor (restored h.lock (newest h.journal)) (popped h.journal))
          (refused 11 p h))
          (r.brings e)

  event_turned : (a : Answer) → recorded h p a ≡ turned h (moved_on p a) (pushed h.journal (entry_of h.lock p))
  unfolding recorded
  event_turned a = by (eqb a.refusal 0) refl
    where
      by :
          (taken : Bool) → eqb a.refusal 0 ≡ taken
          → cond taken (accepted p a.state (pushed h.journal (entry_of h.lock p))) (refused a.refusal p h)
          ≡ record {
            refusal = a.refusal;
            processor = p;
            state = cond taken (record { lock = a.state; journal = pushed h.journal (entry_of h.lock p) }) h;
          }
      by true e =
          ap
          (λ n. record { refusal = n; processor = p; state = record { lock = a.state; journal = pushed h.journal (entry_of h.lock p) } })
          (sym (accepted_is e))
        where
          accepted_is : eqb a.refusal 0 ≡ true → a.refusal ≡ 0
          accepted_is f = eqb-true a.refusal 0 f
      by false e = refl

  pub goes_turned :
      goes h event p
      ≡ turned h (moved h.lock h.journal.depth (newest h.journal) event p)
      (journal_then event h.journal (entry_of h.lock p))
  unfolding goes moved
  goes_turned =
      ap (λ b. cond (not b) (refused 11 p h) (cond (is_undo event) (undone h p) (recorded h p (carried h.lock event p))))
      r.fits
      ∙ by (is_undo event) refl
    where
      by :
          (undo : Bool) → is_undo event ≡ undo
          → cond undo (undone h p) (recorded h p (carried h.lock event p))
          ≡ turned h
          (cond undo (moved_back h.lock h.journal.depth (newest h.journal) p) (moved_on p (carried h.lock event p)))
          (journal_then event h.journal (entry_of h.lock p))
      by true e =
          undo_turned
          ∙ ap (turned h (moved_back h.lock h.journal.depth (newest h.journal) p))
          (sym (popped_then event e h.journal (entry_of h.lock p)))
      by false e =
          event_turned (carried h.lock event p)
          ∙ ap (turned h (moved_on p (carried h.lock event p)))
          (sym (pushed_then event e h.journal (entry_of h.lock p)))
