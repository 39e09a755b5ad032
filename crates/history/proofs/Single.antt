-- Only one answer fits each contract: an equation with a definition has one solution, and what an answer says leads back to it.
--     numbered, of_number     the event, and the refusal, of a number; each undoes the numbering
--     begun_of, event_of, moved_of    the answer that says it
--     only_one_answer_fits    the law
use Rattle.std.proofs.Common.{◌≡◌, ◌≢◌, ℕ, cond, eqb, sym, refl, ap, ◌∙◌, Result, Ok, Err}
use Rattle.lock.specs.declared.LockState.{LockState}
use Rattle.lock.specs.declared.Event.TheVariants.{Step, Raise}
use Rattle.lock.specs.declared.Refusal.TheVariants.{UnknownEdition, ProcessorCount, UnknownEvent, NoSuchProcessor, Unsound}
use Rattle.lock.specs.Unique.{OnlyOne}
use Rattle.history.specs.declared.History.{History}
use Rattle.history.specs.declared.Event.{Event}
use Rattle.history.specs.declared.Event.TheVariants.{Lock as LockEvent, Undo}
use Rattle.history.specs.declared.Refusal.{Refusal}
use Rattle.history.specs.declared.Refusal.TheVariants.{Lock, NothingLeft}
use Rattle.history.specs.declared.Moved.{Moved}
use Rattle.history.specs.declared.Refused.{Refused}
use Rattle.history.specs.Journal.{empty_entry, empty_journal, entry_of}
use Rattle.history.specs.Named.{event_number, refusal_number, of_lock, NamesEvent}
use Rattle.history.specs.Event.{Outcome, told, told_begun, begun, goes}
use Rattle.history.specs.Apart.{Move, moved, slot_then, top_then, depth_then}
use Rattle.history.specs.Apart as Apart
use Rattle.history.specs.Unique.{SaidOnce, OnlyOneAnswerFits}

only_one : (A : Type 0) (defined : A) → OnlyOne A defined
only_one A defined a b p q = p ∙ sym q

-- what leads back from what an answer says shows that it is said once
led_back : (A B : Type 0) (says : A → B) (back : B → A) → ((a : A) → back (says a) ≡ a) → SaidOnce A B says
led_back A B says back home a b same = sym (home a) ∙ ap back same ∙ home b

-- ---- numbers

abbrev numbered : ℕ → Event
numbered k = cond (eqb k 1) (LockEvent Step) (cond (eqb k 2) (LockEvent Raise) Undo)

numbered_back : (event : Event) → numbered (event_number event) ≡ event
numbered_back (LockEvent Step) = refl
numbered_back (LockEvent Raise) = refl
numbered_back Undo = refl

abbrev of_number : ℕ → Refusal
of_number k =
    cond (eqb k 6) (Lock UnknownEdition)
    (cond (eqb k 7) (Lock ProcessorCount)
    (cond (eqb k 8) (Lock UnknownEvent)
    (cond (eqb k 9) (Lock NoSuchProcessor) (cond (eqb k 11) (Lock Unsound) NothingLeft))))

not_named : (event : Event) (k : ℕ) → k ≡ event_number event → k ≢ 1 → k ≢ 2 → k ≢ 3 → ⊥
not_named (LockEvent Step) k is one two three = one is
not_named (LockEvent Raise) k is one two three = two is
not_named Undo k is one two three = three is

named_once : (k : ℕ) (a b : Result Event Refusal) → NamesEvent k a → NamesEvent k b → a ≡ b
named_once k (Ok a) (Ok b) p q = ap Ok (led_back Event ℕ event_number numbered numbered_back a b (sym p ∙ q))
named_once k (Ok a) (Err r) p q = absurd (not_named a k p q.1 q.2 q.3)
named_once k (Err r) (Ok b) p q = absurd (not_named b k q p.1 p.2 p.3)
named_once k (Err r) (Err t) p q = ap Err (p.0 ∙ sym q.0)

-- ---- answers

-- the answer with the number k, made of what stands beside an accepted one and beside a refusal
abbrev answer_of : (A E : Type 0) → ℕ → A → (Refusal → E) → Result A E
answer_of A E k a e = cond (eqb k 0) (Ok a) (Err (e (of_number k)))

refused_back : (A E : Type 0) (r : Refusal) (a : A) (e : Refusal → E) → answer_of A E (refusal_number r) a e ≡ Err (e r)
refused_back A E (Lock UnknownEdition) a e = refl
refused_back A E (Lock ProcessorCount) a e = refl
refused_back A E (Lock UnknownEvent) a e = refl
refused_back A E (Lock NoSuchProcessor) a e = refl
refused_back A E (Lock Unsound) a e = refl
refused_back A E NothingLeft a e = refl

abbrev refused_with : (S : Type 0) → S → Refusal → Refused S
refused_with S s r = record { state = s; refusal = r }

abbrev begun_of : Outcome → Result History (Refused History)
begun_of o = answer_of _ _ o.refusal o.state (refused_with _ o.state)

begun_back : (a : Result History (Refused History)) → begun_of (told_begun a) ≡ a
begun_back (Ok h) = refl
begun_back (Err r) = refused_back _ _ r.refusal r.state (refused_with _ r.state)

abbrev event_of : Outcome → Result (Moved History) (Refused History)
event_of o = answer_of _ _ o.refusal (record { state = o.state; processor = o.processor }) (refused_with _ o.state)

event_back : (p : ℕ) (a : Result (Moved History) (Refused History)) → event_of (told p a) ≡ a
event_back p (Ok m) = refl
event_back p (Err r) = refused_back _ _ r.refusal _ (refused_with _ r.state)

abbrev moved_of : Move → Result (Moved LockState) (Refused LockState)
moved_of m = answer_of _ _ m.refusal (record { state = m.lock; processor = m.processor }) (refused_with _ m.lock)

moved_back : (p : ℕ) (a : Result (Moved LockState) (Refused LockState)) → moved_of (Apart.told p a) ≡ a
moved_back p (Ok m) = refl
moved_back p (Err r) = refused_back _ _ r.refusal _ (refused_with _ r.state)

pub only_one_answer_fits : OnlyOneAnswerFits
only_one_answer_fits =
    record {
      of_fresh = λ e n. only_one _ (begun e n);
      of_event = λ h event p. only_one _ (goes h event p);
      of_step = λ h p. only_one _ (goes h 1 p);
      of_raise = λ h p. only_one _ (goes h 2 p);
      of_undo = λ h. only_one _ (goes h 3 0);
      of_entry_empty = only_one _ empty_entry;
      of_journal_empty = only_one _ empty_journal;
      of_entry_of = λ s p. only_one _ (entry_of s p);
      of_moved = λ s depth e event p. only_one _ (moved s depth e event p);
      of_slot_then = λ event there made. only_one _ (slot_then event there made);
      of_top_then = λ event top. only_one _ (top_then event top);
      of_depth_then = λ event depth. only_one _ (depth_then event depth);
      begun_once = led_back _ _ told_begun begun_of begun_back;
      event_once = λ p. led_back _ _ (told p) event_of (event_back p);
      moved_once = λ p. led_back _ _ (Apart.told p) moved_of (moved_back p);
      of_event_number = λ event. only_one _ (event_number event);
      of_event_named = named_once;
      of_lock_refusal = λ refusal. only_one _ (of_lock refusal);
      of_refusal_number = λ refusal. only_one _ (refusal_number refusal);
    }
