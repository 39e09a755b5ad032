-- Two answers that meet the contract of a public function are one. Each contract but one is an equation with a definition of the inputs,
-- of the answer or of what it says, and what an answer says determines it; `NamesEvent`, which tells by cases what a number is taken
-- for, leaves one answer too.
use Rattle.std.specs.Prelude.{ℕ, ◌≡◌, Result}
use Rattle.lock.specs.declared.LockState.{LockState}
use Rattle.lock.specs.declared.Refusal.{Refusal as LockRefusal}
use Rattle.lock.specs.Unique.{OnlyOne}
use Rattle.history.specs.declared.Entry.{Entry}
use Rattle.history.specs.declared.History.{History}
use Rattle.history.specs.declared.Event.{Event}
use Rattle.history.specs.declared.Refusal.{Refusal}
use Rattle.history.specs.declared.Moved.{Moved}
use Rattle.history.specs.declared.Refused.{Refused}
use Rattle.history.specs.Journal.{empty_entry, empty_journal, entry_of}
use Rattle.history.specs.Named.{event_number, refusal_number, of_lock, NamesEvent}
use Rattle.history.specs.Event.{told, told_begun, begun, goes}
use Rattle.history.specs.Apart.{moved, slot_then, top_then, depth_then}
use Rattle.history.specs.Apart as Apart

-- two answers that say the same are the same answer
abbrev pub SaidOnce : (A B : Type 0) → (A → B) → Type 0
SaidOnce A B says = (a b : A) → says a ≡ says b → a ≡ b

pub record OnlyOneAnswerFits : Type 0 where
  pub of_fresh : (e n : ℕ) → OnlyOne _ (begun e n)
  pub of_event : (h : History) (event p : ℕ) → OnlyOne _ (goes h event p)
  pub of_step : (h : History) (p : ℕ) → OnlyOne _ (goes h 1 p)
  pub of_raise : (h : History) (p : ℕ) → OnlyOne _ (goes h 2 p)
  pub of_undo : (h : History) → OnlyOne _ (goes h 3 0)
  pub of_entry_empty : OnlyOne _ empty_entry
  pub of_journal_empty : OnlyOne _ empty_journal
  pub of_entry_of : (s : LockState) (p : ℕ) → OnlyOne _ (entry_of s p)
  pub of_moved : (s : LockState) (depth : ℕ) (e : Entry) (event p : ℕ) → OnlyOne _ (moved s depth e event p)
  pub of_slot_then : (event : ℕ) (there made : Entry) → OnlyOne _ (slot_then event there made)
  pub of_top_then : (event top : ℕ) → OnlyOne _ (top_then event top)
  pub of_depth_then : (event depth : ℕ) → OnlyOne _ (depth_then event depth)
  -- what the answers of fresh, of the events and of `moved` say
  pub begun_once : SaidOnce (Result History (Refused History)) _ told_begun
  pub event_once : (p : ℕ) → SaidOnce (Result (Moved History) (Refused History)) _ (told p)
  pub moved_once : (p : ℕ) → SaidOnce (Result (Moved LockState) (Refused LockState)) _ (Apart.told p)
  -- the conversions
  pub of_event_number : (event : Event) → OnlyOne _ (event_number event)
  pub of_event_named : (k : ℕ) (a b : Result Event Refusal) → NamesEvent k a → NamesEvent k b → a ≡ b
  pub of_lock_refusal : (refusal : LockRefusal) → OnlyOne _ (of_lock refusal)
  pub of_refusal_number : (refusal : Refusal) → OnlyOne _ (refusal_number refusal)
