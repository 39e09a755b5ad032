-- "Show that it leaves room for only one answer": every public contract of this crate is an equation of the answer, or of what it says,
-- with a definition of the inputs, so two answers that meet it are equal. One law, and its instance for each public function; and what
-- makes an answer of what it says: two that say the same are the same.
use Rattle.std.specs.Prelude.{ℕ, ◌≡◌, Result}
use Rattle.lock.specs.declared.Row.{Row}
use Rattle.lock.specs.declared.LockState.{LockState}
use Rattle.lock.specs.State.{row, put_row, put_tail}
use Rattle.lock.specs.Sound.{sound}
use Rattle.lock.specs.Event.{told, fresh, carried, happens}
use Rattle.lock.specs.Named.{edition_number, event_number, locked_number, place_number, refusal_number, NamesEdition, NamesEvent, NamesPlace}
use Rattle.lock.specs.declared.Edition.{Edition}
use Rattle.lock.specs.declared.Event.{Event}
use Rattle.lock.specs.declared.Locked.{Locked as LockedCell}
use Rattle.lock.specs.declared.places.Place.{Place}
use Rattle.lock.specs.declared.places.NoPlace.{NoPlace}
use Rattle.lock.specs.declared.Refusal.{Refusal}
use Rattle.lock.specs.declared.Refused.{Refused}

-- two answers that both equal the defined one are the same answer
abbrev pub OnlyOne : (A : Type 0) → A → Type 0
OnlyOne A defined = (a b : A) → a ≡ defined → b ≡ defined → a ≡ b

pub record OnlyOneAnswer : Type 0 where
  pub of_fresh : (e n : ℕ) → OnlyOne _ (fresh e n)
  pub of_is_sound : (s : LockState) → OnlyOne _ (sound s)
  pub of_row : (s : LockState) (p : ℕ) → OnlyOne _ (row s p)
  pub of_event : (s : LockState) (event p : ℕ) → OnlyOne _ (happens s event p)
  pub of_carried : (s : LockState) (event p : ℕ) → OnlyOne _ (carried s event p)
  pub of_step : (s : LockState) (p : ℕ) → OnlyOne _ (happens s 1 p)
  pub of_raise : (s : LockState) (p : ℕ) → OnlyOne _ (happens s 2 p)

-- the same of the two puts, which are public for `history`
pub record OnlyOnePut : Type 0 where
  pub of_put_row : (s : LockState) (p : ℕ) (r : Row) → OnlyOne _ (put_row s p r)
  pub of_put_tail : (s : LockState) (q : ℕ) → OnlyOne _ (put_tail s q)

-- two answers that say the same are the same
abbrev pub OnlyOneSays : Type 0
OnlyOneSays = (a b : Result LockState Refused) → told a ≡ told b → a ≡ b

-- each name has one number, and a number is taken for one thing
pub record OnlyOneNamed : Type 0 where
  pub of_edition_number : (e : Edition) → OnlyOne _ (edition_number e)
  pub of_event_number : (e : Event) → OnlyOne _ (event_number e)
  pub of_locked_number : (v : LockedCell) → OnlyOne _ (locked_number v)
  pub of_place_number : (place : Place) → OnlyOne _ (place_number place)
  pub of_refusal_number : (r : Refusal) → OnlyOne _ (refusal_number r)
  pub of_edition : (k : ℕ) (a b : Result Edition Refusal) → NamesEdition k a → NamesEdition k b → a ≡ b
  pub of_event : (k : ℕ) (a b : Result Event Refusal) → NamesEvent k a → NamesEvent k b → a ≡ b
  pub of_place : (k : ℕ) (a b : Result Place NoPlace) → NamesPlace k a → NamesPlace k b → a ≡ b
