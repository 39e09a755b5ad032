-- What holds of the definitions of a log, each the promise of a function of `src/laws.rt`.
--     FuelDoesNotMatter    the fuel of `log_from` changes nothing once it is the length of the text
--     LogFitsItsRoom       a log is within the room that the bench asks for it
--     OnlyOneAnswerFits    two answers, and two buffers, that meet the contract of a public function are one
use Rattle.std.specs.Prelude.{ℕ, ◌≤◌, ◌≡◌, List, Result, length}
use Rattle.lock.specs.declared.LockState.{LockState}
use Rattle.frame.specs.declared.NoRoom.{NoRoom}
use Rattle.lock.specs.declared.Refusal.{Refusal as LockRefusal}
use Rattle.lock.specs.declared.Refused.{Refused}
use Rattle.frame.specs.declared.Refusal.{Refusal as LineRefusal}
use Rattle.bench.specs.declared.Refusal.{Refusal}
use Rattle.bench.specs.declared.Refusal.TheVariants.{Line, Lock}
use Rattle.bench.specs.Named.{number}
use Rattle.bench.specs.Log.{log_from, log_of}
use Rattle.bench.specs.Lent.{Logged, told, room_for, logged, left}

abbrev pub FuelDoesNotMatter : Type 0
FuelDoesNotMatter =
    (fuel : ℕ) (s : LockState) (accepted : ℕ) (text : List ℕ) → length text ≤ fuel →
    log_from fuel s accepted text ≡ log_from (length text) s accepted text

abbrev pub LogFitsItsRoom : Type 0
LogFitsItsRoom = (text : List ℕ) → length (log_of text) ≤ room_for (length text)

-- `bench`, and `room_for`; the conversions; and what is told of an answer, or the number of a refusal, leaves one answer and one refusal
pub record OnlyOneAnswerFits : Type 0 where
  pub to_bench : (text out : List ℕ) (r s : Logged) (after kept : List ℕ) →
      r ≡ logged text out → after ≡ left text out → s ≡ logged text out → kept ≡ left text out →
      (r ≡ s) × (after ≡ kept)
  pub to_room : (bytes r s : ℕ) → r ≡ room_for bytes → s ≡ room_for bytes → r ≡ s
  pub to_told : (r s : Result ℕ NoRoom) → told r ≡ told s → r ≡ s
  pub to_number : (r s : Refusal) → number r ≡ number s → r ≡ s
  pub of_number : (refusal : Refusal) (r s : ℕ) → r ≡ number refusal → s ≡ number refusal → r ≡ s
  pub of_line : (line : LineRefusal) (r s : Refusal) → r ≡ Line line → s ≡ Line line → r ≡ s
  pub of_lock : (lock : LockRefusal) (r s : Refusal) → r ≡ Lock lock → s ≡ Lock lock → r ≡ s
  pub of_refused : (refused : Refused) (r s : Refusal) → r ≡ Lock refused.refusal → s ≡ Lock refused.refusal → r ≡ s
