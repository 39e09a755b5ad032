-- What is told of an answer of the code, and a refusal's number, leaves one answer and one refusal.
-- Assumes nothing.
use Prim.Native.Nat.{ℕ, ◌≤◌}
use native.Mathlib.Omega.{arith}
use mathlib.Core.Path.{◌≡◌, refl, sym, ap, ◌∙◌}
use Rattle.std.specs.Prelude.{cond, eqb, Result, Ok, Err}
use Rattle.lock.specs.declared.Refusal.{Refusal as LockRefusal}
use Rattle.lock.specs.declared.Refusal.TheVariants.{UnknownEdition, ProcessorCount, UnknownEvent, NoSuchProcessor, Unsound}
use Rattle.lock.specs.Named.{refusal_number}
use Rattle.frame.specs.declared.NoRoom.{NoRoom}
use Rattle.frame.specs.declared.Refusal.{Refusal as LineRefusal}
use Rattle.frame.specs.declared.Refusal.TheVariants.{Torn, NotDigits, WrongCheck, WrongKind}
use Rattle.frame.specs.Reading.{number as line_number}
use Rattle.frame.proofs.Proved.{number_one as line_one}
use Rattle.bench.specs.declared.Refusal.{Refusal}
use Rattle.bench.specs.declared.Refusal.TheVariants.{TooLong, Line, Lock}
use Rattle.bench.specs.Named.{number}
use Rattle.bench.specs.Lent.{Logged, told}

-- a line's are 2 to 5, the lock's 6 and more
line_within : (r : LineRefusal) → (2 ≤ line_number r) × (line_number r ≤ 5)
line_within Torn = (omega arith, omega arith)
line_within NotDigits = (omega arith, omega arith)
line_within WrongCheck = (omega arith, omega arith)
line_within WrongKind = (omega arith, omega arith)

lock_above : (r : LockRefusal) → 6 ≤ refusal_number r
lock_above UnknownEdition = omega arith
lock_above ProcessorCount = omega arith
lock_above UnknownEvent = omega arith
lock_above NoSuchProcessor = omega arith
lock_above Unsound = omega arith

-- the lock's refusal of a number
lock_of : ℕ → LockRefusal
lock_of n =
    cond (eqb n 6) UnknownEdition
    (cond (eqb n 7) ProcessorCount (cond (eqb n 8) UnknownEvent (cond (eqb n 9) NoSuchProcessor Unsound)))

lock_back : (r : LockRefusal) → lock_of (refusal_number r) ≡ r
unfolding lock_of
lock_back UnknownEdition = refl
lock_back ProcessorCount = refl
lock_back UnknownEvent = refl
lock_back NoSuchProcessor = refl
lock_back Unsound = refl

pub number_one : (r s : Refusal) → number r ≡ number s → r ≡ s
number_one TooLong TooLong e = refl
number_one TooLong (Line s) e = absurd (omega (arith, line_within s))
number_one TooLong (Lock s) e = absurd (omega (arith, lock_above s))
number_one (Line r) TooLong e = absurd (omega (arith, line_within r))
number_one (Line r) (Line s) e = ap Line (line_one r s e)
number_one (Line r) (Lock s) e = absurd (omega (arith, line_within r, lock_above s))
number_one (Lock r) TooLong e = absurd (omega (arith, lock_above r))
number_one (Lock r) (Line s) e = absurd (omega (arith, line_within s, lock_above r))
number_one (Lock r) (Lock s) e = ap Lock (sym (lock_back r) ∙ ap lock_of e ∙ lock_back s)

pub told_one : (r s : Result ℕ NoRoom) → told r ≡ told s → r ≡ s
told_one (Ok m) (Ok n) e = ap Ok (ap (λ (l : Logged). l.length) e)
told_one (Ok m) (Err _) e = let z : ◌≡◌ {A = ℕ} 0 10 = ap (λ (l : Logged). l.refusal) e in absurd (omega arith)
told_one (Err _) (Ok n) e = let z : ◌≡◌ {A = ℕ} 10 0 = ap (λ (l : Logged). l.refusal) e in absurd (omega arith)
told_one (Err _) (Err _) e = refl
