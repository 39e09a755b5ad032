-- The numbers of the refusals: none is 0, and no two are the same.
--     schedule_not_zero, not_zero    a schedule's, a report's
--     number_one                     the same number, the same refusal
-- Assumes nothing.
use Prim.Native.Nat.{ℕ}
use mathlib.Core.Path.{◌≡◌, refl, sym, ap, ◌∙◌}
use mathlib.Core.Bool.{false, cond}
use lib.Dec.{eqb}
use Rattle.lock.specs.declared.Refusal.TheVariants.{UnknownEdition, ProcessorCount, UnknownEvent, NoSuchProcessor, Unsound}
use Rattle.frame.specs.declared.Refusal.TheVariants.{Torn, NotDigits, WrongCheck, WrongKind}
use Rattle.bench.specs.declared.Refusal.{Refusal as ScheduleRefusal}
use Rattle.bench.specs.declared.Refusal.TheVariants.{TooLong, Line, Lock}
use Rattle.bench.specs.Named.{number as schedule_number}
use Rattle.report.specs.declared.Refusal.{Refusal}
use Rattle.report.specs.declared.Refusal.TheVariants.{Schedule, FewRows, TooMany}
use Rattle.report.specs.Named.{number}

pub schedule_not_zero : (r : ScheduleRefusal) → eqb (schedule_number r) 0 ≡ false
schedule_not_zero TooLong = refl
schedule_not_zero (Line Torn) = refl
schedule_not_zero (Line NotDigits) = refl
schedule_not_zero (Line WrongCheck) = refl
schedule_not_zero (Line WrongKind) = refl
schedule_not_zero (Lock UnknownEdition) = refl
schedule_not_zero (Lock ProcessorCount) = refl
schedule_not_zero (Lock UnknownEvent) = refl
schedule_not_zero (Lock NoSuchProcessor) = refl
schedule_not_zero (Lock Unsound) = refl

pub not_zero : (r : Refusal) → eqb (number r) 0 ≡ false
not_zero (Schedule r) = schedule_not_zero r
not_zero FewRows = refl
not_zero TooMany = refl

-- the refusal of a number
named : ℕ → Refusal
named n =
    cond (eqb n 1) (Schedule TooLong)
    (cond (eqb n 2) (Schedule (Line Torn))
    (cond (eqb n 3) (Schedule (Line NotDigits))
    (cond (eqb n 4) (Schedule (Line WrongCheck))
    (cond (eqb n 5) (Schedule (Line WrongKind))
    (cond (eqb n 6) (Schedule (Lock UnknownEdition))
    (cond (eqb n 7) (Schedule (Lock ProcessorCount))
    (cond (eqb n 8) (Schedule (Lock UnknownEvent))
    (cond (eqb n 9) (Schedule (Lock NoSuchProcessor))
    (cond (eqb n 11) (Schedule (Lock Unsound))
    (cond (eqb n 13) FewRows TooMany))))))))))

named_back : (r : Refusal) → named (number r) ≡ r
unfolding named
named_back (Schedule TooLong) = refl
named_back (Schedule (Line Torn)) = refl
named_back (Schedule (Line NotDigits)) = refl
named_back (Schedule (Line WrongCheck)) = refl
named_back (Schedule (Line WrongKind)) = refl
named_back (Schedule (Lock UnknownEdition)) = refl
named_back (Schedule (Lock ProcessorCount)) = refl
named_back (Schedule (Lock UnknownEvent)) = refl
named_back (Schedule (Lock NoSuchProcessor)) = refl
named_back (Schedule (Lock Unsound)) = refl
named_back FewRows = refl
named_back TooMany = refl

pub number_one : (r s : Refusal) → number r ≡ number s → r ≡ s
number_one r s e = sym (named_back r) ∙ ap named e ∙ named_back s
