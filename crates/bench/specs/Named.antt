-- The numbers that a schedule's refusals have in document 01, "What is turned away".
use Rattle.std.specs.Prelude.{ℕ}
use Rattle.lock.specs.Named.{refusal_number}
use Rattle.frame.specs.Reading.{number as line_number}
use Rattle.bench.specs.declared.Refusal.{Refusal}
use Rattle.bench.specs.declared.Refusal.TheVariants.{TooLong, Line, Lock}

-- 1 for a schedule that is too long; a line's own, 2 to 5; the lock's, 6 to 9 (and 11, which no schedule gives)
abbrev pub number : Refusal → ℕ
number TooLong = 1
number (Line refusal) = line_number refusal
number (Lock refusal) = refusal_number refusal
