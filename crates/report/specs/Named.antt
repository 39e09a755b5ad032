-- The numbers that a report's refusals have in request [4]: a schedule's own, 13 and 12.
use Rattle.std.specs.Prelude.{ℕ}
use Rattle.bench.specs.Named.{number as schedule_number}
use Rattle.report.specs.declared.Refusal.{Refusal}
use Rattle.report.specs.declared.Refusal.TheVariants.{Schedule, FewRows, TooMany}

-- 13: fewer rows are lent than N; 12: a count would pass the greatest
abbrev pub number : Refusal → ℕ
number (Schedule refusal) = schedule_number refusal
number FewRows = 13
number TooMany = 12
