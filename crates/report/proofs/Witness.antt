-- The claims on the report on schedules that are worked out step by step: each fact here is computed from the schedule.
use Prim.Native.Nat.{ℕ, ◌+◌, ◌*◌, ◌≤◌, ◌<◌}
use native.Mathlib.Nat.{mul-le-mul_right}
use native.Mathlib.Omega.{arith}
use mathlib.Core.Path.{◌≡◌, refl, sym, ap, ◌∙◌, subst}
use mathlib.Core.Logic.{⊎_elim}
use mathlib.Core.Bool.{Bool, true, false, cond, ◌&&◌}
use mathlib.Core.List.{List, [], ◌∷◌, ◌++◌}
use lib.ListN.{length, set, replicate}
use lib.Dec.{eqb, ltb, lit≤}
use borrow.Author.Tests.{eqb-true, ltb-false}
use Rattle.choice.specs.Every.{every}
use Rattle.choice.proofs.Tests.{cases, and_left, and_right}
use Rattle.choice.proofs.Numbers.{every_at}
use Rattle.lock.specs.State.{processors}
use Rattle.lock.specs.Event.{fresh}
use Rattle.lock.specs.Run.{Call}
use Rattle.lock.specs.Cases.{step, steps, raise}
use Rattle.lock.proofs.Roof.Opened.{computed}
use Rattle.frame.specs.Pairs.{value_of, digit_of, pair_at, pairs_from, sum_of, check_of}
use Rattle.frame.specs.Reading.{is_torn, are_digits, read_as}
use Rattle.frame.specs.Writing.{digits_of, line_of}
use Rattle.bench.specs.Bridge.{first_state, line_refusal, heard_from, heard_of}
use Rattle.bench.specs.Verdict.{verdict_of}
use Rattle.report.specs.Charges.{charge, charges_from}
use Rattle.report.specs.Table.{greatest, cell, holds, raised}
use Rattle.report.specs.Order.{Given, no_counts, table_after}
use Rattle.report.specs.Sharp.{Charged, PassedOver, StillOpen, OrderMatters, ReportIsSharp}
use Rattle.report.proofs.Charging.{charges_within}
use Rattle.report.proofs.Orders.{passes, counts, not_added, table_then, cell_raised, holds_at, holds_from}

-- bound_met_plain and bound_met: 1 enters once between 0's second join and its entry
once_plain : Charged 0 2 1 0 1
unfolding computed charge
once_plain = record {
  before = steps 0 3 ++ steps 1 5 ++ steps 0 11 ++ steps 1 4;
  entry = step 0;
  entered = refl;
  charged = refl;
}

once_guarded : Charged 2 2 1 0 1
unfolding computed charge
once_guarded = record {
  before = steps 0 4 ++ steps 1 7 ++ steps 0 10 ++ steps 1 4;
  entry = step 0;
  entered = refl;
  charged = refl;
}

-- drawn_twice: 2 is taken past 0 once more before 0 enters
twice_drawn : Charged 1 3 2 0 2
unfolding computed charge
twice_drawn = record {
  before =
      steps 1 3 ++ steps 2 6 ++ steps 0 5 ++ steps 1 2 ++ steps 2 1 ++ raise 2 ∷ steps 2 1 ++ steps 1 2 ++ steps 0 2 ++ steps 1 1
      ++ steps 2 8 ++ steps 0 2 ++ steps 2 1 ++ raise 2 ∷ steps 2 1 ++ steps 0 3 ++ steps 1 1 ++ steps 2 7 ++ steps 1 1
      ++ steps 2 2 ++ raise 2 ∷ steps 2 1 ++ steps 1 5 ++ steps 0 4 ++ steps 2 6 ++ steps 1 1 ++ steps 2 8 ++ steps 0 2
      ++ steps 2 4;
  entry = step 0;
  entered = refl;
  charged = refl;
}

-- interrupt_passed: 1 joins and takes an interrupt, 2 enters while it is away, 1 joins again and enters
passed_over : PassedOver 2 3 2 1
unfolding computed charge
passed_over = record {
  before = steps 0 4 ++ steps 1 3;
  join = step 1;
  wait = steps 1 4 ++ raise 1 ∷ steps 1 1 ++ steps 2 7 ++ steps 0 9 ++ steps 2 1 ++ steps 1 9 ++ steps 2 3;
  entry = step 1;
  joined = refl;
  entered = refl;
  meanwhile = refl;
  again = refl;
  charged = refl;
}

still_open : StillOpen 0 2 1 0
unfolding computed charge charges_from
still_open = record { calls = steps 0 3 ++ steps 1 5 ++ steps 0 11 ++ steps 1 4; pending = refl; charged = refl }

-- a schedule of the plain edition with N 2, as the writer gives its lines
lines : List Call → List ℕ
lines [] = []
lines (c ∷ cs) = line_of (2 ∷ c.event ∷ c.processor ∷ []) ++ lines cs

abbrev schedule : List Call → Given
schedule calls = record { text = line_of (1 ∷ 0 ∷ 2 ∷ []) ++ lines calls; lent = 2 }

-- 1 makes 0 wait once in the one, twice in the other
abbrev round : List Call
round = steps 1 5 ++ steps 0 11 ++ steps 1 4 ++ steps 0 1

abbrev one : Given
one = schedule (steps 0 3 ++ round)

abbrev two : Given
two = schedule (steps 0 3 ++ round ++ round)

-- the count of 1 and 0 may rise by 2, and no other is near the greatest
abbrev nearly_full : List (List ℕ)
nearly_full = set no_counts 1 (set (replicate processors 0) 0 4294967293)

-- what is computed of a schedule
record Computed (g : Given) (k : ℕ) : Type 0 where
  accepted : passes g ≡ true
  few : ltb 50 (length (heard_of g.text)) ≡ false
  count : counts g 1 0 ≡ k

one_computed : Computed one 1
unfolding lines computed fresh value_of digit_of pair_at pairs_from sum_of check_of is_torn are_digits read_as digits_of line_of line_refusal
    heard_from verdict_of charge charges_from
one_computed = record { accepted = refl; few = refl; count = refl }

two_computed : Computed two 2
unfolding lines computed fresh value_of digit_of pair_at pairs_from sum_of check_of is_torn are_digits read_as digits_of line_of line_refusal
    heard_from verdict_of charge charges_from
two_computed = record { accepted = refl; few = refl; count = refl }

-- a cell of that table
nearly_at : (a b : ℕ) → a < processors → b < processors
    → cell nearly_full a b ≡ cond (eqb a 1 && eqb b 0) 4294967293 0
unfolding cell every
nearly_at a b la lb =
    eqb-true (cell nearly_full a b) (cond (eqb a 1 && eqb b 0) 4294967293 0)
    (every_at processors (λ y. eqb (cell nearly_full a y) (cond (eqb a 1 && eqb y 0) 4294967293 0))
    (every_at processors
    (λ x. every processors (λ y. eqb (cell nearly_full x y) (cond (eqb x 1 && eqb y 0) 4294967293 0))) refl a la) b lb)

-- counts of so short a schedule fit, if that one does
fits : (g : Given) (k : ℕ) → Computed g k → k ≤ 2 → holds nearly_full (counts g) ≡ true
fits g k c h =
    holds_from nearly_full (counts g) (λ a b la lb.
    let least : length (heard_of g.text) ≤ 50 = ltb-false 50 (length (heard_of g.text)) c.few in
    let square : length (heard_of g.text) * length (heard_of g.text) ≤ 50 * length (heard_of g.text) =
    mul-le-mul_right (length (heard_of g.text)) least in
    let most : counts g a b ≤ length (heard_of g.text) * length (heard_of g.text) =
    charges_within (first_state g.text) (heard_of g.text) a b in
    subst (λ (n : ℕ). n + counts g a b ≤ greatest) (sym (nearly_at a b la lb))
    (⊎_elim
    (λ (at : (eqb a 1 && eqb b 0) ≡ true).
    let here : counts g a b ≡ k =
    ap (λ (x : ℕ). counts g x b) (eqb-true a 1 (and_left (eqb a 1) (eqb b 0) at))
    ∙ ap (counts g 1) (eqb-true b 0 (and_right (eqb a 1) (eqb b 0) at)) ∙ c.count in
    subst (λ (x : Bool). cond x 4294967293 0 + counts g a b ≤ greatest) (sym at) (omega arith))
    (λ (off : (eqb a 1 && eqb b 0) ≡ false).
    subst (λ (x : Bool). cond x 4294967293 0 + counts g a b ≤ greatest) (sym off) (omega arith))
    (cases (eqb a 1 && eqb b 0))))

-- the table after the first of the two, and that the second does not fit
count_then : (g : Given) (k : ℕ) → Computed g k → cell (raised nearly_full (counts g)) 1 0 ≡ 4294967293 + k
unfolding cell
count_then g k c = cell_raised nearly_full (counts g) 1 0 (lit≤ tt) (lit≤ tt) ∙ ap (λ (n : ℕ). 4294967293 + n) c.count

past : (t : List (List ℕ)) (g : Given) (k n : ℕ) → Computed g k → cell t 1 0 ≡ n → greatest < n + k → holds t (counts g) ≡ false
past t g k n c e h =
    ⊎_elim
    (λ (all : holds t (counts g) ≡ true).
    let fit : cell t 1 0 + counts g 1 0 ≤ greatest = holds_at t (counts g) all 1 0 (lit≤ tt) (lit≤ tt) in
    let count : counts g 1 0 ≡ k = c.count in
    absurd (omega arith))
    (λ (none : holds t (counts g) ≡ false). none)
    (cases (holds t (counts g)))

-- the one first: then the other is refused
table_is : (g h : Given) (k m : ℕ) → Computed g k → Computed h m → k ≤ 2 → greatest < 4294967293 + k + m
    → cell (table_after nearly_full (g ∷ h ∷ [])) 1 0 ≡ 4294967293 + k
unfolding table_after
table_is g h k m c d low over =
    let then = raised nearly_full (counts g) in
    ap (λ (t : List (List ℕ)). cell t 1 0)
    (table_then nearly_full g (h ∷ []) c.accepted (fits g k c low)
    ∙ not_added then h (past then h m (4294967293 + k) d (count_then g k c) over))
    ∙ count_then g k c

order_matters : OrderMatters
order_matters = record {
  table = nearly_full;
  one = one;
  other = two;
  tables = λ e.
      let first : cell (table_after nearly_full (one ∷ two ∷ [])) 1 0 ≡ 4294967293 + 1 =
      table_is one two 1 2 one_computed two_computed (lit≤ tt) (lit≤ tt) in
      let second : cell (table_after nearly_full (two ∷ one ∷ [])) 1 0 ≡ 4294967293 + 2 =
      table_is two one 2 1 two_computed one_computed (lit≤ tt) (lit≤ tt) in
      let same : cell (table_after nearly_full (one ∷ two ∷ [])) 1 0 ≡ cell (table_after nearly_full (two ∷ one ∷ [])) 1 0 =
      ap (λ (t : List (List ℕ)). cell t 1 0) e in
      omega arith;
}

pub report_is_sharp : ReportIsSharp
report_is_sharp = record {
  once_plain = once_plain;
  once_guarded = once_guarded;
  twice_drawn = twice_drawn;
  passed_over = passed_over;
  still_open = still_open;
  order_matters = order_matters;
}
