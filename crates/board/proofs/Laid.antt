-- Tallies laid down as numbers, three for each.
--     numbers_length    how many numbers there are
--     numbers_append    of two lists of tallies, one after the other
--     row_put           a tally's three stores, behind what is laid down so far
--     row_goes_on       one tally more is laid down; the numbers after it are as they were
--     told_is           what is answered beside the tallies is the report
--     table_stays       what is refused leaves the table as it was
--     numbers_are       the lent numbers, once the tallies of a report are laid down
-- Assumes nothing.
use Prim.Native.Nat.{ℕ, ◌+◌, ◌*◌, ◌/◌, ◌<◌}
use native.Mathlib.Numerals.{add-one}
use native.Mathlib.Omega.{arith}
use mathlib.Core.Path.{◌≡◌, refl, sym, ap, ◌∙◌, subst}
use mathlib.Core.Logic.{◌≢◌}
use mathlib.Core.Bool.{false}
use mathlib.Core.List.{List, [], ◌∷◌, ◌++◌, append_assoc}
use lib.ListN.{length, get_or, take, drop, set, replicate, length-append, length-replicate}
use lib.Seq.{take-suc, length-take-le}
use lib.Dec.{eqb}
use borrow.Author.Tests.{eq-eqb}
use Rattle.choice.proofs.Tests.{by_either, clash}
use Rattle.frame.proofs.Buffers.{put_next}
use Rattle.report.specs.declared.Tally.{Tally}
use Rattle.report.specs.Table.{Reported}
use Rattle.report.specs.Report.{Measured, no_tally, reported_of, measured_of}
use Rattle.report.proofs.Orders.{refused_adds_nothing}
use Rattle.board.specs.Numbers.{numbers_of, numbers_after}

pub numbers_length : (ts : List Tally) → length (numbers_of ts) ≡ 3 * length ts
unfolding numbers_of
numbers_length [] = refl
numbers_length (t ∷ more) = omega (arith, numbers_length more)

pub numbers_append : (ts us : List Tally) → numbers_of (ts ++ us) ≡ numbers_of ts ++ numbers_of us
unfolding numbers_of
numbers_append [] us = refl
numbers_append (t ∷ more) us =
    ap (λ (ns : List ℕ). t.entries ∷ t.interrupts ∷ t.joins ∷ ns) (numbers_append more us)

abbrev put : List ℕ → ℕ → Tally → List ℕ
put ns at t = set (set (set ns at t.entries) (at + 1) t.interrupts) (at + 2) t.joins

row_put : (written ns : List ℕ) (at : ℕ) (t : Tally) → length written ≡ at → at + 2 < length ns
    → put (written ++ drop at ns) at t ≡ (written ++ numbers_of (t ∷ [])) ++ drop (at + 3) ns
unfolding numbers_of
row_put written ns at t long room =
    let one = written ++ (t.entries ∷ []) in
    let two = one ++ (t.interrupts ∷ []) in
    let one-long : length one ≡ at + 1 = length-append written (t.entries ∷ []) ∙ ap (λ (m : ℕ). m + 1) long in
    let two-long : length two ≡ at + 2 = omega (arith, length-append one (t.interrupts ∷ [])) in
    let second : at + 1 + 1 ≡ at + 2 = omega arith in
    let third : at + 2 + 1 ≡ at + 3 = omega arith in
    let joined : two ++ (t.joins ∷ []) ≡ written ++ numbers_of (t ∷ []) = simp append_assoc in
    ap (λ (l : List ℕ). set (set l (at + 1) t.interrupts) (at + 2) t.joins)
    (put_next written ns at t.entries long (omega arith))
    ∙ ap (λ (l : List ℕ). set l (at + 2) t.joins) (put_next one ns (at + 1) t.interrupts one-long (omega arith))
    ∙ ap (λ (m : ℕ). set (two ++ drop m ns) (at + 2) t.joins) second
    ∙ put_next two ns (at + 2) t.joins two-long room
    ∙ ap (λ (m : ℕ). (two ++ (t.joins ∷ [])) ++ drop m ns) third
    ∙ ap (λ (l : List ℕ). l ++ drop (at + 3) ns) joined

pub row_goes_on :
    (ts : List Tally) (ns rows : List ℕ) (i : ℕ)
    → i < length ts
    → 3 * i + 2 < length ns
    → rows ≡ numbers_of (take i ts) ++ drop (3 * i) ns
    → put rows (3 * i) (get_or ts i no_tally) ≡ numbers_of (take (i + 1) ts) ++ drop (3 * (i + 1)) ns
row_goes_on ts ns rows i h room so =
    let t = get_or ts i no_tally in
    let long : length (numbers_of (take i ts)) ≡ 3 * i =
    numbers_length (take i ts) ∙ ap (λ (m : ℕ). 3 * m) (length-take-le i ts (omega arith)) in
    let further : 3 * i + 3 ≡ 3 * (i + 1) = omega arith in
    ap (λ (l : List ℕ). put l (3 * i) t) so
    ∙ row_put (numbers_of (take i ts)) ns (3 * i) t long room
    ∙ ap (λ (l : List ℕ). l ++ drop (3 * i + 3) ns) (sym (numbers_append (take i ts) (t ∷ [])))
    ∙ ap (λ (l : List Tally). numbers_of l ++ drop (3 * i + 3) ns) (sym (take-suc ts i no_tally h))
    ∙ ap (λ (m : ℕ). numbers_of (take m ts) ++ drop (3 * i + 3) ns) (sym (add-one i))
    ∙ ap (λ (m : ℕ). numbers_of (take (i + 1) ts) ++ drop m ns) further

pub told_is : (text : List ℕ) (table : List (List ℕ)) (lent : ℕ) → (measured_of text table lent).told ≡ reported_of text table lent
unfolding measured_of
told_is text table lent =
    let r = reported_of text table lent in
    by_either (λ (m : Measured). m.told ≡ r) (eqb r.refusal 0) refl refl

-- what is refused leaves the table as it was
pub table_stays : (text : List ℕ) (table : List (List ℕ)) (lent : ℕ) (r : Reported) → r ≡ reported_of text table lent
    → eqb r.refusal 0 ≡ false → (reported_of text table lent).table ≡ table
table_stays text table lent r e some =
    let rows : List Tally = replicate lent no_tally in
    subst (λ (n : ℕ). (reported_of text table n).refusal ≢ 0 → (reported_of text table n).table ≡ table)
    (length-replicate lent no_tally)
    (λ h. (refused_adds_nothing text table rows h).table_stays)
    (λ z. clash (eq-eqb (reported_of text table lent).refusal 0 z) (ap (λ (x : Reported). eqb x.refusal 0) (sym e) ∙ some))

pub numbers_are :
    (text : List ℕ) (table : List (List ℕ)) (ns : List ℕ) (m : Measured) (ts : List Tally) (after : List ℕ)
    → m ≡ measured_of text table (length ns / 3)
    → ts ≡ take m.count m.rows
    → length ts ≡ m.count
    → after ≡ numbers_of ts ++ drop (3 * length ts) ns
    → after ≡ numbers_after text table ns
unfolding numbers_after
numbers_are text table ns m ts after is front long laid =
    laid
    ∙ ap (λ (k : ℕ). numbers_of ts ++ drop (3 * k) ns) long
    ∙ ap (λ (l : List Tally). numbers_of l ++ drop (3 * m.count) ns) front
    ∙ ap (λ (k : Measured). numbers_of (take k.count k.rows) ++ drop (3 * k.count) ns) is
