-- How long the lines of a log are, and what a turn that goes on has read.
--     row_size, shown_size, count_size, refusal_size   17, 17, 9 and 11 bytes
--     whole_nine                           a line that is read without refusal has its nine bytes
--     turn_size                            a turn goes on after 17 bytes, from nine of the text, or stops after 11
-- Assumes nothing.
use Prim.Native.Nat.{ℕ, ◌≤◌}
use mathlib.Core.Path.{◌≡◌}
use mathlib.Core.Logic.{◌⊎◌, inl, inr, ⊎_elim}
use mathlib.Core.Bool.{Bool, true, false}
use mathlib.Core.List.{List}
use lib.ListN.{length}
use lib.Dec.{eqb}
use borrow.Author.Tests.{eqb-true}
use Rattle.choice.proofs.Tests.{cases}
use Rattle.lock.specs.declared.Row.{Row}
use Rattle.lock.specs.declared.LockState.{LockState}
use Rattle.lock.specs.Event.{Answer}
use Rattle.lock.specs.State.{row}
use Rattle.lock.specs.Event.{happens}
use Rattle.frame.specs.Reading.{kind_of, reads}
use Rattle.frame.proofs.Refusals.{whole_line, by_order}
use Rattle.frame.proofs.Proved.{lengths_are_known}
use Rattle.bench.specs.Log.{high, low, refused_at, counted, marks_of, row_shown, shown, Turn, second, third, answered, followed, turn_of}

pub row_size : (p tail : ℕ) (r : Row) (event : ℕ) → length (row_shown p tail r event) ≡ 17
unfolding row_shown
row_size p tail r event =
    lengths_are_known.row p r.place tail r.locked r.next (marks_of r event)

pub shown_size : (s : LockState) (event p : ℕ) → length (shown s event p) ≡ 17
unfolding shown
shown_size s event p = row_size p s.tail (row s p) event

pub count_size : (accepted : ℕ) → length (counted accepted) ≡ 9
count_size accepted = lengths_are_known.count (high accepted) (low accepted)

pub refusal_size : (refusal line : ℕ) → length (refused_at refusal line) ≡ 11
refusal_size refusal line = lengths_are_known.refusal refusal (high line) (low line)

pub whole_nine : (text : List ℕ) (is_first : Bool) → (reads text is_first).refusal ≡ 0 → 9 ≤ length text
whole_nine text is_first e = (whole_line 4 text ((by_order 4 (kind_of is_first) text).none.0 e).0).0

-- a turn that goes on, and one that stops
abbrev pub GoesOn : Turn → Type 0
GoesOn t = (t.goes_on ≡ true) × (length t.written ≡ 17)

abbrev pub Stops : Turn → Type 0
Stops t = (t.goes_on ≡ false) × (length t.written ≡ 11)

answered_size : (s : LockState) (line event p : ℕ) (a : Answer) →
    GoesOn (answered s line event p a) ⊎ Stops (answered s line event p a)
unfolding answered
answered_size s line event p a =
    ⊎_elim
    (λ (e : eqb a.refusal 0 ≡ true). inl (simp e, simp e (shown_size a.state event p)))
    (λ (e : eqb a.refusal 0 ≡ false). inr (simp e, simp e (refusal_size a.refusal line)))
    (cases (eqb a.refusal 0))

pub turn_size : (s : LockState) (line : ℕ) (text : List ℕ) →
    (GoesOn (turn_of s line text) × (9 ≤ length text)) ⊎ Stops (turn_of s line text)
unfolding turn_of followed
turn_size s line text =
    let t = reads text false in
    let a = answered s line (second t) (third t) (happens s (second t) (third t)) in
    ⊎_elim
    (λ (e : eqb t.refusal 0 ≡ true).
    ⊎_elim (λ (g : GoesOn a). inl (simp e g, whole_nine text false (eqb-true t.refusal 0 e)))
    (λ (g : Stops a). inr (simp e g))
    (answered_size s line (second t) (third t) (happens s (second t) (third t))))
    (λ (e : eqb t.refusal 0 ≡ false). inr (simp e, simp e (refusal_size t.refusal line)))
    (cases (eqb t.refusal 0))
