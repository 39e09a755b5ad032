-- The length of a log is within the room that the bench asks for it.
--     later_fits   from a later line on: 17 bytes for each whole line and 11 more
--     log_fits     the whole log, of a schedule of any length
-- Assumes nothing.
use Prim.Native.Nat.{ℕ, zero, suc, ◌+◌, ◌≤◌}
use native.Mathlib.Omega.{arith}
use mathlib.Core.Logic.{⊎_elim}
use mathlib.Core.Path.{◌≡◌}
use mathlib.Core.Bool.{true, false}
use mathlib.Core.List.{List, [], ◌∷◌}
use lib.ListN.{length, length-append, length-drop}
use lib.Dec.{eqb, ltb}
use borrow.Author.Tests.{eqb-true}
use Rattle.choice.proofs.Tests.{cases}
use Rattle.lock.specs.declared.LockState.{LockState}
use Rattle.lock.specs.Event.{fresh}
use Rattle.frame.specs.Reading.{reads, rest_of}
use Rattle.frame.specs.Writing.{header_line}
use Rattle.frame.proofs.Proved.{lengths_are_known}
use Rattle.bench.specs.Log.{longest, second, third, turn_of, log_from, begun, opened, log_of}
use Rattle.bench.specs.Lent.{room_for}
use Rattle.bench.specs.Steps.{lines_room}
use Rattle.bench.proofs.Sizes.{count_size, refusal_size, whole_nine, GoesOn, Stops, turn_size}

pub later_fits : (fuel : ℕ) (s : LockState) (accepted : ℕ) (text : List ℕ) →
    length (log_from fuel s accepted text) ≤ lines_room text
unfolding log_from
later_fits zero s accepted text = omega (arith, count_size accepted)
later_fits (suc fuel) s accepted [] = omega (arith, count_size accepted)
later_fits (suc fuel) s accepted (b ∷ text) =
    let t = turn_of s (accepted + 2) (b ∷ text) in
    let more = log_from fuel t.next (suc accepted) (rest_of (b ∷ text)) in
    let on = later_fits fuel t.next (suc accepted) (rest_of (b ∷ text)) in
    ⊎_elim
    (λ (g : GoesOn t × (9 ≤ length (b ∷ text))).
    simp g.0.0 (omega (arith, length-append t.written more, length-drop 9 (b ∷ text), on)))
    (λ (g : Stops t). simp g.0 (omega (arith, length-append t.written [])))
    (turn_size s (accepted + 2) (b ∷ text))

begun_fits : (text : List ℕ) (edition n : ℕ) → 9 ≤ length text → length (begun text edition n) ≤ lines_room text
unfolding begun
begun_fits text edition n h =
    let a = fresh edition n in
    let more = log_from (length text) a.state 0 (rest_of text) in
    ⊎_elim
    (λ (e : eqb a.refusal 0 ≡ true).
    simp e
    (omega (
      arith,
      length-append (header_line edition n) more,
      lengths_are_known.header edition n,
      length-drop 9 text,
      later_fits (length text) a.state 0 (rest_of text),
    )))
    (λ (e : eqb a.refusal 0 ≡ false). simp e (omega (arith, refusal_size a.refusal 1)))
    (cases (eqb a.refusal 0))

pub log_fits : (text : List ℕ) → length (log_of text) ≤ room_for (length text)
unfolding log_of opened room_for
log_fits text =
    let t = reads text true in
    ⊎_elim
    (λ (e : ltb longest (length text) ≡ true). simp e (omega (arith, refusal_size 1 0)))
    (λ (e : ltb longest (length text) ≡ false).
    simp e
    (⊎_elim
    (λ (f : eqb t.refusal 0 ≡ true). simp f
    (begun_fits text (second t) (third t) (whole_nine text true (eqb-true t.refusal 0 f))))
    (λ (f : eqb t.refusal 0 ≡ false). simp f (omega (arith, refusal_size t.refusal 1)))
    (cases (eqb t.refusal 0))))
    (cases (ltb longest (length text)))
