-- What a number of bytes says.
--     line_whole, line_absent   a line's bytes are all written, or none: the writer's refusal says which
--     log_size                  a log has at least nine bytes
--     size_told                 the number of them as the bench's answer has it
--     zero_is_short             0 bytes of a log are written exactly where the buffer has not the room
-- Assumes nothing.
use Prim.Native.Nat.{ℕ, ◌≤◌}
use native.Mathlib.Omega.{arith}
use Rattle.std.specs.Prelude.{Result, Ok, Err}
use Rattle.std.specs.Result.{result_unwrap_or}
use mathlib.Core.Path.{◌≡◌, refl, sym, ap, ◌∙◌}
use mathlib.Core.Logic.{⊎_elim}
use mathlib.Core.Bool.{Bool, true, false, cond}
use mathlib.Core.List.{List}
use lib.ListN.{length, length-append}
use lib.Dec.{eqb, leb, ltb}
use borrow.Author.Tests.{ne_eqb}
use Rattle.choice.proofs.Tests.{cases}
use Rattle.lock.specs.Event.{fresh}
use Rattle.frame.specs.Reading.{Told, reads, rest_of}
use Rattle.frame.specs.Writing.{writes, header_line}
use Rattle.frame.proofs.Proved.{lengths_are_known}
use Rattle.bench.specs.Log.{longest, begun, opened, log_of, log_from, second, third}
use Rattle.frame.specs.declared.NoRoom.{NoRoom}
use Rattle.bench.specs.Lent.{told, room_for, logged}
use Rattle.bench.proofs.Sizes.{refusal_size}
use Rattle.board.specs.Written.{written}

all_or_none : (b : Bool) (n r : ℕ) → r ≡ cond b 0 10 → cond (eqb r 0) n 0 ≡ cond b n 0
all_or_none true n r e = ap (λ (x : ℕ). cond (eqb x 0) n 0) e
all_or_none false n r e = ap (λ (x : ℕ). cond (eqb x 0) n 0) e

module _ (line out : List ℕ) (r : ℕ) (e : r ≡ writes line out) where
  by_refusal : (b : Bool) → eqb r 0 ≡ b → cond b (length line) 0 ≡ written line out
  unfolding written
  by_refusal b h =
      sym (ap (λ (x : Bool). cond x (length line) 0) h)
      ∙ all_or_none (leb (length line) (length out)) (length line) r e

  pub line_whole : eqb r 0 ≡ true → length line ≡ written line out
  line_whole h = by_refusal true h

  pub line_absent : eqb r 0 ≡ false → 0 ≡ written line out
  line_absent h = by_refusal false h

begun_size : (text : List ℕ) (edition n : ℕ) → 9 ≤ length (begun text edition n)
unfolding begun
begun_size text edition n =
    let a = fresh edition n in
    ⊎_elim
    (λ (e : eqb a.refusal 0 ≡ true).
    simp e
    (omega (
      arith,
      length-append (header_line edition n) (log_from (length text) a.state 0 (rest_of text)),
      lengths_are_known.header edition n,
    )))
    (λ (e : eqb a.refusal 0 ≡ false). simp e (omega (arith, refusal_size a.refusal 1)))
    (cases (eqb a.refusal 0))

opened_size : (text : List ℕ) (t : Told) → 9 ≤ length (opened text t)
unfolding opened
opened_size text t =
    ⊎_elim
    (λ (e : eqb t.refusal 0 ≡ true). simp e (begun_size text (second t) (third t)))
    (λ (e : eqb t.refusal 0 ≡ false). simp e (omega (arith, refusal_size t.refusal 1)))
    (cases (eqb t.refusal 0))

pub log_size : (text : List ℕ) → 9 ≤ length (log_of text)
unfolding log_of
log_size text =
    ⊎_elim
    (λ (e : ltb longest (length text) ≡ true). simp e (omega (arith, refusal_size 1 0)))
    (λ (e : ltb longest (length text) ≡ false). simp e (opened_size text (reads text true)))
    (cases (ltb longest (length text)))

-- of a log that is not written, 0
pub size_told : (r : Result ℕ NoRoom) → result_unwrap_or r 0 ≡ (told r).length
size_told (Ok n) = refl
size_told (Err e) = refl

pub zero_is_short : (text out : List ℕ) → eqb (logged text out).length 0 ≡ ltb (length out) (room_for (length text))
unfolding logged
zero_is_short text out =
    ⊎_elim
    (λ (e : ltb (length out) (room_for (length text)) ≡ true). simp e)
    (λ (e : ltb (length out) (room_for (length text)) ≡ false).
    simp e (ne_eqb (length (log_of text)) 0 (λ (z : length (log_of text) ≡ 0). omega (arith, log_size text))))
    (cases (ltb (length out) (room_for (length text))))
