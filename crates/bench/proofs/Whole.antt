-- The whole schedule: the answer and the buffer, from the tests that the bench makes.
--     is_short     no room: refusal 10, and the buffer as it was
--     is_logged    room, and a log written: its length, and the buffer with it
--     is_long      the log of a schedule that is too long
--     is_opened    the log of any other
--     has_room     the room that the lines of any other need is there
--     long_room    there is room for a refusal in any case
-- Assumes nothing.
use Prim.Native.Nat.{ℕ, ◌≤◌}
use native.Mathlib.Omega.{arith}
use mathlib.Core.Path.{◌≡◌, refl, sym, ap, ◌∙◌}
use mathlib.Core.Logic.{⊎_elim}
use mathlib.Core.Bool.{true, false}
use mathlib.Core.List.{List}
use lib.ListN.{length, drop, length-append}
use lib.Seq.{length-take-le}
use lib.Dec.{ltb}
use borrow.Author.Tests.{ltb-false}
use Rattle.choice.proofs.Tests.{cases}
use Rattle.bench.specs.Log.{longest, refused_at, log_of}
use Rattle.bench.specs.Lent.{Logged, room_for, logged, left, Counts}
use Rattle.bench.specs.Steps.{Fills, opened_log, lines_room}

eleven : (bytes : ℕ) → 11 ≤ room_for bytes
unfolding room_for
eleven bytes =
    ⊎_elim
    (λ (e : ltb longest bytes ≡ true). simp e (omega arith))
    (λ (e : ltb longest bytes ≡ false). simp e (omega arith))
    (cases (ltb longest bytes))

module _ (text : List ℕ) where
  pub is_long : ltb longest (length text) ≡ true → log_of text ≡ refused_at 1 0
  unfolding log_of
  is_long e = simp e

  pub is_opened : ltb longest (length text) ≡ false → log_of text ≡ opened_log text
  unfolding log_of
  is_opened e = simp e

  module _ (out : List ℕ) (room : ℕ) (e : room ≡ room_for (length text)) where
    pub is_short : ltb (length out) room ≡ true →
        (◌≡◌ {A = Logged} (record { refusal = 10; length = 0 }) (logged text out)) ×
        ((out ≡ left text out) × Counts 0 out)
    unfolding logged left
    is_short h = (simp (← e, h), (simp (← e, h), (omega arith, refl)))

    module _ (h : ltb (length out) room ≡ false) where
      pub has_room : ltb longest (length text) ≡ false → lines_room text ≤ length out
      unfolding room_for
      has_room f =
          let so : room ≡ lines_room text = e ∙ simp f in
          omega (arith, ltb-false (length out) room h)

      pub long_room : 11 ≤ length out
      long_room = omega (arith, ltb-false (length out) room h, e, eleven (length text))

      pub is_logged : (log : List ℕ) → log_of text ≡ log → (size : ℕ) (last : List ℕ) → Fills log size out last →
          (◌≡◌ {A = Logged} (record { refusal = 0; length = size }) (logged text out)) ×
          ((last ≡ left text out) × Counts size last)
      unfolding logged left
      is_logged log is size last w =
          let within : size ≤ length last = omega (arith, w.0, ap length w.1, length-append log (drop (length log) out)) in (
            simp (← e, h, is, w.0),
            (simp (← e, h, is) w.1, (within, sym (length-take-le size last within))),
          )
