-- Document 01's own examples, computed: what the definition of a log says of them, byte for byte.
--     worked           the worked example: a header and three steps
--     empty            the empty input
--     header_alone     no events
--     refused          processor 1 of 1 at line 3: refusal 9, and nothing after it
--     torn             a last line that is cut short: refusal 2 at line 3
--     first_refused    edition 4: the refusal alone
--     raised_inside    a raise while inside: the flag is marked, and no entry
--     lower            request [3]: the worked example in lower case, with its log in upper case
--     mixed            in mixed case, one line like no other
--     letter_g         a g is no digit: refusal 3 at line 2
-- and what is heard of them, so that each premise of `EveryLogIsARun` is seen to be met:
--     worked_heard     three calls, and no refusal
--     refused_heard    one call of three, and refusal 9 of the line after it
--     torn_heard       one call, and refusal 2
--     first_unheard    refusal 6 of line 1
-- Assumes nothing.
use Prim.Native.Nat.{ℕ}
use Prim.Native.Char.{code}
use Prim.Native.String.{String, [] as emptyText, ◌∷◌ as ◌before◌}
use mathlib.Core.Path.{◌≡◌, refl}
use mathlib.Core.List.{List, [], ◌∷◌}
use Rattle.lock.specs.Event.{fresh}
use Rattle.lock.specs.Run.{Call}
use Rattle.lock.proofs.Roof.Opened as Opened
use Rattle.frame.specs.Pairs.{value_of, digit_of, pair_at, pairs_from, sum_of, check_of}
use Rattle.frame.specs.Reading.{is_torn, are_digits, read_as}
use Rattle.frame.specs.Writing.{digits_of, line_of}
use Rattle.bench.specs.Log.{marks_of, marks, row_shown, shown, answered, followed, turn_of, log_from, begun, opened, log_of}
use Rattle.bench.specs.Bridge.{first_refusal, line_refusal, heard_from, heard_of, refusal_of}

-- a text's bytes
bytes : String → List ℕ
bytes emptyText = []
bytes (c before text) = code c ∷ bytes text

-- a step of processor 0
abbrev step : Call
step = record { event = 1; processor = 0 }

-- line 1 is accepted, these calls are heard, and this refusal follows them
abbrev Hears : String → List Call → ℕ → Type 0
Hears text calls refusal =
    (first_refusal (bytes text) ≡ 0) × ((heard_of (bytes text) ≡ calls) × (refusal_of (bytes text) ≡ refusal))

record Examples : Type 0 where
  worked : log_of (bytes "010001FE\n020100FD\n020100FD\n020100FD\n")
      ≡ bytes "010001FE\n030002FF00FF00FD\n030003FF00FF00FC\n0300090000FF04F1\n040003F9\n"
  empty : log_of (bytes "") ≡ bytes "05020001F8\n"
  header_alone : log_of (bytes "010001FE\n") ≡ bytes "010001FE\n040000FC\n"
  refused : log_of (bytes "010001FE\n020100FD\n020101FC\n020100FD\n") ≡ bytes "010001FE\n030002FF00FF00FD\n05090003EF\n"
  torn : log_of (bytes "010001FE\n020100FD\n0201") ≡ bytes "010001FE\n030002FF00FF00FD\n05020003F6\n"
  first_refused : log_of (bytes "010401FA\n020100FD\n") ≡ bytes "05060001F4\n"
  raised_inside : log_of (bytes "010001FE\n020100FD\n020100FD\n020100FD\n020200FC\n")
      ≡ bytes "010001FE\n030002FF00FF00FD\n030003FF00FF00FC\n0300090000FF04F1\n0300090000FF01F4\n040004F8\n"
  lower : log_of (bytes "010001fe\n020100fd\n020100fd\n020100fd\n")
      ≡ bytes "010001FE\n030002FF00FF00FD\n030003FF00FF00FC\n0300090000FF04F1\n040003F9\n"
  mixed : log_of (bytes "010001fE\n020100Fd\n020100fd\n020100fD\n")
      ≡ bytes "010001FE\n030002FF00FF00FD\n030003FF00FF00FC\n0300090000FF04F1\n040003F9\n"
  letter_g : log_of (bytes "010001FE\n020100gd\n") ≡ bytes "010001FE\n05030002F6\n"
  worked_heard : Hears "010001FE\n020100FD\n020100FD\n020100FD\n" (step ∷ step ∷ step ∷ []) 0
  refused_heard : Hears "010001FE\n020100FD\n020101FC\n020100FD\n" (step ∷ []) 9
  torn_heard : Hears "010001FE\n020100FD\n0201" (step ∷ []) 2
  first_unheard : first_refusal (bytes "010401FA\n020100FD\n") ≡ 6

computed : Examples
unfolding bytes Opened.computed fresh value_of digit_of pair_at pairs_from sum_of check_of is_torn are_digits read_as digits_of
    line_of marks_of marks row_shown shown answered followed turn_of log_from begun opened log_of
    line_refusal heard_from
computed =
    record {
      worked = refl;
      empty = refl;
      header_alone = refl;
      refused = refl;
      torn = refl;
      first_refused = refl;
      raised_inside = refl;
      lower = refl;
      mixed = refl;
      letter_g = refl;
      worked_heard = (refl, (refl, refl));
      refused_heard = (refl, (refl, refl));
      torn_heard = (refl, (refl, refl));
      first_unheard = refl;
    }
