-- Line 1 and what follows it in the buffer.
--     state_is         the fresh state has the numbers that it was made of
--     opens, refuses   what the log is, by what the reader and the lock answer to line 1
--     follows          line 1 of its numbers, and the later lines behind it, are the log
-- Assumes nothing.
use Prim.Native.Nat.{ℕ, ◌+◌, ◌≤◌}
use native.Mathlib.Omega.{arith}
use mathlib.Core.Path.{◌≡◌, refl, sym, ap, ◌∙◌}
use mathlib.Core.Bool.{true, false}
use mathlib.Core.List.{List, [], ◌++◌, append_assoc}
use lib.ListN.{length, take, drop, length-append, length-drop}
use lib.Seq.{drop-drop, take_at, drop_at}
use lib.Dec.{eqb}
use Rattle.lock.specs.declared.LockState.{LockState}
use Rattle.lock.specs.State.{fresh_state}
use Rattle.lock.specs.Event.{Answer, accepted, fresh}
use Rattle.lock.specs.Run.{run}
use Rattle.lock.specs.Claims.{made}
use Rattle.lock.proofs.Roof.Callers.{calls_are_a_run}
use Rattle.frame.specs.Reading.{reads, rest_of}
use Rattle.frame.specs.Writing.{leaves, header_line}
use Rattle.frame.proofs.Proved.{lengths_are_known}
use Rattle.bench.specs.Log.{refused_at, begun}
use Rattle.bench.specs.Steps.{Fills, later_log, opened_log}
use Rattle.bench.proofs.Frames.{framed, open_begins}
use Rattle.bench.proofs.Fuel.{fuel_same}
use Rattle.bench.proofs.Parts.{leaves_fills, part, back, part_is, put_whole}

state_is : (edition n : ℕ) (s : LockState) → accepted s ≡ fresh edition n → s ≡ fresh_state edition n
unfolding run
state_is edition n s e = (calls_are_a_run edition n [] s (made (accepted s) e refl)).state

module _ (text : List ℕ) (kind edition n check : ℕ) (e : framed kind edition n check ≡ reads text true) where
  pub opens : (s : LockState) → accepted s ≡ fresh edition n →
      opened_log text ≡ header_line s.edition s.n ++ later_log s (rest_of text)
  unfolding begun fresh_state
  opens s made-it =
      let same = state_is edition n s made-it in
      open_begins text kind edition n check (sym e)
      ∙ simp (← made-it)
      (ap (λ (l : List ℕ). header_line edition n ++ l)
      (fuel_same (length text) (length (rest_of text)) s 0 (rest_of text) (omega (arith, length-drop 9 text)) (omega arith))
      ∙ ap (λ (x : LockState). header_line x.edition x.n ++ later_log s (rest_of text)) (sym same))

  pub refuses : (a : Answer) → a ≡ fresh edition n → eqb a.refusal 0 ≡ false → opened_log text ≡ refused_at a.refusal 1
  unfolding begun
  refuses a made-it no-state = open_begins text kind edition n check (sym e) ∙ simp (← made-it, no-state)

module _ (text out : List ℕ) (edition n : ℕ) (room : 9 ≤ length out) (front : List ℕ) (e : front ≡ leaves (header_line edition n) out)
    (log : List ℕ) (size : ℕ) (last : List ℕ) (w : Fills log size (part 9 front) last) where
  abbrev line : List ℕ
  line = header_line edition n

  nine : length line ≡ 9
  nine = lengths_are_known.header edition n

  front_is : front ≡ line ++ drop 9 out
  front_is = e ∙ leaves_fills line out (omega (arith, nine)) ∙ ap (λ (k : ℕ). line ++ drop k out) nine

  behind : part 9 front ≡ drop 9 out
  behind = part_is 9 front ∙ ap (drop 9) front_is ∙ drop_at line (drop 9 out) 9 nine

  long : 9 + size ≡ length (line ++ log)
  long = omega (arith, w.0, nine, length-append line log)

  pub follows : Fills (line ++ log) (9 + size) out (back 9 front last)
  follows = (
    long,
    put_whole 9 front last
        ∙ ap (λ (l : List ℕ). l ++ last) (ap (take 9) front_is ∙ take_at line (drop 9 out) 9 nine)
        ∙ ap (λ (l : List ℕ). line ++ l) (w.1 ∙ ap (λ (l : List ℕ). log ++ drop (length log) l) behind)
        ∙ ap (λ (l : List ℕ). line ++ (log ++ l)) (drop-drop (length log) 9 out)
        ∙ sym (append_assoc line log (drop (9 + length log) out))
        ∙ ap (λ (k : ℕ). (line ++ log) ++ drop k out) (ap (λ (k : ℕ). 9 + k) (sym w.0) ∙ long),
  )
