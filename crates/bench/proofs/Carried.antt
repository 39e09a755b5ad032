-- The loop over the later lines, part way: what it has written and what is still to come are the whole log.
--     begins                   where the loop begins
--     room_left                in what is left of the buffer is the room that the rest of the text needs
--     stops                    a line that is refused: with its refusal the log is whole
--     show_room, goes_on       an event that is accepted: there is room for its row, and the loop stands one line further
--     count_ends               at the end of the text the log is whole with the count
-- Assumes nothing.
use Prim.Native.Nat.{ℕ, suc, ◌+◌, ◌≤◌, ◌<◌}
use native.Mathlib.Omega.{arith}
use native.Mathlib.Numerals.{add-one}
use mathlib.Core.Path.{◌≡◌, refl, sym, ap, ◌∙◌}
use mathlib.Core.Logic.{⊎_elim}
use mathlib.Core.Bool.{true≢false}
use mathlib.Core.List.{List, ◌++◌, append_assoc, append-nil}
use lib.ListN.{length, take, drop, length-drop}
use lib.Seq.{drop-drop}
use Rattle.lock.specs.declared.Row.{Row}
use Rattle.lock.specs.declared.LockState.{LockState}
use Rattle.lock.specs.State.{row}
use Rattle.lock.specs.Kept.{Whole}
use Rattle.frame.specs.Reading.{rest_of}
use Rattle.bench.specs.Log.{refused_at, counted, row_shown, shown, Turn, stopped, turn_of, log_from}
use Rattle.bench.specs.Steps.{Fills, later_log, lines_room, shows}
use Rattle.bench.proofs.Sizes.{count_size, refusal_size, row_size, GoesOn, Stops, turn_size}
use Rattle.bench.proofs.Fuel.{log_ends, log_turns}
use Rattle.bench.proofs.Parts.{part, back, part_is, put, filled_by}

-- Where the loop stands: `out` was `buffer`, `at` bytes of it are written, and the log of `text` from the state
-- `first` on is what is written and what is still to come.
pub record Carried (text : List ℕ) (first : LockState) (buffer out rest : List ℕ) (s : LockState)
    (accepted at : ℕ) : Type 0 where
  pub long : length out ≡ length buffer
  pub room : at + lines_room rest ≤ length buffer
  pub kept : drop at out ≡ drop at buffer
  pub log : take at out ++ log_from (length rest) s accepted rest ≡ later_log first text
  pub fewer : accepted + length rest ≤ length text
  pub sound : Whole s

pub begins : (text : List ℕ) (s : LockState) (buffer : List ℕ) → lines_room text ≤ length buffer → Whole s →
    Carried text s buffer buffer text s 0 0
begins text s buffer h w =
    record { long = refl; room = omega arith; kept = refl; log = refl; fewer = omega arith; sound = w }

-- what is as it was from a place on is so from a later place on
further : (at n : ℕ) (out buffer : List ℕ) → drop at out ≡ drop at buffer → drop (at + n) out ≡ drop (at + n) buffer
further at n out buffer e = sym (drop-drop n at out) ∙ ap (drop n) e ∙ drop-drop n at buffer

module _ (text : List ℕ) (first : LockState) (buffer out rest : List ℕ) (s : LockState) (accepted at : ℕ)
    (i : Carried text first buffer out rest s accepted at) where
  pub room_left : lines_room rest ≤ length (part at out)
  room_left = omega (arith, i.room, i.long, ap length (part_is at out), length-drop at out)

  -- the last line of the log is written
  ends : (line : List ℕ) → log_from (length rest) s accepted rest ≡ line → length line ≤ 11 → (size : ℕ) (last : List ℕ) →
      Fills line size (part at out) last →
      Fills (later_log first text) (at + size) buffer (back at out last)
  ends line is short size last w =
      let p = put at out line (omega (arith, i.room, i.long)) last w.1 in
      rw w.0
      (filled_by (later_log first text) buffer (back at out last) (at + length line)
      (omega (arith, p.long, i.room, i.long))
      (p.front ∙ ap (λ (l : List ℕ). take at out ++ l) (sym is) ∙ i.log)
      (p.kept ∙ further at (length line) out buffer i.kept))

  pub count_ends : length rest ≤ 0 → (size : ℕ) (last : List ℕ) → Fills (counted accepted) size (part at out) last →
      Fills (later_log first text) (at + size) buffer (back at out last)
  count_ends none =
      ends (counted accepted) (log_ends (length rest) s accepted rest none) (omega (arith, count_size accepted))

  module _ (some : 0 < length rest) where
    pub stops : (refusal : ℕ) → turn_of s (accepted + 2) rest ≡ stopped s refusal (accepted + 2) → (size : ℕ) (last : List ℕ) →
        Fills (refused_at refusal (accepted + 2)) size (part at out) last →
        Fills (later_log first text) (at + size) buffer (back at out last)
    stops refusal t =
        let line = refused_at refusal (accepted + 2) in
        ends line (log_turns s accepted rest some ∙ simp t (append-nil line)) (omega (arith, refusal_size refusal (accepted + 2)))

    module _ (next : LockState) (event p : ℕ) (t : turn_of s (accepted + 2) rest ≡ shows next event p) where
      -- a turn that goes on has read nine bytes
      nine : 9 ≤ length rest
      nine =
          ⊎_elim (λ (z : GoesOn (turn_of s (accepted + 2) rest) × (9 ≤ length rest)). z.1)
          (λ (z : Stops (turn_of s (accepted + 2) rest)). absurd (true≢false (sym (ap (λ (u : Turn). u.goes_on) t) ∙ z.0)))
          (turn_size s (accepted + 2) rest)

      pub show_room : 17 ≤ length (part at out)
      show_room = omega (arith, nine, room_left)

      module _ (r : Row) (g : r ≡ row next p) where
        line_is : row_shown p next.tail r event ≡ shown next event p
        unfolding shown
        line_is = ap (λ (x : Row). row_shown p next.tail x event) g

        pub goes_on : Whole next → (size : ℕ) (last : List ℕ) → Fills (row_shown p next.tail r event) size (part at out) last →
            (later : List ℕ) → later ≡ rest_of rest →
            Carried text first buffer (back at out last) later next (accepted + 1) (at + size)
        goes_on sound size last w later h =
            let line = row_shown p next.tail r event in
            let long : length line ≡ 17 = row_size p next.tail r event in
            let is-put = put at out line (omega (arith, long, nine, i.room, i.long)) last w.1 in
            rw (h, w.0)
            (record {
              long = is-put.long ∙ i.long;
              room = omega (arith, i.room, length-drop 9 rest, long, nine);
              kept = is-put.kept ∙ further at (length line) out buffer i.kept;
              log =
                  ap (λ (l : List ℕ). l ++ log_from (length (rest_of rest)) next (accepted + 1) (rest_of rest))
                  is-put.front
                  ∙ append_assoc (take at out) line (log_from (length (rest_of rest)) next (accepted + 1) (rest_of rest))
                  ∙ ap (λ (l : List ℕ). take at out ++ l)
                  (ap (λ (k : ℕ). line ++ log_from (length (rest_of rest)) next k (rest_of rest)) (add-one accepted)
                  ∙ ap (λ (l : List ℕ). l ++ log_from (length (rest_of rest)) next (suc accepted) (rest_of rest)) line_is
                  ∙ sym (log_turns s accepted rest some ∙ simp t))
                  ∙ i.log;
              fewer = omega (arith, i.fewer, length-drop 9 rest, nine);
              sound = sound;
            })
