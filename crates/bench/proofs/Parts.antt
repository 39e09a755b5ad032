-- A line written into the part of a buffer that begins at a place, and the buffer when the part is back.
--     leaves_fills, wrote    a line that fits, as the writer leaves it, fills the buffer's first bytes
--     part, back             the part from a place on, the buffer when it is back
--     part_is, put_whole     the part is what the buffer holds from the place on; back, it stands behind what was before it
--     put                    so with a line in it: its length, what it holds up to the line's end, what it holds from there on
--     filled_by              a buffer that is written up to a place holds a log, and is as it was from there on
-- Assumes nothing.
use Prim.Native.Nat.{ℕ, ◌+◌, ◌-◌, ◌≤◌}
use native.Mathlib.Omega.{arith}
use mathlib.Core.Path.{◌≡◌, sym, ap, ◌∙◌}
use mathlib.Core.List.{List, ◌++◌, append_assoc, append-nil}
use lib.ListN.{length, take, drop, length-append, length-drop, take-append-drop, drop_of_length-le}
use lib.Seq.{take_all, length-take-le, drop-drop, take_at, drop_at}
use borrow.Author.Tests.{le-leb}
use borrow.Rule.Slice.PartMut.{mid_of, put_mid}
use Rattle.frame.specs.Writing.{leaves}
use Rattle.bench.specs.Steps.{filled, laid, Fills}

pub leaves_fills : (line buffer : List ℕ) → length line ≤ length buffer → leaves line buffer ≡ filled line buffer
unfolding leaves
leaves_fills line buffer h = simp (le-leb (length line) (length buffer) h)

pub wrote : (line buffer : List ℕ) (n : ℕ) → length line ≡ n → n ≤ length buffer → (last : List ℕ) → last ≡ leaves line buffer →
    Fills line n buffer last
wrote line buffer n size room last e = (sym size, e ∙ leaves_fills line buffer (omega (arith, size, room)))

-- the line stands in the buffer from a place on: `out` was before
pub record Put (at : ℕ) (out line after : List ℕ) : Type 0 where
  pub long : length after ≡ length out
  pub front : take (at + length line) after ≡ take at out ++ line
  pub kept : drop (at + length line) after ≡ drop (at + length line) out

module _ (at : ℕ) (out : List ℕ) where
  -- the part from the place on, and the buffer when it is back
  abbrev pub part : List ℕ
  part = mid_of at (length out - at) out

  abbrev pub back : List ℕ → List ℕ
  back ys = put_mid at (length out - at) out ys

  pub part_is : part ≡ drop at out
  part_is = take_all (length out - at) (drop at out) (omega (arith, length-drop at out))

  pub put_whole : (ys : List ℕ) → back ys ≡ take at out ++ ys
  put_whole ys =
      ap (λ (l : List ℕ). take at out ++ (ys ++ l))
      (drop_of_length-le (drop at out) {i = length out - at} (omega (arith, length-drop at out)))
      ∙ ap (λ (l : List ℕ). take at out ++ l) (append-nil ys)

  module _ (line : List ℕ) (room : at + length line ≤ length out) where
    laid_is : (last : List ℕ) → last ≡ filled line part → back last ≡ laid at line out
    laid_is last e =
        put_whole last
        ∙ ap (λ (l : List ℕ). take at out ++ l)
        (e
        ∙ ap (filled line) part_is
        ∙ ap (λ (l : List ℕ). line ++ l) (drop-drop (length line) at out))

    written_long : length (take at out ++ line) ≡ at + length line
    written_long =
        length-append (take at out) line ∙ ap (λ (n : ℕ). n + length line) (length-take-le at out (omega arith))

    pub put : (last : List ℕ) → last ≡ filled line part → Put at out line (back last)
    put last e =
        let is : back last ≡ (take at out ++ line) ++ drop (at + length line) out =
        laid_is last e ∙ sym (append_assoc (take at out) line (drop (at + length line) out)) in
        record {
          long =
              ap length is
              ∙ length-append (take at out ++ line) (drop (at + length line) out)
              ∙ omega (arith, written_long, length-drop (at + length line) out);
          front =
              ap (λ (l : List ℕ). take (at + length line) l) is
              ∙ take_at (take at out ++ line) (drop (at + length line) out) (at + length line) written_long;
          kept =
              ap (λ (l : List ℕ). drop (at + length line) l) is
              ∙ drop_at (take at out ++ line) (drop (at + length line) out) (at + length line) written_long;
        }

pub filled_by : (log buffer after : List ℕ) (n : ℕ) → n ≤ length after → take n after ≡ log →
    drop n after ≡ drop n buffer →
    Fills log n buffer after
filled_by log buffer after n h front kept =
    let size : n ≡ length log = sym (length-take-le n after h) ∙ ap length front in (
      size,
      sym (take-append-drop n after)
          ∙ ap (λ (l : List ℕ). l ++ drop n after) front
          ∙ ap (λ (l : List ℕ). log ++ l) (kept ∙ ap (λ (k : ℕ). drop k buffer) size),
    )
