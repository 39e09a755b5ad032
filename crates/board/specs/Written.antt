-- How many bytes of a line are written into a lent buffer: all, or none where the buffer is shorter. What the buffer
-- holds afterwards is frame's `leaves`.
use Rattle.std.specs.Prelude.{ℕ, cond, List, length, leb}

unfoldable pub written : List ℕ → List ℕ → ℕ
written line buffer = cond (leb (length line) (length buffer)) (length line) 0
