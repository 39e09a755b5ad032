-- `board::pontivesca_log` meets its contract: the bench's answer, and what its length says.
use Prim.Native.Nat.{ℕ}
use mathlib.Core.Path.{ap, ◌∙◌}
use lib.Dec.{eqb}
use Rattle.bench.specs.Lent.{Logged}
use Rattle.board.proofs.Bytes.{size_told, zero_is_short}
use Rattle.board.proofs.pontivesca_log.Goals as goal

pub returns-clause-result_value : goal.returns-clause-result_value
returns-clause-result_value c =
    ap (λ (n : ℕ). eqb n 0)
    (c.unwrap_or.ensures ∙ size_told c.bench.result ∙ ap (λ (l : Logged). l.length) c.bench.ensures.value)
    ∙ zero_is_short c.args.schedule.now c.args.out.now
