-- `board::pontivesca_line` meets its contract: the writer's answer says whether the nine bytes are written.
use mathlib.Core.Path.{refl, sym, ◌∙◌}
use mathlib.Core.List.{[], ◌∷◌}
use Rattle.frame.specs.Writing.{no_room, line_of}
use Rattle.frame.proofs.Lines.{line_length}
use Rattle.board.proofs.Bytes.{line_whole, line_absent}
use Rattle.board.proofs.pontivesca_line.Goals as goal

pub returns-in-Ok-clause-value : goal.returns-in-Ok-clause-value
returns-in-Ok-clause-value c =
    let vs = c.args.kind ∷ c.args.first ∷ c.args.second ∷ [] in
    sym (line_length vs) ∙ line_whole (line_of vs) c.args.out.now 0 c.in-Ok.ensures.value refl

pub returns-in-Err-clause-value : goal.returns-in-Err-clause-value
returns-in-Err-clause-value c =
    let vs = c.args.kind ∷ c.args.first ∷ c.args.second ∷ [] in
    line_absent (line_of vs) c.args.out.now no_room c.in-Err.ensures.value refl
