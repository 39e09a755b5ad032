-- `report::following::turn` meets its contract: on a sound state the event that does not test it is the event.
use Rattle.std.proofs.Common.{◌≡◌, ◌<◌, ℕ, false, eqb, List, length, Ok, Err, sym, ap, subst, ◌∙◌}
use Rattle.std.proofs.lemmas.Result.{err_from_is_err_and}
use Rattle.lock.specs.declared.LockState.{LockState}
use Rattle.lock.specs.declared.Row.{Row}
use Rattle.lock.specs.State.{row}
use Rattle.lock.specs.Run.{Call}
use Rattle.lock.specs.Event.{Answer, accepted, happens, told}
use Rattle.frame.specs.declared.Frame.{Frame}
use Rattle.frame.specs.Reading.{reads, told as frame_told}
use Rattle.bench.specs.Bridge.{call_of, line_refusal}
use Rattle.bench.proofs.Sound.{carried_is}
use Rattle.bench.proofs.Heard.{line_asks, line_unread}
use Rattle.report.specs.declared.counting.Did.{Did}
use Rattle.report.specs.Accounts.{did_by}
use Rattle.report.proofs.Going.{below}
use Rattle.report.proofs.following.turn.Goals as goal

pub returns-in_err-line : goal.returns-in_err-line
returns-in_err-line c =
    let e = err_from_is_err_and c.from_residual.result c.from_residual.ensures.1 in
    rw (e.1, e.2) (line_unread c.args.state.now c.args.text.now c.requires.some _ (sym c.in_err-line.ensures)).0

pub returns-in_err-state : goal.returns-in_err-state
returns-in_err-state c =
    let e = err_from_is_err_and c.from_residual-in_err-state.result c.from_residual-in_err-state.ensures.1 in
    let s = c.args.state.now in
    let f = c.in_ok-line.line in
    let is = carried_is c.requires.whole f.first f.second (told (Err c.in_err-state.field-0.0)) c.in_err-state.ensures in
    let asks = line_asks s c.args.text.now c.requires.some f.kind f.first f.second f.check (sym c.in_ok-line.ensures) in
    rw (e.1, e.2) (asks.1 ∙ ap (λ (x : Answer). x.refusal) (sym is))

-- in the words of the line's call
module _ (s : LockState) (text : List ℕ) (f : Frame) (next : LockState) (some : 0 < length text)
    (read : frame_told (Ok f) ≡ reads text false) (is : accepted next ≡ happens s f.first f.second) where
  turned : (p : ℕ) (d : Did) → p ≡ f.second → d ≡ did_by f.first (row s f.second).place (row next f.second).place
      → (line_refusal s text ≡ 0) × (accepted next ≡ happens s (call_of text).event (call_of text).processor)
      × (p ≡ (call_of text).processor)
      × (d ≡ did_by (call_of text).event (row s (call_of text).processor).place (row next (call_of text).processor).place)
  turned p d e t =
      let asks = line_asks s text some f.kind f.first f.second f.check (sym read) in
      subst
      (λ (c : Call).
      (line_refusal s text ≡ 0) × (accepted next ≡ happens s c.event c.processor) × (p ≡ c.processor)
      × (d ≡ did_by c.event (row s c.processor).place (row next c.processor).place)) (sym asks.0)
      (asks.1 ∙ ap (λ (x : Answer). x.refusal) (sym is), is, e, t)

pub invariant_of-result : goal.invariant_of-result
invariant_of-result c =
    let s = c.args.state.now in
    let f = c.in_ok-line.line in
    let next = c.in_ok-state.field-0 in
    let is = carried_is c.requires.whole f.first f.second (told (Ok next)) c.in_ok-state.ensures in
    record { below = rw c.from.ensures (below s f.first f.second c.requires.whole (ap (λ (x : Answer). eqb x.refusal 0) (sym is))) }

pub returns : goal.returns
returns c =
    let s = c.args.state.now in
    let f = c.in_ok-line.line in
    let next = c.in_ok-state.field-0 in
    let is = carried_is c.requires.whole f.first f.second (told (Ok next)) c.in_ok-state.ensures in
    turned s c.args.text.now f next c.requires.some c.in_ok-line.ensures is c.from.result c.told_apart.result c.from.ensures
    (c.told_apart.ensures
    ∙ ap (λ (r : Row). did_by f.first r.place c.row-after.result.place) c.row-before.ensures
    ∙ ap (λ (r : Row). did_by f.first (row s f.second).place r.place) c.row-after.ensures)
