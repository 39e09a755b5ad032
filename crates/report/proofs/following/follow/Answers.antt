-- `report::following::follow` meets its contract: an accepted line carries the calls and the accounts one further, a refused line
-- ends them, and so does the end of the text.
use Rattle.std.proofs.Common.{◌≡◌, ℕ, Bool, true, false, eqb, arith, ◌+◌, ◌<◌, ◌≤◌, List, length, Ok, Err, refl, ap, ◌∙◌, rules}
use Rattle.std.proofs.lemmas.Bool.Decides.{nat_tests}
use Rattle.std.proofs.lemmas.Result.{err_from_is_err_and}
use Rattle.lock.specs.declared.LockState.{LockState}
use Rattle.lock.specs.Event.{Answer, accepted as taken_by}
use Rattle.bench.specs.declared.Refusal.{Refusal}
use Rattle.bench.specs.Named.{number}
use Rattle.bench.specs.Log.{longest}
use Rattle.bench.specs.Bridge.{call_of, line_refusal}
use Rattle.report.specs.declared.counting.Accepted.{Accepted}
use Rattle.report.specs.declared.counting.Account.{Account}
use Rattle.report.specs.declared.following.Stopped.{Stopped}
use Rattle.report.specs.Accounts.{noted_by}
use Rattle.report.specs.Followed.{told, followed_of, Turns, Agrees}
use Rattle.report.proofs.Mapped.{kept_ok, kept_err}
use Rattle.report.proofs.Numbers.{schedule_not_zero}
use Rattle.report.proofs.Going.{Along, begins, stops, ends, agrees, disagrees, Taken, fit, changed, quiet, goes_on}
use Rattle.report.proofs.following.follow.Goals as goal
use Rattle.report.proofs.following.follow.Goals.{then-did, else-did}

some : (rest : List ℕ) (b : Bool) → b ≡ eqb (length rest) 0 → b ≡ false → 0 < length rest
some rest b e f = grind (arith, nat_tests)

none : (rest : List ℕ) (b : Bool) → b ≡ eqb (length rest) 0 → b ≡ true → length rest ≤ 0
none rest b e f = grind (arith, nat_tests)

module _
    (text : List ℕ) (first : LockState) (rest : List ℕ) (s : LockState) (accounts : List Account) (accepted : ℕ)
    (along : Along text first rest s accounts accepted) (left : 0 < length rest) where
  -- the line is refused
  stopped : (refusal : Refusal) (d : Stopped) → line_refusal s rest ≡ number refusal → d.refusal ≡ refusal
      → d.line ≡ accepted + 2 → Agrees (told (Err d)) (followed_of first text)
  stopped refusal d is r l =
      disagrees d _ _ (stops _ _ _ _ _ _ along left (number refusal) is (schedule_not_zero refusal)) (ap number r) l
      (schedule_not_zero d.refusal)

  -- or its event is taken
  taken : length text ≤ longest → (next : LockState) (call : Accepted) → Turns s rest next (Ok call)
      → Taken text first rest s accounts accepted (call_of rest).event (call_of rest).processor (taken_by next)
  taken low next call turns = record {
    along = along;
    within = low;
    some = left;
    asks = refl;
    refusal = turns.0 ∙ ap (λ (x : Answer). x.refusal) turns.1;
    answers = turns.1;
    none = refl;
  }

pub loop-rest-init : goal.loop-rest-init
loop-rest-init c = begins c.args.text.now c.args.first c.requires.whole c.none-accounts.result c.none-accounts.ensures

pub returns-in_err-call : goal.returns-in_err-call
returns-in_err-call c =
    let l = c.loop-rest in
    let x =
    kept_err (Turns l.state l.rest.now c.turn.new.state) c.map_err.result _ c.turn.result _ c.map_err.ensures.cases
    c.in_err-call.was c.turn.ensures in
    let d = c.in_err-call.field-0.0 in
    let is : (d.refusal ≡ x.0) × (d.line ≡ l.accepted + 2) = search rules in
    let p = err_from_is_err_and c.from_residual.result c.from_residual.ensures.1 in
    rw (p.1, p.2)
    (stopped _ _ _ _ _ _ l.invariant (some l.rest.now _ c.is_empty.ensures c.loop-rest-test.true) x.0 d x.1 is.0 is.1)

pub note-requires : goal.note-requires
note-requires c =
    let l = c.loop-rest in
    let turns =
    kept_ok (Turns l.state l.rest.now c.turn.new.state) c.map_err.result _ c.turn.result _ c.map_err.ensures.cases
    c.in_ok-call.was c.turn.ensures in
    fit
    (taken _ _ _ _ _ _ l.invariant (some l.rest.now _ c.is_empty.ensures c.loop-rest-test.true) c.requires.within c.turn.new.state
    c.in_ok-call.call turns)

pub loop-rest-preserved : goal.loop-rest-preserved
loop-rest-preserved c =
    let l = c.loop-rest in
    let call = c.in_ok-call.call in
    let turns =
    kept_ok (Turns l.state l.rest.now c.turn.new.state) c.map_err.result _ c.turn.result _ c.map_err.ensures.cases
    c.in_ok-call.was c.turn.ensures in
    let line =
    taken _ _ _ _ _ _ l.invariant (some l.rest.now _ c.is_empty.ensures c.loop-rest-test.true) c.requires.within c.turn.new.state
    call turns in
    goes_on line c.if-did.accounts
    (elim c.if-did.branch [
      | then-did w ↦
          changed line call.did turns.3 c.if-did.accounts
          (w.accounts-is ∙ w.note.ensures ∙ ap (λ (k : ℕ). noted_by l.accounts k call.did) turns.2)
      | else-did w ↦ w.accounts-is ∙ quiet line call.did turns.3 w.if-did.false
    ])
    c.rest-rest.result.now c.rest-rest.ensures

-- no line is left
pub returns : goal.returns
returns c =
    let l = c.loop-rest in
    agrees _ _ (ends _ _ _ _ _ _ l.invariant (none l.rest.now _ c.is_empty.ensures c.loop-rest-test.false))
