-- The loop over the later lines, part way: the calls that are heard so far, and the accounts over them.
--     begins          where the loop begins
--     Taken           a line whose event is accepted
--     low, fit        then its processor has an account, and there is room in the accounts
--     changed, quiet  the accounts after its call
--     goes_on         an event that is accepted: the loop stands one line further
--     agrees, disagrees    the answer at the end of the text, and at a line that is refused
--     stops, ends     a line that is refused, and the end of the text: all that is asked is known
-- Assumes nothing.
use Prim.Native.Nat.{ℕ, ◌+◌, ◌*◌, ◌≤◌, ◌<◌}
use native.Mathlib.Omega.{arith}
use mathlib.Core.Path.{◌≡◌, refl, sym, ap, ◌∙◌, subst}
use Rattle.std.specs.Prelude.{Err}
use mathlib.Core.Logic.{⊎_elim}
use mathlib.Core.Bool.{Bool, true, false, cond, not, ◌||◌}
use mathlib.Core.List.{List, [], ◌∷◌, ◌++◌, append_assoc, append-nil}
use lib.ListN.{length, drop, replicate, length-append, length-drop}
use lib.Seq.{drop-drop}
use lib.Dec.{eqb, leb}
use borrow.Author.Tests.{eq-eqb, leb-false}
use Rattle.choice.proofs.Tests.{cases, clash}
use Rattle.lock.specs.declared.LockState.{LockState}
use Rattle.lock.specs.Event.{Answer}
use Rattle.lock.specs.State.{processors, row}
use Rattle.lock.specs.Sound.{sound}
use Rattle.lock.specs.Event.{refused, is_step, is_raise, happens}
use Rattle.lock.specs.Kept.{Whole}
use Rattle.lock.specs.Run.{Call, after, run}
use Rattle.lock.specs.Count.{count_in, entries_in, interrupts_in, joins_in, latest_join}
use Rattle.lock.proofs.Keeping.Parts.{row_room}
use Rattle.lock.proofs.Waiting.Demand.{run_last}
use Rattle.frame.specs.Reading.{rest_of}
use Rattle.bench.specs.Named.{number}
use Rattle.bench.specs.Log.{longest}
use Rattle.bench.specs.Bridge.{call_of, line_refusal}
use Rattle.bench.specs.Verdict.{later_verdict}
use Rattle.bench.proofs.Sound.{happens_whole}
use Rattle.bench.proofs.Heard.{heard_on, heard_stops, heard_end}
use Rattle.report.specs.declared.counting.Did.{Did}
use Rattle.report.specs.declared.counting.Account.{Account}
use Rattle.report.specs.Followed.{Followed}
use Rattle.report.specs.Charges.{charges_from}
use Rattle.report.specs.Table.{upto}
use Rattle.report.specs.Accounts.{account_of, accounts_of, no_account, did_by, noted_by, AllFit}
use Rattle.report.specs.declared.following.Stopped.{Stopped}
use Rattle.report.specs.Followed.{told, later_heard, followed_as, followed_of, Agrees}
use Rattle.report.proofs.Accounting.{Nothing, did, accounts_after, accounts_quiet, accounts_fit}

-- an accepted call is of a processor below N
taken_below : (s : LockState) (event p : ℕ) → sound s ≡ true → eqb (happens s event p).refusal 0 ≡ true → p < s.n
unfolding happens
taken_below s event p fit taken =
    ⊎_elim
    (λ (far : leb s.n p ≡ true). clash (simp (fit, far) at taken) (never (not (is_step event || is_raise event))))
    (λ (near : leb s.n p ≡ false). leb-false s.n p near)
    (cases (leb s.n p))
  where
    never : (b : Bool) → eqb (cond b (refused 8 s) (refused 9 s)).refusal 0 ≡ false
    never true = refl
    never false = refl

-- so it is below the limit
pub below : (s : LockState) (event p : ℕ) → Whole s → eqb (happens s event p).refusal 0 ≡ true → p < processors
below s event p w taken =
    subst (λ (k : ℕ). p < k) w.rooms (row_room s w.fit w.rooms (taken_below s event p w.fit taken))

-- Where the loop stands, in the state s with `rest` to come: so many calls are heard, and the accounts are over them.
pub record Along (text : List ℕ) (first : LockState) (rest : List ℕ) (s : LockState) (accounts : List Account)
    (accepted : ℕ) : Type 0 where
  pub calls : List Call
  pub count : accepted ≡ length calls
  pub state_is : s ≡ run first calls
  pub heard : later_heard first text ≡ calls ++ later_heard s rest
  pub left : rest ≡ drop (9 * length calls) text
  pub accounts_are : accounts ≡ accounts_of first calls
  pub fewer : accepted + length rest ≤ length text
  pub sound : Whole s

nothing_yet : (s : LockState) → replicate processors no_account ≡ accounts_of s []
unfolding account_of upto latest_join entries_in interrupts_in joins_in count_in charges_from
nothing_yet s = refl

pub begins : (text : List ℕ) (s : LockState) → Whole s → (none : Account) → none ≡ no_account →
    Along text s text s (replicate processors none) 0
unfolding run
begins text s w none e = record {
  calls = [];
  count = refl;
  state_is = refl;
  heard = refl;
  left = refl;
  accounts_are = ap (replicate processors) e ∙ nothing_yet s;
  fewer = omega arith;
  sound = w;
}

module _ (text : List ℕ) (first : LockState) (rest : List ℕ) (s : LockState) (accounts : List Account) (accepted : ℕ)
    (i : Along text first rest s accounts accepted) where
  -- the calls that are heard are these, and this is left behind them
  finished : later_heard s rest ≡ [] → followed_of first text
      ≡ followed_as first i.calls (later_verdict (line_refusal s rest) accepted)
  unfolding followed_of
  finished none =
      let all : later_heard first text ≡ i.calls =
      i.heard ∙ ap (λ (cs : List Call). i.calls ++ cs) none ∙ append-nil i.calls in
      let over : List Call → LockState → List ℕ → ℕ → Followed =
      λ cs t left k. followed_as first cs (later_verdict (line_refusal t left) k) in
      ap (λ (cs : List Call). over cs (run first cs) (drop (9 * length cs) text) (length cs)) all
      ∙ ap (λ (t : LockState). over i.calls t (drop (9 * length i.calls) text) (length i.calls)) (sym i.state_is)
      ∙ ap (λ (l : List ℕ). over i.calls s l (length i.calls)) (sym i.left)
      ∙ ap (over i.calls s rest) (sym i.count)

  pub ends : length rest ≤ 0 → record { refusal = 0; line = 0; n = first.n; accounts = accounts } ≡ followed_of first text
  ends none =
      let end = heard_end s rest none in
      ap (λ (a : List Account). record { refusal = 0; line = 0; n = first.n; accounts = a }) i.accounts_are
      ∙ sym (finished end.0 ∙ ap (λ (r : ℕ). followed_as first i.calls (later_verdict r accepted)) end.1)

  module _ (some : 0 < length rest) where
    pub stops : (refusal : ℕ) → line_refusal s rest ≡ refusal → eqb refusal 0 ≡ false
        → record { refusal = refusal; line = accepted + 2; n = first.n; accounts = accounts } ≡ followed_of first text
    stops refusal is e =
        ap (λ (a : List Account). record { refusal = refusal; line = accepted + 2; n = first.n; accounts = a }) i.accounts_are
        ∙ sym
        (finished (heard_stops s rest some (ap (λ (r : ℕ). eqb r 0) is ∙ e))
        ∙ ap (λ (r : ℕ). followed_as first i.calls (later_verdict r accepted)) is
        ∙ simp e)

-- what is answered where the text ends, and where a line is refused
pub agrees : (f g : Followed) → f ≡ g → Agrees f g
agrees f g e = record {
  refusal = ap (λ (x : Followed). x.refusal) e;
  line = ap (λ (x : Followed). x.line) e;
  n = λ z. ap (λ (x : Followed). x.n) e;
  accounts = λ z. ap (λ (x : Followed). x.accounts) e;
}

pub disagrees : (d : Stopped) (f g : Followed) → f ≡ g → number d.refusal ≡ f.refusal → d.line ≡ f.line
    → eqb (number d.refusal) 0 ≡ false → Agrees (told (Err d)) g
disagrees d f g e r l some = record {
  refusal = r ∙ ap (λ (x : Followed). x.refusal) e;
  line = l ∙ ap (λ (x : Followed). x.line) e;
  n = λ z. clash (eq-eqb g.refusal 0 z) (ap (λ (k : ℕ). eqb k 0) (sym (r ∙ ap (λ (x : Followed). x.refusal) e)) ∙ some);
  accounts = λ z. clash (eq-eqb g.refusal 0 z) (ap (λ (k : ℕ). eqb k 0) (sym (r ∙ ap (λ (x : Followed). x.refusal) e)) ∙ some);
}

-- the line asks for an event of p, and a is the answer, by which it is accepted
pub record Taken (text : List ℕ) (first : LockState) (rest : List ℕ) (s : LockState) (accounts : List Account) (accepted event p : ℕ)
    (a : Answer) : Type 0 where
  pub along : Along text first rest s accounts accepted
  pub within : length text ≤ longest
  pub some : 0 < length rest
  pub asks : call_of rest ≡ record { event = event; processor = p }
  pub refusal : line_refusal s rest ≡ (happens s event p).refusal
  pub answers : a ≡ happens s event p
  pub none : eqb a.refusal 0 ≡ true

module _ {text : List ℕ} {first : LockState} {rest : List ℕ} {s : LockState} {accounts : List Account} {accepted event p : ℕ}
    {a : Answer} (line : Taken text first rest s accounts accepted event p a) where
  abbrev i : Along text first rest s accounts accepted
  i = line.along

  abbrev call : Call
  call = record { event = event; processor = p }

  happened : eqb (happens s event p).refusal 0 ≡ true
  happened = ap (λ (x : Answer). eqb x.refusal 0) (sym line.answers) ∙ line.none

  pub low : p < processors
  low = below s event p i.sound happened

  pub fit : AllFit accounts
  fit = subst AllFit (sym i.accounts_are) (accounts_fit first i.calls (omega (arith, i.count, i.fewer, line.within, line.some)))

  -- the same in the words of the run so far
  run_taken : eqb (happens (run first i.calls) event p).refusal 0 ≡ true
  run_taken = subst (λ (t : LockState). eqb (happens t event p).refusal 0 ≡ true) i.state_is happened

  state_after : a.state ≡ after (run first i.calls) call
  unfolding after
  state_after =
      ap (λ (x : Answer). x.state) line.answers ∙ ap (λ (t : LockState). (happens t event p).state) i.state_is

  -- what the call was, by the places that the code has seen
  module _ (d : Did) (e : d ≡ did_by event (row s p).place (row a.state p).place) where
    did_is : d ≡ did (run first i.calls) call run_taken
    did_is =
        e ∙ ap (λ (t : LockState). did_by event (row t p).place (row a.state p).place) i.state_is
        ∙ ap (λ (t : LockState). did_by event (row (run first i.calls) p).place (row t p).place) state_after

    pub changed : (then : List Account) → then ≡ noted_by accounts p d → then ≡ accounts_of first (i.calls ++ call ∷ [])
    changed then f =
        f ∙ ap (λ (x : List Account). noted_by x p d) i.accounts_are
        ∙ ap (noted_by (accounts_of first i.calls) p) did_is
        ∙ sym (accounts_after first i.calls call run_taken low)

    pub quiet : Nothing d → accounts ≡ accounts_of first (i.calls ++ call ∷ [])
    quiet none =
        i.accounts_are ∙ sym (accounts_quiet first i.calls call run_taken low (subst Nothing did_is none))

  pub goes_on : (then : List Account) → then ≡ accounts_of first (i.calls ++ call ∷ []) → (later : List ℕ) →
      later ≡ rest_of rest → Along text first later a.state then (accepted + 1)
  goes_on then f later h =
      let size : length (i.calls ++ call ∷ []) ≡ length i.calls + 1 = length-append i.calls (call ∷ []) in
      let nine : 9 * length i.calls + 9 ≡ 9 * length (i.calls ++ call ∷ []) = omega (arith, size) in
      let after_is : after s (call_of rest) ≡ a.state =
      ap (after s) line.asks ∙ ap (λ (t : LockState). after t call) i.state_is ∙ sym state_after in
      rw h
      (record {
        calls = i.calls ++ call ∷ [];
        count = omega (arith, i.count, size);
        state_is = state_after ∙ sym (run_last first i.calls call);
        heard =
            i.heard
            ∙ ap (λ (cs : List Call). i.calls ++ cs)
            (heard_on s rest line.some (ap (λ (r : ℕ). eqb r 0) line.refusal ∙ happened)
            ∙ ap (λ (t : LockState). call_of rest ∷ later_heard t (rest_of rest)) after_is
            ∙ ap (λ (c : Call). c ∷ later_heard a.state (rest_of rest)) line.asks)
            ∙ sym (append_assoc i.calls (call ∷ []) (later_heard a.state (rest_of rest)));
        left =
            ap rest_of i.left
            ∙ drop-drop 9 (9 * length i.calls) text
            ∙ ap (λ (k : ℕ). drop k text) nine;
        accounts_are = f;
        fewer = omega (arith, i.fewer, length-drop 9 rest, line.some);
        sound = happens_whole i.sound event p a line.answers;
      })
