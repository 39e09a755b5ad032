-- A schedule from its first line on: which refusal comes first, and what is known where none does.
--     follows_long       a schedule that is too long
--     follows_refused    line 1 is refused
--     read_first, unread_first     line 1 as the reader answers it
--     follows_alike      what agrees with it follows the schedule too
--     first_told         what refuses line 1 once it is read
--     first_made         the state from which the run begins, where nothing does
--     follows_on         line 1 is accepted, and the later lines were gone along
-- Assumes nothing.
use Prim.Native.Nat.{ℕ, ◌*◌, ◌≤◌, ◌<◌}
use native.Mathlib.Omega.{arith}
use mathlib.Core.Path.{◌≡◌, refl, sym, ap, ◌∙◌}
use mathlib.Core.Bool.{Bool, true, false, cond}
use mathlib.Core.List.{List}
use lib.ListN.{length, drop, length-drop}
use lib.Dec.{eqb}
use borrow.Author.Tests.{eqb-true, eq-eqb, lt-ltb, le-ltb}
use Rattle.choice.proofs.Tests.{clash}
use Rattle.lock.specs.Event.{Answer}
use Rattle.lock.specs.State.{fresh_state}
use Rattle.lock.specs.Event.{fresh}
use Rattle.lock.specs.Run.{Call, run}
use Rattle.frame.specs.Reading.{Told, reads, rest_of, refused_by}
use Rattle.bench.specs.Log.{longest, second, third}
use Rattle.bench.specs.Bridge.{edition_of, processors_of, first_state, first_refusal, line_refusal, heard_of, refusal_of}
use Rattle.bench.specs.Verdict.{Verdict, at, later_verdict, verdict_of}
use Rattle.bench.proofs.Frames.{framed, refused_not_zero}
use Rattle.bench.proofs.Hearing.{first_state_is}
use Rattle.bench.proofs.Heard.{heard_fuel}
use Rattle.report.specs.Followed.{Followed}
use Rattle.report.specs.Followed.{later_heard, followed_as, followed_of, Agrees, Follows, LineOne}

module _ (text : List ℕ) (f : Followed) where
  -- what is refused has nothing more to show
  refuses : (v : Verdict) → verdict_of text ≡ v → eqb v.refusal 0 ≡ false → f.refusal ≡ v.refusal → f.line ≡ v.line
      → Follows text f
  refuses v is e r l = record {
    refusal = r ∙ ap (λ (x : Verdict). x.refusal) (sym is);
    line = l ∙ ap (λ (x : Verdict). x.line) (sym is);
    n = λ z. clash (eq-eqb (verdict_of text).refusal 0 z) (ap (λ (x : Verdict). eqb x.refusal 0) is ∙ e);
    accounts = λ z. clash (eq-eqb (verdict_of text).refusal 0 z) (ap (λ (x : Verdict). eqb x.refusal 0) is ∙ e);
  }

  pub follows_long : longest < length text → (f.refusal ≡ 1) × (f.line ≡ 0) → Follows text f
  unfolding verdict_of
  follows_long h e = refuses (at 1 0) (simp (lt-ltb longest (length text) h)) refl e.0 e.1

  -- a schedule that is not too long: line 1 first
  after_length : length text ≤ longest → verdict_of text
      ≡ cond (eqb (first_refusal text) 0) (later_verdict (refusal_of text) (length (heard_of text))) (at (first_refusal text) 1)
  unfolding verdict_of
  after_length low = simp (le-ltb longest (length text) low)

  pub follows_refused : length text ≤ longest → (r : ℕ) → first_refusal text ≡ r → eqb r 0 ≡ false
      → (f.refusal ≡ r) × (f.line ≡ 1) → Follows text f
  follows_refused low r is some e =
      let later = later_verdict (refusal_of text) (length (heard_of text)) in
      refuses (at r 1)
      (after_length low
      ∙ ap (λ (k : ℕ). cond (eqb k 0) later (at k 1)) is
      ∙ ap (λ (b : Bool). cond b later (at r 1)) some)
      some e.0 e.1

  -- the fuel of the whole text hears no more than that of the later lines
  heard_same : later_heard (first_state text) (rest_of text) ≡ heard_of text
  heard_same =
      heard_fuel (length (rest_of text)) (length text) (first_state text) (rest_of text) (omega arith)
      (omega (arith, length-drop 9 text))

  pub follows_on : length text ≤ longest → first_refusal text ≡ 0 → f ≡ followed_of (first_state text) (rest_of text)
      → Follows text f
  unfolding followed_of fresh_state
  follows_on low is e =
      let s = first_state text in
      let over : List Call → Followed =
      λ cs. followed_as s cs (later_verdict (line_refusal (run s cs) (drop (9 * length cs) (rest_of text))) (length cs)) in
      let whole : f ≡ over (heard_of text) = e ∙ ap over heard_same in
      let verdict : verdict_of text ≡ later_verdict (refusal_of text) (length (heard_of text)) =
      after_length low
      ∙ ap (λ (k : ℕ). cond (eqb k 0) (later_verdict (refusal_of text) (length (heard_of text))) (at k 1)) is in
      record {
        refusal = ap (λ (x : Followed). x.refusal) whole ∙ ap (λ (v : Verdict). v.refusal) (sym verdict);
        line = ap (λ (x : Followed). x.line) whole ∙ ap (λ (v : Verdict). v.line) (sym verdict);
        n = λ z. ap (λ (x : Followed). x.n) whole;
        accounts = λ z. ap (λ (x : Followed). x.accounts) whole;
      }

-- what agrees with it follows the schedule too
pub follows_alike : (text : List ℕ) (f g : Followed) → Agrees f g → Follows text g → Follows text f
follows_alike text f g a found = record {
  refusal = a.refusal ∙ found.refusal;
  line = a.line ∙ found.line;
  n = λ z. a.n (found.refusal ∙ z) ∙ found.n z;
  accounts = λ z. a.accounts (found.refusal ∙ z) ∙ found.accounts z;
}

pub first_told : (text : List ℕ) (e n : ℕ) → LineOne text e n → first_refusal text ≡ (fresh e n).refusal
first_told text e n one =
    ap (λ (k : ℕ). cond (eqb k 0) (fresh (edition_of text) (processors_of text)).refusal k) one.line
    ∙ ap (λ (x : ℕ). (fresh x (processors_of text)).refusal) one.edition_is
    ∙ ap (λ (x : ℕ). (fresh e x).refusal) one.n_is

pub first_made : (text : List ℕ) (e n : ℕ) → LineOne text e n → (a : Answer) → a ≡ fresh e n → eqb a.refusal 0 ≡ true
    → (first_refusal text ≡ 0) × (a.state ≡ first_state text)
first_made text e n one a is taken =
    let none : first_refusal text ≡ 0 =
    first_told text e n one ∙ ap (λ (x : Answer). x.refusal) (sym is) ∙ eqb-true a.refusal 0 taken in (
      none,
      ap (λ (x : Answer). x.state) is
          ∙ ap (λ (x : ℕ). (fresh x n).state) (sym one.edition_is)
          ∙ ap (λ (x : ℕ). (fresh (edition_of text) x).state) (sym one.n_is)
          ∙ first_state_is text none,
    )

pub unread_first : (text : List ℕ) (r : ℕ) → reads text true ≡ refused_by r → (first_refusal text ≡ r) × (eqb r 0 ≡ false)
unread_first text r e =
    let some : eqb r 0 ≡ false = refused_not_zero text true r e in (
      ap (λ (t : Told). cond (eqb t.refusal 0) (fresh (second t) (third t)).refusal t.refusal) e ∙ simp some,
      some,
    )

pub read_first : (text : List ℕ) → length text ≤ longest → (kind e n check : ℕ) → reads text true ≡ framed kind e n check
    → LineOne text e n
read_first text low kind e n check is = record {
  within = low;
  line = ap (λ (t : Told). t.refusal) is;
  edition_is = ap second is;
  n_is = ap third is;
}
