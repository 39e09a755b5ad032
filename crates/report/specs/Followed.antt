-- What is known once a schedule was gone along: its verdict, N and the accounts, in the words of bench's Bridge.
use Rattle.std.specs.Prelude.{ℕ, ◌*◌, ◌≤◌, ◌≡◌, true, List, [], Result, Ok, Err, length, drop}
use Rattle.lock.specs.declared.LockState.{LockState}
use Rattle.lock.specs.State.{row}
use Rattle.lock.specs.Event.{accepted, happens}
use Rattle.lock.specs.Kept.{Whole}
use Rattle.lock.specs.Run.{Call, run}
use Rattle.frame.specs.Reading.{reads}
use Rattle.bench.specs.declared.Refusal.{Refusal}
use Rattle.bench.specs.Named.{number}
use Rattle.bench.specs.Log.{longest}
use Rattle.bench.specs.Bridge.{call_of, first_state, first_refusal, processors_of, edition_of, line_refusal, heard_from, heard_of}
use Rattle.bench.specs.Verdict.{Verdict, later_verdict, verdict_of}
use Rattle.report.specs.declared.counting.Account.{Account}
use Rattle.report.specs.declared.counting.Accepted.{Accepted}
use Rattle.report.specs.declared.following.Stopped.{Stopped}
use Rattle.report.specs.declared.following.Followed.{Followed as Found}
use Rattle.report.specs.Accounts.{did_by, accounts_of}

-- a schedule's refusal and its line, 0 and 0 for none; N, and the accounts
pub record Followed : Type 0 where
  pub refusal : ℕ
  pub line : ℕ
  pub n : ℕ
  pub accounts : List Account

-- what the code's answer says: nothing of N and the accounts where it refuses
abbrev pub told : Result Found Stopped → Followed
told (Ok f) = record { refusal = 0; line = 0; n = f.n; accounts = f.accounts }
told (Err r) = record { refusal = number r.refusal; line = r.line; n = 0; accounts = [] }

-- the calls that are heard of later lines, and the refusal that ends them
abbrev pub later_heard : LockState → List ℕ → List Call
later_heard s text = heard_from (length text) s text

abbrev pub later_refusal : LockState → List ℕ → ℕ
later_refusal s text = line_refusal (run s (later_heard s text)) (drop (9 * length (later_heard s text)) text)

abbrev pub followed_as : LockState → List Call → Verdict → Followed
followed_as s calls v = record { refusal = v.refusal; line = v.line; n = s.n; accounts = accounts_of s calls }

unfoldable pub followed_of : LockState → List ℕ → Followed
followed_of s text =
    followed_as s (later_heard s text) (later_verdict (later_refusal s text) (length (later_heard s text)))

-- the same refusal and line; and where nothing is refused, the same N and accounts
pub record Agrees (f g : Followed) : Type 0 where
  pub refusal : f.refusal ≡ g.refusal
  pub line : f.line ≡ g.line
  pub n : g.refusal ≡ 0 → f.n ≡ g.n
  pub accounts : g.refusal ≡ 0 → f.accounts ≡ g.accounts

-- The line at the beginning of the text, on the state s: its event is accepted, with what it was for its processor; or it is refused.
abbrev pub Turns : LockState → List ℕ → LockState → Result Accepted Refusal → Type 0
Turns s text next (Ok call) =
    let c = call_of text in
    (line_refusal s text ≡ 0) × (accepted next ≡ happens s c.event c.processor) × (call.p ≡ c.processor)
    × (call.did ≡ did_by c.event (row s c.processor).place (row next c.processor).place)
Turns s text next (Err refusal) = line_refusal s text ≡ number refusal

-- line 1: the state from which the run begins; or it is refused
abbrev pub Begins : List ℕ → Result LockState Refusal → Type 0
Begins text (Ok s) = Whole s × (first_refusal text ≡ 0) × (s ≡ first_state text)
Begins text (Err refusal) = first_refusal text ≡ number refusal

-- of a whole schedule: its verdict; and where nothing is refused, N and the accounts over its run
pub record Follows (text : List ℕ) (f : Followed) : Type 0 where
  pub refusal : f.refusal ≡ (verdict_of text).refusal
  pub line : f.line ≡ (verdict_of text).line
  pub n : (verdict_of text).refusal ≡ 0 → f.n ≡ processors_of text
  pub accounts : (verdict_of text).refusal ≡ 0 → f.accounts ≡ accounts_of (first_state text) (heard_of text)

-- line 1 was read, with these numbers
pub record LineOne (text : List ℕ) (edition n : ℕ) : Type 0 where
  pub within : length text ≤ longest
  pub line : (reads text true).refusal ≡ 0
  pub edition_is : edition_of text ≡ edition
  pub n_is : processors_of text ≡ n
