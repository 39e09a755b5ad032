-- Soundness is kept, as types; the proofs stand in proofs/Keeping. So refusal 11 is for a state that somebody makes by
-- hand: no schedule leads to it from the fresh state.
--     Whole            a sound state with its sixteen rows
--     FreshIsSound     the fresh state is sound, and so is the filler
--     SoundIsKept      an accepted event gives a sound state
--     NeverUnsound     no schedule leads from the fresh state to one that is not sound
use Rattle.std.specs.Prelude.{ℕ, ◌≡◌, true, List, length}
use Rattle.lock.specs.declared.LockState.{LockState}
use Rattle.lock.specs.State.{processors}
use Rattle.lock.specs.Sound.{sound}
use Rattle.lock.specs.Event.{fresh, happens}
use Rattle.lock.specs.Run.{Call, run}

-- A sound state with its sixteen rows. A value of the Rattle type always has them, but the list in a definition may be shorter.
pub record Whole (s : LockState) : Type 0 where
  pub rooms : length s.rows ≡ processors
  pub fit : sound s ≡ true

-- The fresh state is sound, and so is the filler that stands beside a refusal: nothing is asked of e and n.
abbrev pub FreshIsSound : Type 0
FreshIsSound = (e n : ℕ) → sound (fresh e n).state ≡ true

-- An accepted event gives a sound state, also on a sound state that no run reaches. That there are sixteen rows is a
-- premise here: a value of the Rattle type always has them, but the list in a definition may be shorter.
abbrev pub SoundIsKept : Type 0
SoundIsKept =
    (s : LockState) (event p : ℕ)
    → length s.rows ≡ processors
    → (happens s event p).refusal ≡ 0
    → sound (happens s event p).state ≡ true

-- Over any schedule from the fresh state, refused calls among them, the state is sound: 11 never comes out of a run.
abbrev pub NeverUnsound : Type 0
NeverUnsound = (e n : ℕ) (calls : List Call) → sound (run (fresh e n).state calls) ≡ true
