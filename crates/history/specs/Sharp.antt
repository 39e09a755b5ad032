-- Request [6] on schedules that are worked out, in the checker: the claims are met by real undos, and none of the tests of an undo can
-- be left out.
use Rattle.std.specs.Prelude.{◌≡◌, ℕ, true, false, List, [], ◌∷◌, ◌++◌, replicate, slice_set}
use Rattle.lock.specs.State.{none, plain, guarded, fresh_row, fresh_state, row, with_place}
use Rattle.lock.specs.Sound.{sound}
use Rattle.lock.specs.Run.{Call}
use Rattle.lock.specs.Cases.{step, raise, steps}
use Rattle.history.specs.declared.Entry.{Entry}
use Rattle.history.specs.declared.History.{History}
use Rattle.history.specs.Journal.{empty_entry, restored}
use Rattle.history.specs.Event.{unwritten, goes}
use Rattle.history.specs.Survivors.{walk}
use Rattle.history.specs.Claims.{lock_after, not_undone}

abbrev pub undo : Call
undo = record { event = 3; processor = 0 }

abbrev pub undos : ℕ → List Call
undos k = replicate k undo

-- k events that change nothing but the journal, after the first
abbrev pub raises : ℕ → List Call
raises k = replicate k (raise 0)

-- the refusal of one undo more after a schedule of the plain edition with one processor
abbrev pub one_more : List Call → ℕ
one_more calls = (goes (walk (unwritten (fresh_state plain 1)) calls) 3 0).refusal

-- "after 300 events, 100 undos and 50 events"
abbrev pub three_hundred : List Call
three_hundred = raises 300 ++ undos 100 ++ raises 50

-- a journal that is handed in beside the fresh state of N 2, with one entry to be undone
abbrev pub handed_in : ℕ → Entry → History
handed_in depth e =
    record { lock = fresh_state plain 2; journal = record { entries = slice_set (replicate 256 empty_entry) 255 e; top = 0; depth = depth } }

-- an entry that brings processor p and neighbour q to place k, as fresh otherwise
abbrev pub bringing : ℕ → ℕ → ℕ → Entry
bringing p q k = record { processor = p; own = with_place fresh_row k; neighbour = q; other = fresh_row; tail = none }

pub record StepBackIsSharp : Type 0 where
  -- guarded, N 2: four steps of 0 bring it inside; an undo takes the entry back, and with it the join: place 3, L none
  pub place_back : (row (lock_after guarded 2 (steps 0 4 ++ undos 1)) 0).place ≡ 3
  pub tail_back : (lock_after guarded 2 (steps 0 4 ++ undos 1)).tail ≡ none
  pub three_left : not_undone guarded 2 (steps 0 4 ++ undos 1) ≡ steps 0 3
  -- a neighbour's cell too: 1 has linked to 0, and an undo takes the link back
  pub linked : (row (lock_after guarded 2 (steps 0 4 ++ steps 1 6)) 0).next ≡ 1
  pub link_back : (row (lock_after guarded 2 (steps 0 4 ++ steps 1 6 ++ undos 1)) 0).next ≡ none
  -- 256 can be undone and no more: what fell out of the ring is gone for good
  pub ring_full : one_more (raises 257 ++ undos 255) ≡ 0
  pub ring_empty : one_more (raises 257 ++ undos 256) ≡ 14
  pub first_back : (row (lock_after plain 1 (raises 256 ++ undos 257)) 0).flag ≡ false
  pub first_stays : (row (lock_after plain 1 (raises 257 ++ undos 257)) 0).flag ≡ true
  -- after 300 events, 100 undos and 50 events 206 can be undone
  pub last_of_206 : one_more (three_hundred ++ undos 205) ≡ 0
  pub after_206 : one_more (three_hundred ++ undos 206) ≡ 14
  -- an event that is refused does not lie on the pile, and an undo passes it over
  pub refused_not_there : not_undone plain 1 (raise 0 ∷ step 1 ∷ undo ∷ []) ≡ []
  -- 9 before 14; 11 for a depth past the ring, also of a step; 14 for a depth of 0
  pub nine_first : (goes (handed_in 0 (bringing 0 0 0)) 3 1).refusal ≡ 9
  pub nothing_left : (goes (handed_in 0 (bringing 0 0 0)) 3 0).refusal ≡ 14
  pub ring_is_256 : (goes (handed_in 256 (bringing 0 0 0)) 3 0).refusal ≡ 0
  pub too_deep : (goes (handed_in 257 (bringing 0 0 0)) 1 0).refusal ≡ 11
  -- the second 11: an unsound state would come back; and a processor or a neighbour that is none of the two, though the state that
  -- would come back is sound
  pub unsound_back : (goes (handed_in 1 (bringing 0 1 1)) 3 0).refusal ≡ 11
  pub sound_though : sound (restored (fresh_state plain 2) (bringing 2 0 0)) ≡ true
  pub no_processor : (goes (handed_in 1 (bringing 2 0 0)) 3 0).refusal ≡ 11
  pub no_neighbour : (goes (handed_in 1 (bringing 0 2 0)) 3 0).refusal ≡ 11
