-- Document 01, "The step table", and requests [1] and [2]: the places by number and name, and the act of each. The old boards' lock
-- has places 0 and 9 with the others, and 23 to 26, try, poll, service and free, to itself; 27 and 28 are the drawn edition's.
use Rattle.std.specs.Prelude.{ℕ, List, [], ◌∷◌, get_or}
use Rattle.lock.specs.declared.LockState.{LockState}
use Rattle.lock.specs.State.{row}
use Rattle.lock.specs.Acts as Acts

-- the 29 places, and nowhere for a number that is no place (no sound state has one)
pub data Place : Type 0 where
  rest gate clear swap arm link claim spin settle inside poll service back regain look close await hand fence park peek take lift old_try old_poll old_service old_free reread lost nowhere : Place

abbrev pub names : List Place
names =
    rest ∷ gate ∷ clear ∷ swap ∷ arm ∷ link ∷ claim ∷ spin ∷ settle ∷ inside ∷ poll ∷ service ∷ back ∷ regain ∷ look ∷ close
    ∷ await ∷ hand ∷ fence ∷ park ∷ peek ∷ take ∷ lift ∷ old_try ∷ old_poll ∷ old_service ∷ old_free ∷ reread ∷ lost ∷ []

abbrev pub place_at : ℕ → Place
place_at k = get_or names k nowhere

-- "Step does the act of the processor's place"
abbrev pub act : Place → LockState → ℕ → LockState
act rest s p = Acts.rest s p
act gate s p = Acts.gate s p
act clear s p = Acts.clear s p
act swap s p = Acts.swap s p
act arm s p = Acts.arm s p
act link s p = Acts.link s p
act claim s p = Acts.claim s p
act spin s p = Acts.spin s p
act settle s p = Acts.settle s p
act inside s p = Acts.inside s p
act poll s p = Acts.poll s p
act service s p = Acts.service s p
act back s p = Acts.back s p
act regain s p = Acts.regain s p
act look s p = Acts.look s p
act close s p = Acts.close s p
act await s p = Acts.await s p
act hand s p = Acts.hand s p
act fence s p = Acts.fence s p
act park s p = Acts.park s p
act peek s p = Acts.peek s p
act take s p = Acts.take s p
act lift s p = Acts.lift s p
act old_try s p = Acts.old_try s p
act old_poll s p = Acts.old_poll s p
act old_service s p = Acts.old_service s p
act old_free s p = Acts.old_free s p
act reread s p = Acts.reread s p
act lost s p = Acts.lost s p
act nowhere s p = s

unfoldable pub stepped : LockState → ℕ → LockState
stepped s p = act (place_at (row s p).place) s p
