-- Request [5], "the rule written out: what the plain lock has, what interrupts add, what the guard adds"; and, since requests [1]
-- and [2], what the drawn edition's second read adds and what the old boards' lock has. What an edition has is said by the lists in
-- Sound, which are the documents'; this page tells the rule behind them, and that it comes to the same.
--     has_by_rule           the place k is one that edition e has, by the rule
--     SetsByName            the places of each set by their names in the step table
--     RuleIsTheLists        the rule and the lists say the same
--     EachPlaceSaidOnce     what is added was not there before
use Rattle.std.specs.Prelude.{ℕ, ◌+◌, ◌<◌, ◌≡◌, Bool, false, ◌||◌, cond, List, [], ◌∷◌, map, eqb}
use Rattle.lock.specs.State.{is_plain, is_drawn, is_guarded, is_old}
use Rattle.lock.specs.Sound.{places, is_in, plain_places, old_places, has_place}
use Rattle.lock.specs.Table.{place_at, rest, gate, clear, swap, arm, link, claim, spin, settle, inside, poll, service, back, regain, look, close, await, hand, fence, park, peek, take, lift, old_try, old_poll, old_service, old_free, reread, lost}

-- "what the plain lock has": every queue lock has it
abbrev pub every_queue_lock_has : List ℕ
every_queue_lock_has = plain_places

-- "what interrupts add"
abbrev pub interrupts_add : List ℕ
interrupts_add = 6 ∷ 8 ∷ 10 ∷ 11 ∷ 12 ∷ 13 ∷ 19 ∷ 20 ∷ 21 ∷ []

-- "what the guard adds"
abbrev pub guard_adds : List ℕ
guard_adds = 1 ∷ 18 ∷ 22 ∷ []

-- what the second read of the drawn edition adds, [2]
abbrev pub second_read_adds : List ℕ
second_read_adds = 27 ∷ 28 ∷ []

-- what the old boards' lock has, [1]
abbrev pub old_lock_has : List ℕ
old_lock_has = old_places

-- The editions do not nest. Drawn and guarded have in common what plain has and what interrupts add, and each of the two has
-- something that the other lacks. The old boards' lock shares rest and inside with the others, and nothing else.
unfoldable pub has_by_rule : ℕ → ℕ → Bool
has_by_rule e k =
    cond (is_plain e) (is_in every_queue_lock_has k)
    (cond (is_drawn e) (is_in every_queue_lock_has k || is_in interrupts_add k || is_in second_read_adds k)
    (cond (is_guarded e) (is_in every_queue_lock_has k || is_in interrupts_add k || is_in guard_adds k)
    (cond (is_old e) (is_in old_lock_has k) false)))

-- the places of the sets, in the order of their numbers
pub record SetsByName : Type 0 where
  pub queue :
      map place_at every_queue_lock_has
      ≡ rest ∷ clear ∷ swap ∷ arm ∷ link ∷ spin ∷ inside ∷ look ∷ close ∷ await ∷ hand ∷ []
  pub interrupts :
      map place_at interrupts_add ≡ claim ∷ settle ∷ poll ∷ service ∷ back ∷ regain ∷ park ∷ peek ∷ take ∷ []
  pub guard : map place_at guard_adds ≡ gate ∷ fence ∷ lift ∷ []
  pub second_read : map place_at second_read_adds ≡ reread ∷ lost ∷ []
  pub old : map place_at old_lock_has ≡ rest ∷ inside ∷ old_try ∷ old_poll ∷ old_service ∷ old_free ∷ []

-- the same of every edition and place, and of every other number
abbrev pub RuleIsTheLists : Type 0
RuleIsTheLists = (e k : ℕ) → has_by_rule e k ≡ has_place e k

-- in how many of the five sets the place k is
unfoldable pub times_said : ℕ → ℕ
times_said k = times every_queue_lock_has + times interrupts_add + times guard_adds + times second_read_adds + times old_lock_has
  where
    times : List ℕ → ℕ
    times ks = cond (is_in ks k) 1 0

-- each of the 29 places is in one of the sets, and only rest and inside, which every lock has, are in two
abbrev pub EachPlaceSaidOnce : Type 0
EachPlaceSaidOnce = (k : ℕ) → k < places → times_said k ≡ cond (eqb k 0 || eqb k 9) 2 1
