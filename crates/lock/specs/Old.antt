-- Request [1], the old boards' lock: why "Demand 3's order and bound aren't claimed". It has no joins; one that has tried is
-- overtaken, on the schedule that is kept as schedules/old_overtaken; and no number bounds the entries that one waits through.
-- That two are never inside together stands in Claims, over every edition.
use Rattle.std.specs.Prelude.{ℕ, ◌≡◌, Bool, true, ◌&&◌, ◌≢◌, List, [], ◌∷◌, ◌++◌}
use Rattle.lock.specs.declared.LockState.{LockState}
use Rattle.lock.specs.State.{old, fresh_state}
use Rattle.lock.specs.Run.{Call, steps_of, from_to, enters}
use Rattle.lock.specs.Count.{joins_in, entries_in, interrupts_in}
use Rattle.lock.specs.Cases.{steps}
use Rattle.lock.specs.Claims.{reached}

-- "this lock has no joins"
abbrev pub OldHasNoJoins : Type 0
OldHasNoJoins = (n : ℕ) (calls : List Call) (p : ℕ) → joins_in (fresh_state old n) calls p ≡ 0

-- processor p tries and fails: "23 try: ... otherwise to 24"
abbrev pub fails : LockState → Call → ℕ → Bool
fails s c p = steps_of s c p && from_to s c p 23 24

-- processor q leaves: "26 free: ... to 0"
abbrev pub leaves : LockState → Call → ℕ → Bool
leaves s c q = steps_of s c q && from_to s c q 26 0

-- After the calls `before` p tries and fails by the call `try`, and the calls `later` keep it out: in them it neither enters nor takes
-- an interrupt.
pub record KeptOut (n : ℕ) (before : List Call) (try : Call) (later : List Call) (p : ℕ) : Type 0 where
  pub failed : fails (reached old n before) try p ≡ true
  pub entries : entries_in (reached old n (before ++ try ∷ [])) later p ≡ 0
  pub interrupts : interrupts_in (reached old n (before ++ try ∷ [])) later p ≡ 0

-- An overtaking: p tries and fails by the call `try`, then q leaves by `leave`, comes back and enters by `entry`, and p is kept out
-- all the while. All the calls, from the fresh state on, are the schedule.
pub record Overtaken (n : ℕ) (schedule : List Call) (p q : ℕ) : Type 0 where
  pub before : List Call
  pub try : Call
  pub meanwhile : List Call
  pub leave : Call
  pub back : List Call
  pub entry : Call
  pub all : before ++ try ∷ meanwhile ++ leave ∷ back ++ entry ∷ [] ≡ schedule
  pub other : q ≢ p
  pub left : leaves (reached old n (before ++ try ∷ meanwhile)) leave q ≡ true
  pub entered : enters (reached old n (before ++ try ∷ meanwhile ++ leave ∷ back)) entry q ≡ true
  pub waited : KeptOut n before try (meanwhile ++ leave ∷ back ++ entry ∷ []) p

-- "a schedule showing an overtaking is kept as a test": the 8 events of schedules/old_overtaken, in which 1 has tried and failed,
-- then 0 leaves, comes back and enters again before 1
abbrev pub OldOvertakes : Type 0
OldOvertakes = Overtaken 2 (steps 0 2 ++ steps 1 2 ++ steps 0 4) 1 0

-- Another enters again and again, any number of times, while one that has tried and failed is kept out.
pub record WaitsThrough (n entries : ℕ) : Type 0 where
  pub before : List Call
  pub try : Call
  pub later : List Call
  pub p : ℕ
  pub q : ℕ
  pub other : q ≢ p
  pub waited : KeptOut n before try later p
  pub entered : entries_in (reached old n (before ++ try ∷ [])) later q ≡ entries

abbrev pub OldHasNoBound : Type 0
OldHasNoBound = (entries : ℕ) → WaitsThrough 2 entries
