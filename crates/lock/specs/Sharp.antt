-- The claims of demand 3 say no more than is true: the premises can be met, the bound is sharp, one interrupt is too much, and
-- the drawn edition has no order. The schedules are worked out in proofs/Roof/Witness; those that schedules/ names are the same.
use Rattle.std.specs.Prelude.{ℕ, suc, ◌-◌, ◌≤◌, ◌<◌, ◌≡◌, true, ◌≢◌, List, [], ◌∷◌, ◌++◌, length}
use Rattle.lock.specs.State.{plain, drawn, guarded, fresh_state, row}
use Rattle.lock.specs.Run.{Call, joins, enters}
use Rattle.lock.specs.Count.{entries_in, interrupts_in, all_entries_in, latest_join}
use Rattle.lock.specs.Claims.{reached, waited, Ordered, Waits, LastJoin}

-- A wait of p that meets the premises of demand 3 and is through exactly N - 1 entries, after which p enters.
pub record BoundMet (e n : ℕ) : Type 0 where
  pub before : List Call
  pub join : Call
  pub later : List Call
  pub entry : Call
  pub p : ℕ
  pub waits : Waits e n before join later p
  pub enters_at_last : enters (reached e n (before ++ join ∷ waited e n before join later p)) entry p ≡ true
  pub entries : all_entries_in (reached e n (before ++ join ∷ [])) (waited e n before join later p) ≡ n - 1

-- A wait that meets the premises of the order with interrupts: p takes one, and another enters meanwhile.
pub record KeptItsPlace (e n : ℕ) : Type 0 where
  pub before : List Call
  pub join : Call
  pub wait : List Call
  pub entry : Call
  pub p : ℕ
  pub q : ℕ
  pub last_join : LastJoin e n before join wait entry p
  pub interrupt : interrupts_in (reached e n (before ++ join ∷ [])) wait p ≡ 1
  pub meanwhile : entries_in (reached e n (before ++ join ∷ [])) wait q ≡ 1

-- A guard that is set, and who releases it.
pub record GuardSet (e n : ℕ) : Type 0 where
  pub calls : List Call
  pub q : ℕ
  pub ordered : Ordered e n
  pub set : (row (reached e n calls) q).guard ≡ true

-- The three claims with another premise on how many interrupts p takes. With no_interrupt they are what is claimed.
abbrev pub Order : ℕ → ℕ → (ℕ → Type 0) → Type 0
Order e n calm =
    (before : List Call) (join : Call) (later : List Call) (p : ℕ)
    → joins (reached e n before) join p ≡ true
    → calm (interrupts_in (reached e n (before ++ join ∷ [])) (waited e n before join later p) p)
    → (seen : List Call) (entry : Call) (unseen : List Call) (q : ℕ)
    → waited e n before join later p ≡ seen ++ entry ∷ unseen
    → enters (reached e n (before ++ join ∷ seen)) entry q ≡ true
    → latest_join (fresh_state e n) (before ++ join ∷ seen ++ entry ∷ []) q < suc (length before)

abbrev pub Once : ℕ → ℕ → (ℕ → Type 0) → Type 0
Once e n calm =
    (before : List Call) (join : Call) (later : List Call) (p : ℕ)
    → joins (reached e n before) join p ≡ true
    → calm (interrupts_in (reached e n (before ++ join ∷ [])) (waited e n before join later p) p)
    → (q : ℕ)
    → q ≢ p
    → entries_in (reached e n (before ++ join ∷ [])) (waited e n before join later p) q ≤ 1

abbrev pub Bound : ℕ → ℕ → (ℕ → Type 0) → Type 0
Bound e n calm =
    (before : List Call) (join : Call) (later : List Call) (p : ℕ)
    → joins (reached e n before) join p ≡ true
    → calm (interrupts_in (reached e n (before ++ join ∷ [])) (waited e n before join later p) p)
    → all_entries_in (reached e n (before ++ join ∷ [])) (waited e n before join later p) ≤ n - 1

-- "takes no interrupt", as demand 3 has it; and one at most
abbrev pub no_interrupt : ℕ → Type 0
no_interrupt k = k ≡ 0

abbrev pub one_at_most : ℕ → Type 0
one_at_most k = k ≤ 1

pub record ClaimsAreSharp : Type 0 where
  -- the premises can be met and the bound is met: guarded and plain, N 2
  pub met_guarded : BoundMet guarded 2
  pub met_plain : BoundMet plain 2
  -- with one interrupt the order, "at most once" and the bound are false: guarded, N 3 and N 2
  pub order_needs_calm : Order guarded 3 one_at_most → ⊥
  pub once_needs_calm : Once guarded 2 one_at_most → ⊥
  pub bound_needs_calm : Bound guarded 2 one_at_most → ⊥
  -- the drawn edition has no order, even without interrupts: N 3
  pub drawn_has_none : Order drawn 3 no_interrupt → ⊥
  -- the order with interrupts is not empty: guarded, N 3
  pub kept : KeptItsPlace guarded 3
  -- a guard is set in the guarded edition: N 2
  pub guard_set : GuardSet guarded 2
