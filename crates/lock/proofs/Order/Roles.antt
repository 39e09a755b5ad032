-- What the table of places says of a row whose place is not known, as far as the invariant's proof uses it. m is the number of
-- the place, l the row's locked, x whether its nx is none.
--     is_queued             in the queue, by role
--     table                a test of place, locked and nx that computes to true at each holds of any
--     parked_tok, parked_out, parked_settled         R_P: the lock is parked here, and is gone once locked is Released
--     preempted_tok, preempted_settled               Preempted: parking makes it R_P
--     wait_tok, wait_open, wait_stays                who waits takes the lock when Released, is open, and is neither Released nor R_P
--     queued_joined, member_queued                   who is in the queue is not about to join it; a member of the queue has such a role
--     fences_kind, peeked_fences                     who fences hands on or lags; who has peeked fences
--     swap_place                                     only place 3 is the swap
--     plain_fencing, plain_wait                      in the plain edition nobody fences, and who waits is Locked
use Prim.Native.Nat.{ℕ, suc, ◌≤◌}
use mathlib.Core.Path.{◌≡◌, refl, sym, ap, ◌∙◌}
use mathlib.Core.Bool.{Bool, true, false, not, ◌&&◌, ◌||◌}
use mathlib.Core.List.{[], ◌∷◌}
use mathlib.Core.Logic.{◌⊎◌, inl, inr}
use native.Mathlib.Omega.{arith}
use lib.ListN.{get_or}
use lib.Dec.{eqb, leb, lit<}
use borrow.Author.Tests.{eqb-true, leb-true, eq-eqb}
use Rattle.choice.specs.Every.{every}
use Rattle.choice.proofs.Tests.{clash, and_left, and_right, implies, implied}
use Rattle.choice.proofs.Numbers.{every_at}
use Rattle.lock.specs.State.{Released, Locked, Preempted, RP}
use Rattle.lock.specs.Sound.{places, has_place}
use Rattle.lock.specs.Table.{Place, place_at, swap, fence}
use Rattle.lock.proofs.Ground.Facts.{Role, out, raw, wait, tok, rel, lag, Facts, entry, facts, facts_at, number, normal, phase_at, queues, is_left, settled, number_test, at_facts}
use Rattle.lock.proofs.Ground.Editions.{has_normal}

abbrev pub role : ℕ → ℕ → Bool → Role
role m l x = (facts_at m).role l x

abbrev pub is_queued : Role → Bool
is_queued out = false
is_queued raw = true
is_queued wait = true
is_queued tok = true
is_queued rel = false
is_queued lag = false

-- roles as numbers, so that one test serves for each
abbrev role_rank : Role → ℕ
role_rank out = 0
role_rank raw = 1
role_rank wait = 2
role_rank tok = 3
role_rank rel = 4
role_rank lag = 5

abbrev roles : ℕ → Role
roles i = get_or (out ∷ raw ∷ wait ∷ tok ∷ rel ∷ lag ∷ []) i out

abbrev is : Role → Role → Bool
is a b = eqb (role_rank a) (role_rank b)

ranked : (a : Role) → roles (role_rank a) ≡ a
ranked out = refl
ranked raw = refl
ranked wait = refl
ranked tok = refl
ranked rel = refl
ranked lag = refl

is_same : (a b : Role) → is a b ≡ true → a ≡ b
is_same a b e = sym (ranked a) ∙ ap roles (eqb-true (role_rank a) (role_rank b) e) ∙ ranked b

same_is : (a b : Role) → a ≡ b → is a b ≡ true
same_is a b e = eq-eqb (role_rank a) (role_rank b) (ap role_rank e)

abbrev four_times : (ℕ → Bool → Bool) → Bool
four_times f = every 4 (λ l. f l true && f l false)

pub table :
    (f : Place → ℕ → Bool → Bool) → every (suc places) (λ m. four_times (f (place_at m))) ≡ true
    → (m l : ℕ) (x : Bool) → leb l 3 ≡ true → f (place_at m) l x ≡ true
table f e m l x h =
    one x (every_at 4 (λ l. f (place_at m) l true && f (place_at m) l false) (at_facts (λ k. four_times (f k)) e m) l small)
  where
    small : suc l ≤ 4
    small = let b : l ≤ 3 = leb-true l 3 h in omega arith

    one : (x : Bool) → f (place_at m) l true && f (place_at m) l false ≡ true → f (place_at m) l x ≡ true
    one true e = and_left (f (place_at m) l true) (f (place_at m) l false) e
    one false e = and_right (f (place_at m) l true) (f (place_at m) l false) e

-- a fact of the form: where the test holds, the role is this one
because :
    (f : Facts → ℕ → Bool) (g : ℕ → ℕ) (a : Role)
    → every (suc places) (λ m. four_times (λ l x. implies (f (facts_at m) l) (is (role m (g l) x) a))) ≡ true
    → (m l : ℕ) (x : Bool) → leb l 3 ≡ true → f (facts_at m) l ≡ true → role m (g l) x ≡ a
because f g a e m l x h t =
    is_same (role m (g l) x) a (implied (f (facts_at m) l) (is (role m (g l) x) a)
    (table (λ k l x. implies (f (facts k) l) (is ((facts k).role (g l) x) a)) e m l x h) t)

-- a fact of the form: where the one locked is allowed, so is the other
allowed :
    (a b : ℕ) → every (suc places) (λ m. implies (settled (facts_at m) a) (settled (facts_at m) b)) ≡ true → (m : ℕ)
    → settled (facts_at m) a ≡ true → settled (facts_at m) b ≡ true
allowed a b e m =
    implied (settled (facts_at m) a) (settled (facts_at m) b)
    (at_facts (λ k. implies (settled (facts k) a) (settled (facts k) b)) e m)

-- R_P: the lock is parked here, and is gone once locked is Released
pub parked_tok : (m : ℕ) (x : Bool) → settled (facts_at m) RP ≡ true → role m RP x ≡ tok
unfolding every
parked_tok m x = because (λ f l. settled f RP) (λ l. RP) tok refl m 0 x refl

pub parked_out : (m : ℕ) (x : Bool) → settled (facts_at m) RP ≡ true → role m Released x ≡ out
unfolding every
parked_out m x = because (λ f l. settled f RP) (λ l. Released) out refl m 0 x refl

pub parked_settled : (m : ℕ) → settled (facts_at m) RP ≡ true → settled (facts_at m) Released ≡ true
unfolding every
parked_settled = allowed RP Released refl

-- Preempted: parking makes it R_P
pub preempted_tok : (m : ℕ) (x : Bool) → settled (facts_at m) Preempted ≡ true → role m RP x ≡ tok
unfolding every
preempted_tok m x = because (λ f l. settled f Preempted) (λ l. RP) tok refl m 0 x refl

pub preempted_settled : (m : ℕ) → settled (facts_at m) Preempted ≡ true → settled (facts_at m) RP ≡ true
unfolding every
preempted_settled = allowed Preempted RP refl

-- where the role is wait and locked is allowed, a further test holds
waiting :
    (f : Place → ℕ → Bool → Bool)
    → every (suc places) (λ m. four_times (λ l x. implies (is (role m l x) wait && settled (facts_at m) l) (f (place_at m) l x))) ≡ true
    → (m l : ℕ) (x : Bool) → leb l 3 ≡ true → role m l x ≡ wait → settled (facts_at m) l ≡ true → f (place_at m) l x ≡ true
waiting f e m l x h w t =
    implied (is (role m l x) wait && settled (facts_at m) l) (f (place_at m) l x)
    (table (λ k l x. implies (is ((facts k).role l x) wait && settled (facts k) l) (f k l x)) e m l x h)
    (rw (same_is (role m l x) wait w) t)

-- who waits: Locked, it takes the lock when locked becomes Released; its place is open; its locked is neither
-- Released nor R_P
pub wait_tok :
    (m : ℕ) (x : Bool) → role m Locked x ≡ wait → settled (facts_at m) Locked ≡ true
    → (role m Released x ≡ tok) × (settled (facts_at m) Released ≡ true)
unfolding every
wait_tok m x w t =
    let a = is (role m Released x) tok in
    let both : a && settled (facts_at m) Released ≡ true =
    implied (eqb Locked Locked) (a && settled (facts_at m) Released)
    (waiting (λ k l x. implies (eqb l Locked) (is ((facts k).role Released x) tok && settled (facts k) Released)) refl m Locked x
    refl w t) refl in (
      is_same (role m Released x) tok (and_left a (settled (facts_at m) Released) both),
      and_right a (settled (facts_at m) Released) both,
    )

pub wait_open :
    (m l : ℕ) (x : Bool) → leb l 3 ≡ true → role m l x ≡ wait → settled (facts_at m) l ≡ true → (facts_at m).opens ≡ true
unfolding every
wait_open = waiting (λ k l x. (facts k).opens) refl

pub wait_stays :
    (m l : ℕ) (x : Bool) → leb l 3 ≡ true → role m l x ≡ wait → settled (facts_at m) l ≡ true → not (is_left l) ≡ true
unfolding every
wait_stays = waiting (λ k l x. not (is_left l)) refl

-- who is in the queue is not about to join it; a member of the queue is in it by its role
pub queued_joined :
    (m l : ℕ) (x : Bool) → leb l 3 ≡ true → is_queued (role m l x) ≡ true → not (facts_at m).swaps ≡ true
unfolding every
queued_joined m l x h =
    implied (is_queued (role m l x)) (not (facts_at m).swaps)
    (table (λ k l x. implies (is_queued ((facts k).role l x)) (not (facts k).swaps)) refl m l x h)

pub member_queued :
    (m l : ℕ) (x : Bool) → leb l 3 ≡ true → queues (phase_at m) l ≡ true → is_queued (role m l x) ≡ true
unfolding every
member_queued m l x h =
    implied (queues (phase_at m) l) (is_queued (role m l x))
    (table (λ k l x. implies (queues (entry k).phase l) (is_queued ((facts k).role l x))) refl m l x h)

-- who fences hands on or lags; who is at 21 or 22 fences
pub fences_kind :
    (m l : ℕ) (x : Bool) → leb l 3 ≡ true → (facts_at m).fences ≡ true → (role m l x ≡ rel) ⊎ (role m l x ≡ lag)
unfolding every
fences_kind m l x h e =
    either (is (role m l x) rel) (is (role m l x) lag) refl refl
    (implied (facts_at m).fences (is (role m l x) rel || is (role m l x) lag)
    (table (λ k l x. implies (facts k).fences (is ((facts k).role l x) rel || is ((facts k).role l x) lag)) refl m l x h)
    e)
  where
    either :
        (a b : Bool) → is (role m l x) rel ≡ a → is (role m l x) lag ≡ b → a || b ≡ true
        → (role m l x ≡ rel) ⊎ (role m l x ≡ lag)
    either true b f g o = inl (is_same (role m l x) rel f)
    either false true f g o = inr (is_same (role m l x) lag g)
    either false false f g o = clash o refl

pub peeked_fences : (m : ℕ) → (facts_at m).takes || (facts_at m).lifts ≡ true → (facts_at m).fences ≡ true
unfolding every
peeked_fences m h =
    implied ((facts_at m).takes || (facts_at m).lifts) (facts_at m).fences
    (at_facts (λ k. implies ((facts k).takes || (facts k).lifts) (facts k).fences) refl m) h

-- only place 3 is the swap
pub swap_place : (m : ℕ) → place_at m ≡ swap → eqb m 3 ≡ true
swap_place m e = sym (number_test m 3 (lit< tt)) ∙ ap (λ k. eqb (number k) 3) e

-- in the plain edition nobody fences, and who waits is Locked
pub plain_fencing : (m : ℕ) → has_place 0 m ≡ true → place_at m ≡ fence → ⊥
unfolding has_place
plain_fencing m h e = clash (has_normal 0 m h) (ap (λ k. has_place 0 (number k)) e)

pub plain_wait :
    (m l : ℕ) (x : Bool) → leb l 3 ≡ true → has_place 0 m ≡ true → role m l x ≡ wait → settled (facts_at m) l ≡ true
    → l ≡ Locked
unfolding every has_place
plain_wait m l x h p w t =
    eqb-true l Locked
    (implied (has_place 0 (normal m)) (eqb l Locked)
    (waiting (λ k l x. implies (has_place 0 (number k)) (eqb l Locked)) refl m l x h w t) (has_normal 0 m p))
