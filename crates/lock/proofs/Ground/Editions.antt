-- Which places an edition has: the rule of request [5] is the lists of document 01 and requests [1] and [2], by one computed
-- test.
--     has_beyond     no edition has a number that is no place
--     rule_is        the rule and the lists say the same of every two numbers
--     sets_by_name   the rule's five sets by name
--     said_once      each place is in one of the sets, and rest and inside are in two
--     has_normal     the number may be taken for that of the place which it names
--     has_queue      only the old boards' lock has the places that are apart
--     edition_below  there is no edition past the last
use Prim.Native.Nat.{ℕ, suc, ◌≤◌, ◌<◌}
use native.Mathlib.Omega.{arith}
use mathlib.Core.Path.{◌≡◌, refl, sym, ap, subst, ◌∙◌}
use mathlib.Core.Bool.{Bool, true, false, ◌&&◌, ◌||◌, beq, cond}
use lib.Dec.{eqb, ltb, leb}
use borrow.Author.Tests.{eqb-true, ltb-true, ltb-false, lt-leb, ne_eqb}
use Rattle.std.proofs.Common.{lit<}
use Rattle.choice.specs.Every.{every}
use Rattle.choice.proofs.Tests.{clash, beq_eq, implies, implied}
use Rattle.choice.proofs.Numbers.{every_at}
use Rattle.lock.specs.declared.Edition.{Edition}
use Rattle.lock.specs.declared.Edition.TheVariants.{Plain, Drawn, Guarded, Old}
use Rattle.lock.specs.Named.{edition_number}
use Rattle.lock.specs.State.{editions, is_plain, is_drawn, is_guarded, is_old}
use Rattle.lock.specs.Sound.{is_in, plain_places, drawn_places, guarded_last, old_places, has_place, places}
use Rattle.lock.specs.Places.{every_queue_lock_has, interrupts_add, guard_adds, second_read_adds, old_lock_has, has_by_rule, times_said, SetsByName, RuleIsTheLists, EachPlaceSaidOnce}
use Rattle.lock.proofs.Ground.Sets.{not_in}
use Rattle.lock.proofs.Ground.Facts.{by_number, normal, normal_within, placed, entry, phase_at, is_apart, at_every}

-- whichever edition it is
past :
    (a b c d : Bool) (x y z w : Bool) → x ≡ false → y ≡ false → z ≡ false → w ≡ false
    → false ≡ cond a x (cond b y (cond c z (cond d w false)))
past true b c d x y z w ex ey ez ew = sym ex
past false true c d x y z w ex ey ez ew = sym ey
past false false true d x y z w ex ey ez ew = sym ez
past false false false true x y z w ex ey ez ew = sym ew
past false false false false x y z w ex ey ez ew = refl

pub has_beyond : (e k : ℕ) → places ≤ k → false ≡ has_place e k
unfolding has_place
has_beyond e k h =
    past (is_plain e) (is_drawn e) (is_guarded e) (is_old e) (is_in plain_places k) (is_in drawn_places k) (leb k guarded_last)
    (is_in old_places k) (not_in places k plain_places refl h) (not_in places k drawn_places refl h)
    (lt-leb k guarded_last (omega arith)) (not_in places k old_places refl h)

-- no edition: whatever the four have
none_of :
    (e : ℕ) (x y z w : Bool) → editions ≤ e
    → false ≡ cond (is_plain e) x (cond (is_drawn e) y (cond (is_guarded e) z (cond (is_old e) w false)))
none_of e x y z w h =
    let other : (v : ℕ) → v < editions → eqb e v ≡ false = λ v small. ne_eqb e v (λ q. omega arith) in
    simp (other 0 (omega arith), other 1 (omega arith), other 2 (omega arith), other 3 (omega arith))

has_none : (e k : ℕ) → editions ≤ e → false ≡ has_place e k
unfolding has_place
has_none e k h = none_of e (is_in plain_places k) (is_in drawn_places k) (leb k guarded_last) (is_in old_places k) h

-- ---- the rule

all_right : every places (λ k. every editions (λ e. beq (has_by_rule e k) (has_place e k))) ≡ true
unfolding every has_by_rule has_place
all_right = refl

rule_beyond : (e k : ℕ) → places ≤ k → false ≡ has_by_rule e k
unfolding has_by_rule
rule_beyond e k h =
    let queue : is_in every_queue_lock_has k ≡ false = not_in places k every_queue_lock_has refl h in
    let interrupts : is_in interrupts_add k ≡ false = not_in places k interrupts_add refl h in
    past (is_plain e) (is_drawn e) (is_guarded e) (is_old e) (is_in every_queue_lock_has k)
    (is_in every_queue_lock_has k || is_in interrupts_add k || is_in second_read_adds k)
    (is_in every_queue_lock_has k || is_in interrupts_add k || is_in guard_adds k) (is_in old_lock_has k) queue
    (simp (queue, interrupts, not_in places k second_read_adds refl h)) (simp (queue, interrupts, not_in places k guard_adds refl h))
    (not_in places k old_lock_has refl h)

rule_none : (e k : ℕ) → editions ≤ e → false ≡ has_by_rule e k
unfolding has_by_rule
rule_none e k h =
    none_of e (is_in every_queue_lock_has k) (is_in every_queue_lock_has k || is_in interrupts_add k || is_in second_read_adds k)
    (is_in every_queue_lock_has k || is_in interrupts_add k || is_in guard_adds k) (is_in old_lock_has k) h

pub rule_is : RuleIsTheLists
rule_is e k = by (ltb k places) (ltb e editions) refl refl
  where
    right : ℕ → ℕ → Bool
    right k e = beq (has_by_rule e k) (has_place e k)

    by : (near small : Bool) → ltb k places ≡ near → ltb e editions ≡ small → has_by_rule e k ≡ has_place e k
    by false small i j = let far : places ≤ k = ltb-false k places i in sym (rule_beyond e k far) ∙ has_beyond e k far
    by true false i j = let other : editions ≤ e = ltb-false e editions j in sym (rule_none e k other) ∙ has_none e k other
    by true true i j =
        let column : every editions (right k) ≡ true =
        every_at places (λ k. every editions (right k)) all_right k (ltb-true k places i) in
        beq_eq _ _ (every_at editions (right k) column e (ltb-true e editions j))

pub sets_by_name : SetsByName
sets_by_name = record { queue = refl; interrupts = refl; guard = refl; second_read = refl; old = refl }

all_once : every places (λ k. eqb (times_said k) (cond (eqb k 0 || eqb k 9) 2 1)) ≡ true
unfolding every times_said
all_once = refl

pub said_once : EachPlaceSaidOnce
said_once k h =
    eqb-true (times_said k) (cond (eqb k 0 || eqb k 9) 2 1)
    (every_at places (λ k. eqb (times_said k) (cond (eqb k 0 || eqb k 9) 2 1)) all_once k h)

-- ---- what the other rooms ask

-- an edition has the place at m by m's number, and by that of m's place
pub has_normal : (e m : ℕ) → has_place e m ≡ true → has_place e (normal m) ≡ true
has_normal e m h =
    by_number (λ m. has_place e m ≡ true → has_place e (normal m) ≡ true) m
    (λ within h. subst (λ (k : ℕ). has_place e k ≡ true) (sym (normal_within m within)) h)
    (λ far h. clash h (sym (has_beyond e m far))) h

-- the places that are apart are the old boards' lock's alone
all_queue : every editions (λ e. every (suc places) (λ m. implies (has_place e m && is_apart (phase_at m)) (is_old e))) ≡ true
unfolding every has_place
all_queue = refl

pub has_queue : (e m : ℕ) → is_old e ≡ false → has_place e m ≡ true → is_apart (phase_at m) ≡ false
has_queue e m queue h = by (ltb e editions) (is_apart (phase_at m)) refl refl
  where
    by : (small far : Bool) → ltb e editions ≡ small → is_apart (phase_at m) ≡ far → is_apart (phase_at m) ≡ false
    by false far i j = clash h (sym (has_none e m (ltb-false e editions i)))
    by true false i j = j
    by true true i j =
        clash
        (implied (has_place e (normal m) && is_apart (phase_at (normal m))) (is_old e)
        (at_every (λ m. implies (has_place e m && is_apart (phase_at m)) (is_old e))
        (every_at editions (λ e. every (suc places) (λ m. implies (has_place e m && is_apart (phase_at m)) (is_old e))) all_queue e
        (ltb-true e editions i)) m)
        (rw (has_normal e m h) (ap (λ k. is_apart (entry k).phase) (placed m) ∙ j)))
        queue

-- ---- by name

-- there is no edition past the last
pub edition_below : (e : Edition) → edition_number e < editions
edition_below Plain = lit< tt
edition_below Drawn = lit< tt
edition_below Guarded = lit< tt
edition_below Old = lit< tt
