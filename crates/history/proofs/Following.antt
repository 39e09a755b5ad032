-- The lock's state as a layer of AnyState: a history follows the pile of the calls that are not undone.
--     lock_layer           the lock's state, its events, and the entries of specs/Journal
--     pile_state           the state after a pile is the run of its calls
--     Ready, ready         a history that follows a pile is whole, and its newest entry brings back a sound state
--     goes_follows         an event keeps that
--     starts               the fresh history follows the empty pile
use Rattle.std.proofs.Common.{◌≡◌, ℕ, zero, suc, ◌%◌, ◌<◌, Bool, true, false, cond, not, ◌&&◌, eqb, ltb, List, [], ◌∷◌, length, get_or, sym, refl, ap, ◌∙◌, subst, arith, lt-ltb, eqb-true, le-leb}
use Rattle.std.proofs.lemmas.Bool.{eqb-false}
use Rattle.choice.proofs.Tests.{and_both}
use Rattle.lock.specs.declared.LockState.{LockState}
use Rattle.lock.specs.Event.{Answer}
use Rattle.lock.specs.State.{row}
use Rattle.lock.specs.Sound.{sound}
use Rattle.lock.specs.Event as Lock
use Rattle.lock.specs.Event.{is_step, is_raise, happens, carried}
use Rattle.lock.specs.Run.{Call, after, run}
use Rattle.lock.specs.Kept.{Whole}
use Rattle.lock.specs.Touched.{neighbour_of}
use Rattle.lock.proofs.Keeping.{run_kept}
use Rattle.lock.proofs.Touched.{one_event_touches, near_below}
use Rattle.lock.proofs.Waiting.Counting.{run_append}
use Rattle.history.specs.declared.Entry.{Entry}
use Rattle.history.specs.declared.History.{History}
use Rattle.history.specs.Journal.{most, empty_entry, empty_journal, previous, entry_of, restored, in_range, pushed, newest, popped}
use Rattle.history.specs.Event.{accepted, refused, unwritten, is_undo, is_whole, brings_back, stepped_back, undone, recorded, goes}
use Rattle.history.specs.Survivors.{Pile, nothing, onto, off, oldest_first, takes_back, accepts, told, afterward}
use Rattle.history.proofs.Keeping.{happens_carried, taken_below}
use Rattle.history.proofs.AnyState as Any
use Rattle.history.proofs.AnyState.{Layer}

-- ---- the layer

pub home : (s : LockState) (c : Call) → restored (after s c) (entry_of s c.processor) ≡ s
unfolding restored entry_of
home s c = (one_event_touches s c).back

abbrev pub lock_layer : Layer
lock_layer =
    record {
      State = LockState;
      Entry = Entry;
      bare = empty_entry;
      step = after;
      accepts = accepts;
      undo = takes_back;
      entry_of = λ s c. entry_of s c.processor;
      restored = restored;
      home = home;
    }

-- a history as the layer sees it
abbrev pub seen : History → Any.Hist lock_layer
seen h =
    record { state = h.lock; entries = h.journal.entries; top = h.journal.top; depth = h.journal.depth }

abbrev pub Follows : LockState → History → Pile → Type 0
Follows s h k = Any.Follows lock_layer s (seen h) k

pub pile_state : (s : LockState) (calls : List Call) → Any.after lock_layer s calls ≡ run s (oldest_first calls)
unfolding Any.after oldest_first run
pile_state s [] = refl
pile_state s (c ∷ older) =
    ap (λ x. after x c) (pile_state s older) ∙ sym (run_append s (oldest_first older) (c ∷ []))

told_same : (s : LockState) (k : Pile) (c : Call) → Any.told lock_layer s k c ≡ told s k c
unfolding Any.told told
told_same s k c =
    ap (λ x. cond (takes_back c) (cond (eqb k.depth 0) k (off k)) (cond (accepts x c) (onto k c) k)) (pile_state s k.calls)

-- an undo is no event of the lock
undo_unknown : (s : LockState) (c : Call) → is_undo c.event ≡ true → accepts s c ≡ false
unfolding happens
undo_unknown s c e =
    let three : c.event ≡ 3 = eqb-true c.event 3 e in
    ap (λ v. eqb (cond (not (sound s)) (Lock.refused 11 s) (carried s v c.processor)).refusal 0) three ∙ by (sound s)
  where
    by : (fit : Bool) → eqb (cond (not fit) (Lock.refused 11 s) (Lock.refused 8 s)).refusal 0 ≡ false
    by true = refl
    by false = refl

-- ---- a history that follows a pile

pub record Ready (h : History) : Type 0 where
  pub whole : Whole h.lock
  pub fits : is_whole h ≡ true
  pub brings : eqb h.journal.depth 0 ≡ false → brings_back h.lock (newest h.journal) ≡ true

module _ (s : LockState) (w : Whole s) where
  pile_whole : (calls : List Call) → Whole (Any.after lock_layer s calls)
  pile_whole calls = subst Whole (sym (pile_state s calls)) (run_kept s (oldest_first calls) w)

  -- an entry made for an accepted call brings back the state before it
  entry_brings : (x : LockState) (c : Call) → Whole x → accepts x c ≡ true → brings_back (after x c) (entry_of x c.processor) ≡ true
  unfolding brings_back entry_of
  entry_brings x c whole taken =
      let same = ap (λ (a : Answer). eqb a.refusal 0) (sym (happens_carried x whole c.event c.processor)) in
      let below = taken_below x c.event c.processor (eqb-true _ 0 (same ∙ taken)) in
      let size = (one_event_touches x c).n in
      let near = near_below whole below in
      let own = lt-ltb c.processor (after x c).n (subst (λ n. c.processor < n) (sym size) below) in
      let other = lt-ltb (neighbour_of (row x c.processor) c.processor) (after x c).n (subst (λ n. neighbour_of (row x c.processor) c.processor < n) (sym size) near) in
      and_both _ _ (and_both _ _ own other) (ap sound (home x c) ∙ whole.fit)

  newest_brings :
      (h : History) (calls : List Call) (d : ℕ) → eqb d 0 ≡ false → Follows s h (record { calls = calls; depth = d })
      → brings_back h.lock (newest h.journal) ≡ true
  unfolding newest Any.after
  newest_brings h calls zero e f = absurd (eqb-false 0 0 e refl)
  newest_brings h [] (suc d) e f = absurd f.held
  newest_brings h (c ∷ older) (suc d) e f =
      let x = Any.after lock_layer s older in
      let slot : previous h.journal.top ≡ length older % most = ap previous f.top ∙ Any.last_slot (length older) in
      let entry : newest h.journal ≡ entry_of x c.processor =
      ap (λ m. get_or h.journal.entries m empty_entry) slot ∙ f.held.entry in
      (λ i. brings_back (f.state i) (entry i)) ∙ entry_brings x c (pile_whole older) f.held.taken

  pub ready : (h : History) (k : Pile) → Follows s h k → Ready h
  unfolding is_whole in_range
  ready h k f =
      let whole = subst Whole (sym f.state) (pile_whole k.calls) in
      let depth = f.depth in
      let within = f.within in
      let slot : h.journal.top < most = subst (λ m. m < most) (sym f.top) (Any.slot_in (length k.calls)) in
      record {
        whole = whole;
        fits =
            and_both (sound h.lock) _ whole.fit
            (and_both (ltb h.journal.top most) _ (lt-ltb _ _ slot) (le-leb h.journal.depth most (omega arith)));
        brings = λ e. newest_brings h k.calls k.depth (sym (ap (λ d. eqb d 0) depth) ∙ e) f;
      }

-- ---- an event, as the layer sees it

module _ (h : History) (r : Ready h) where
  -- an undo whose byte is 0
  undo_seen : seen (undone h 0).state ≡ cond (eqb h.journal.depth 0) (seen h) (Any.popped lock_layer (seen h))
  unfolding undone stepped_back popped newest Any.popped
  undo_seen = by (eqb h.journal.depth 0) refl
    where
      by :
          (bare : Bool) → eqb h.journal.depth 0 ≡ bare
          → seen (cond bare (refused 14 0 h) (stepped_back h 0 (newest h.journal))).state
          ≡ cond bare (seen h) (Any.popped lock_layer (seen h))
      by true e = refl
      by false e =
          ap
          (λ b. seen (cond b (accepted (newest h.journal).processor (restored h.lock (newest h.journal)) (popped h.journal)) (refused 11 0 h)).state)
          (r.brings e)

  -- a step or a raise, by the lock's answer
  abbrev seen_by : ℕ → Answer → Bool → Any.Hist lock_layer
  seen_by p a taken =
      let j = pushed h.journal (entry_of h.lock p) in
      cond taken (record { state = a.state; entries = j.entries; top = j.top; depth = j.depth }) (seen h)

  recorded_seen : (p : ℕ) (a : Answer) → seen (recorded h p a).state ≡ seen_by p a (eqb a.refusal 0)
  unfolding recorded
  recorded_seen p a = by (eqb a.refusal 0)
    where
      by :
          (taken : Bool)
          → seen (cond taken (accepted p a.state (pushed h.journal (entry_of h.lock p))) (refused a.refusal p h)).state
          ≡ seen_by p a taken
      by true = refl
      by false = refl

  event_seen :
      (event p : ℕ) (c : Call) → c ≡ record { event = event; processor = p }
      → seen (recorded h p (carried h.lock event p)).state
      ≡ cond (accepts h.lock c) (Any.pushed lock_layer (seen h) c) (seen h)
  unfolding pushed Any.pushed after
  event_seen event p c e =
      recorded_seen p (carried h.lock event p)
      ∙ ap (λ a. seen_by p a (eqb a.refusal 0)) (sym (happens_carried h.lock r.whole event p))
      ∙ ap (λ (x : Call). cond (accepts h.lock x) (Any.pushed lock_layer (seen h) x) (seen h)) (sym e)

  pub goes_seen : (c : Call) → seen (afterward h c) ≡ Any.goes lock_layer (seen h) c
  unfolding afterward goes undone Any.goes
  goes_seen c =
      ap
      (λ b. seen (cond (not b) (refused 11 c.processor h) (cond (is_undo c.event) (undone h c.processor) (recorded h c.processor (carried h.lock c.event c.processor)))).state)
      r.fits
      ∙ by (is_undo c.event) (eqb c.processor 0) refl refl
    where
      by :
          (undo nought : Bool) → is_undo c.event ≡ undo → eqb c.processor 0 ≡ nought
          → seen (cond undo (undone h c.processor) (recorded h c.processor (carried h.lock c.event c.processor))).state
          ≡ cond (undo && nought) (cond (eqb h.journal.depth 0) (seen h) (Any.popped lock_layer (seen h)))
          (cond (accepts h.lock c) (Any.pushed lock_layer (seen h) c) (seen h))
      by true true u z = ap (λ q. seen (undone h q).state) (eqb-true c.processor 0 z) ∙ undo_seen
      by true false u z =
          ap
          (λ b. seen (cond (not b) (refused 9 c.processor h) (cond (eqb h.journal.depth 0) (refused 14 c.processor h) (stepped_back h c.processor (newest h.journal)))).state)
          z
          ∙ sym (ap (λ b. cond b (Any.pushed lock_layer (seen h) c) (seen h)) (undo_unknown h.lock c u))
      by false nought u z = event_seen c.event c.processor c refl

-- ---- an event keeps following

module _ (s : LockState) (w : Whole s) where
  pub goes_follows : (h : History) (k : Pile) (c : Call) → Follows s h k → Follows s (afterward h c) (told s k c)
  goes_follows h k c f =
      subst (λ x. Any.Follows lock_layer s x (told s k c)) (sym (goes_seen h (ready s w h k f) c))
      (subst (Any.Follows lock_layer s (Any.goes lock_layer (seen h) c)) (told_same s k c)
      (Any.call_follows lock_layer s (seen h) k c f))

pub starts : (s : LockState) → Follows s (unwritten s) nothing
unfolding empty_journal
starts s = Any.begins lock_layer s
