-- The theorem of the survivors over any state: what a state is, what an event does to it, what an entry holds and how it leads back
-- are a `Layer`. So a wider state needs its own `home` alone, that an entry leads back over its event. Whether an event is accepted is
-- asked of the survivors' own run, so a refusal may depend on the state.
--     Layer               the state, the events, the entries
--     Hist, goes          the state with its journal, and what a call makes of it
--     told                the pile of calls that are not undone
--     Follows             the state is that after the pile, and the journal holds the pile's newest entries, accepted ones
--     call_follows        each call keeps that
use Rattle.std.proofs.Common.{◌≡◌, ℕ, zero, suc, ◌+◌, ◌%◌, ◌<◌, ◌≤◌, Bool, true, false, cond, eqb, ltb, ◌≢◌, List, [], ◌∷◌, length, get_or, set, replicate, sym, refl, ap, ◌∙◌, subst, add-one, arith, length-set, get_or-set_other, get_or-set_same, ltb-false, ltb-true}
use Rattle.std.proofs.lemmas.Bool.{eqb-false}
use Rattle.std.proofs.lemmas.List.{length-replicate}
use Rattle.lock.specs.Run.{Call}
use Rattle.history.specs.Journal.{most, next, previous, deeper, shallower}
use Rattle.history.specs.Survivors.{Pile, onto, off, but_newest, nothing}

-- ---- slots of the ring

pub next_slot : (m : ℕ) → next (m % most) ≡ suc m % most
next_slot m = omega arith

pub last_slot : (m : ℕ) → previous (suc m % most) ≡ m % most
last_slot m = omega arith

pub slot_in : (m : ℕ) → m % most < most
slot_in m = omega arith

less_one : (d : ℕ) → shallower (suc d) ≡ d
less_one d = omega arith

apart : (m l : ℕ) → m < l → l < m + most → m % most ≢ l % most
apart m l a b e = absurd (omega arith)

-- ---- a layer

pub record Layer : Type 1 where
  pub State : Type 0
  pub Entry : Type 0
  pub bare : Entry
  pub step : State → Call → State
  pub accepts : State → Call → Bool
  pub undo : Call → Bool
  pub entry_of : State → Call → Entry
  pub restored : State → Entry → State
  pub home : (s : State) (c : Call) → restored (step s c) (entry_of s c) ≡ s

module _ (Y : Layer) where
  pub record Hist : Type 0 where
    pub state : Y.State
    pub entries : List Y.Entry
    pub top : ℕ
    pub depth : ℕ

  unfoldable pub pushed : Hist → Call → Hist
  pushed h c =
      record {
        state = Y.step h.state c;
        entries = set h.entries h.top (Y.entry_of h.state c);
        top = next h.top;
        depth = deeper h.depth;
      }

  unfoldable pub popped : Hist → Hist
  popped h =
      record {
        state = Y.restored h.state (get_or h.entries (previous h.top) Y.bare);
        entries = h.entries;
        top = previous h.top;
        depth = shallower h.depth;
      }

  unfoldable pub goes : Hist → Call → Hist
  goes h c =
      cond (Y.undo c) (cond (eqb h.depth 0) h (popped h)) (cond (Y.accepts h.state c) (pushed h c) h)

  -- the state after the calls of a pile, the newest first
  unfoldable pub after : Y.State → List Call → Y.State
  after s [] = s
  after s (c ∷ older) = Y.step (after s older) c

  unfoldable pub told : Y.State → Pile → Call → Pile
  told s k c =
      cond (Y.undo c) (cond (eqb k.depth 0) k (off k)) (cond (Y.accepts (after s k.calls) c) (onto k c) k)

  -- ---- the journal holds the pile's newest

  module _ (s : Y.State) where
    pub record Newest (es : List Y.Entry) (c : Call) (older : List Call) (R : Type 0) : Type 0 where
      pub entry : get_or es (length older % most) Y.bare ≡ Y.entry_of (after s older) c
      pub taken : Y.accepts (after s older) c ≡ true
      pub rest : R

    abbrev pub Held : List Y.Entry → ℕ → List Call → Type 0
    Held es zero calls = zero ≡ zero
    Held es (suc d) [] = ⊥
    Held es (suc d) (c ∷ older) = Newest es c older (Held es d older)

    -- a slot that none of them has may be written
    held_set :
        (es : List Y.Entry) (e : Y.Entry) (l d : ℕ) (calls : List Call) → length calls ≤ l → l + d < length calls + most
        → Held es d calls → Held (set es (l % most) e) d calls
    held_set es e l zero calls low high h = refl
    held_set es e l (suc d) [] low high h = absurd h
    held_set es e l (suc d) (c ∷ older) low high h =
        record {
          entry =
              get_or-set_other es (l % most) (length older % most) e Y.bare
              (apart (length older) l (omega arith) (omega arith))
              ∙ h.entry;
          taken = h.taken;
          rest = held_set es e l d older (omega arith) (omega arith) h.rest;
        }

    -- and the oldest may be let go
    held_less : (es : List Y.Entry) (d : ℕ) (calls : List Call) → Held es (suc d) calls → Held es d calls
    held_less es zero calls h = refl
    held_less es (suc d) [] h = absurd h
    held_less es (suc d) (c ∷ older) h =
        record { entry = h.entry; taken = h.taken; rest = held_less es d older h.rest }

    pub record Follows (h : Hist) (k : Pile) : Type 0 where
      pub state : h.state ≡ after s k.calls
      pub depth : h.depth ≡ k.depth
      pub within : k.depth ≤ most
      pub top : h.top ≡ length k.calls % most
      pub rooms : length h.entries ≡ most
      pub held : Held h.entries k.depth k.calls

    -- ---- an event

    held_push :
        (es : List Y.Entry) (d : ℕ) (c : Call) (calls : List Call) (o : Bool) → ltb d most ≡ o → d ≤ most
        → length es ≡ most → Y.accepts (after s calls) c ≡ true → Held es d calls
        → Held (set es (length calls % most) (Y.entry_of (after s calls) c)) (cond o (suc d) d) (c ∷ calls)
    held_push es d c calls true e within rooms taken h =
        let slot = slot_in (length calls) in
        let less = ltb-true d most e in
        record {
          entry = get_or-set_same es (length calls % most) _ Y.bare (omega arith);
          taken = taken;
          rest = held_set es _ (length calls) d calls (omega arith) (omega arith) h;
        }
    held_push es zero c calls false e within rooms taken h =
        absurd (let f = ltb-false 0 most e in omega arith)
    held_push es (suc d) c calls false e within rooms taken h =
        let slot = slot_in (length calls) in
        record {
          entry = get_or-set_same es (length calls % most) _ Y.bare (omega arith);
          taken = taken;
          rest = held_set es _ (length calls) d calls (omega arith) (omega arith) (held_less es d calls h);
        }

    within_after : (d : ℕ) (b : Bool) → ltb d most ≡ b → d ≤ most → cond b (d + 1) d ≤ most
    within_after d true e h = let less = ltb-true d most e in omega arith
    within_after d false e h = h

    push_follows :
        (h : Hist) (k : Pile) (c : Call) → Y.accepts (after s k.calls) c ≡ true → Follows h k
        → Follows (pushed h c) (onto k c)
    unfolding pushed after
    push_follows h k c taken f =
        record {
          state = ap (λ x. Y.step x c) f.state;
          depth = ap deeper f.depth;
          within = within_after k.depth (ltb k.depth most) refl f.within;
          top = ap next f.top ∙ next_slot (length k.calls);
          rooms = length-set h.entries h.top (Y.entry_of h.state c) ∙ f.rooms;
          held =
              rw (f.top, f.state, add-one k.depth)
              (held_push h.entries k.depth c k.calls (ltb k.depth most) refl f.within f.rooms taken f.held);
        }

    -- ---- an undo

    pop_follows :
        (h : Hist) (calls : List Call) (d : ℕ) → eqb d 0 ≡ false → Follows h (record { calls = calls; depth = d })
        → Follows (popped h) (record { calls = but_newest calls; depth = shallower d })
    unfolding popped after
    pop_follows h calls zero e f = absurd (eqb-false 0 0 e refl)
    pop_follows h [] (suc d) e f = absurd f.held
    pop_follows h (c ∷ older) (suc d) e f =
        let slot : previous h.top ≡ length older % most = ap previous f.top ∙ last_slot (length older) in
        let within = f.within in
        record {
          state =
              (λ i. Y.restored (f.state i) (get_or h.entries (slot i) Y.bare))
              ∙ ap (Y.restored (after s (c ∷ older))) f.held.entry
              ∙ Y.home (after s older) c;
          depth = ap shallower f.depth;
          within = omega arith;
          top = slot;
          rooms = f.rooms;
          held = subst (λ m. Held h.entries m older) (sym (less_one d)) f.held.rest;
        }

    -- ---- a call

    pub call_follows : (h : Hist) (k : Pile) (c : Call) → Follows h k → Follows (goes h c) (told s k c)
    unfolding goes told
    call_follows h k c f =
        by (Y.undo c) (eqb h.depth 0) (eqb k.depth 0) (Y.accepts h.state c) (Y.accepts (after s k.calls) c)
        (ap (λ d. eqb d 0) f.depth) refl (ap (λ x. Y.accepts x c) f.state) refl
      where
        by :
            (u a b x y : Bool) → a ≡ b → eqb k.depth 0 ≡ b → x ≡ y → Y.accepts (after s k.calls) c ≡ y
            → Follows (cond u (cond a h (popped h)) (cond x (pushed h c) h)) (cond u (cond b k (off k)) (cond y (onto k c) k))
        by true a true x y e g o t = rw e f
        by true a false x y e g o t = rw e (pop_follows h k.calls k.depth g f)
        by false a b x true e g o t = rw o (push_follows h k c t f)
        by false a b x false e g o t = rw o f

    -- the fresh journal follows the empty pile
    pub begins : Follows (record { state = s; entries = replicate most Y.bare; top = 0; depth = 0 }) nothing
    unfolding after
    begins =
        record { state = refl; depth = refl; within = omega arith; top = refl; rooms = length-replicate most Y.bare; held = refl }
