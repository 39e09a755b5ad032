-- Whose row an accepted call's answer names: the call's own processor, or that of the event that an undo takes back.
--     last_append          the last of some calls and one more
--     newest_is            the newest entry is of the newest call of the pile
--     names                an accepted answer, by the tests of an event in their order
--     names_the_undone     the claim
use Rattle.std.proofs.Common.{◌≡◌, ℕ, zero, suc, ◌%◌, true, false, cond, not, ◌&&◌, eqb, List, [], ◌∷◌, ◌++◌, length, get_or, sym, refl, ap, ◌∙◌, arith}
use Rattle.std.proofs.lemmas.Bool.{eqb-false, not-false}
use Rattle.choice.proofs.Tests.{by_test}
use Rattle.lock.specs.declared.LockState.{LockState}
use Rattle.lock.specs.Event.{Answer}
use Rattle.lock.specs.State.{fresh_state}
use Rattle.lock.specs.Event.{carried}
use Rattle.lock.specs.Run.{Call}
use Rattle.lock.proofs.Roof.Callers.{range_whole}
use Rattle.history.specs.declared.History.{History}
use Rattle.history.specs.Event.{Outcome}
use Rattle.history.specs.Journal.{most, previous, empty_entry, entry_of, newest}
use Rattle.history.specs.Event.{unwritten, is_undo, is_whole, brings_back, stepped_back, undone, recorded, goes}
use Rattle.history.specs.Survivors.{Pile, nothing, oldest_first, takes_back, piled, survivors, last_of, walk}
use Rattle.history.specs.Claims.{NamesTheUndone}
use Rattle.history.proofs.AnyState as Any
use Rattle.history.proofs.Following.{Follows, starts}
use Rattle.history.proofs.Claimed.{walk_follows}

last_append : (xs : List Call) (c : Call) → last_of (xs ++ (c ∷ [])) ≡ c.processor
unfolding last_of
last_append [] c = refl
last_append (x ∷ []) c = refl
last_append (x ∷ y ∷ xs) c = last_append (y ∷ xs) c

module _ (s : LockState) (h : History) where
  newest_is :
      (calls : List Call) (d : ℕ) → eqb d 0 ≡ false → Follows s h (record { calls = calls; depth = d })
      → (newest h.journal).processor ≡ last_of (oldest_first calls)
  unfolding newest entry_of oldest_first
  newest_is calls zero e f = absurd (eqb-false 0 0 e refl)
  newest_is [] (suc d) e f = absurd f.held
  newest_is (c ∷ older) (suc d) e f =
      let slot : previous h.journal.top ≡ length older % most = ap previous f.top ∙ Any.last_slot (length older) in
      ap (λ m. (get_or h.journal.entries m empty_entry).processor) slot ∙ ap (λ x. x.processor) f.held.entry
      ∙ sym (last_append (oldest_first older) c)

  module _ (k : Pile) (f : Follows s h k) (c : Call) where
    abbrev undone_by : ℕ
    undone_by = last_of (oldest_first k.calls)

    -- the answer names it, where it is accepted
    abbrev Names : Outcome → Type 0
    Names o = o.refusal ≡ 0 → o.processor ≡ cond (takes_back c) undone_by c.processor

    undo_names : is_undo c.event ≡ true → Names (undone h c.processor)
    unfolding undone stepped_back
    undo_names u =
        by_test Names (not (eqb c.processor 0)) (λ _ z. absurd (omega arith))
        (λ n.
        by_test Names (eqb h.journal.depth 0) (λ _ z. absurd (omega arith))
        (λ d.
        by_test Names (brings_back h.lock (newest h.journal))
        (λ _ _.
        newest_is k.calls k.depth (sym (ap (λ m. eqb m 0) f.depth) ∙ d) f
        ∙ sym (λ i. cond (u i && not-false (eqb c.processor 0) n i) undone_by c.processor))
        (λ _ z. absurd (omega arith))))

    event_names : (a : Answer) → is_undo c.event ≡ false → Names (recorded h c.processor a)
    unfolding recorded
    event_names a u =
        by_test Names (eqb a.refusal 0)
        (λ _ _. sym (ap (λ b. cond (b && eqb c.processor 0) undone_by c.processor) u))
        (λ t z. absurd (eqb-false a.refusal 0 t z))

    pub names : Names (goes h c.event c.processor)
    unfolding goes
    names =
        by_test Names (not (is_whole h)) (λ _ z. absurd (omega arith))
        (λ _.
        by_test Names (is_undo c.event) undo_names
        (event_names (carried h.lock c.event c.processor)))

pub names_the_undone : NamesTheUndone
unfolding survivors
names_the_undone e n before c range =
    let s = fresh_state e n in
    names s (walk (unwritten s) before) (piled s nothing before)
    (walk_follows s (range_whole e n range) (unwritten s) nothing before (starts s)) c
