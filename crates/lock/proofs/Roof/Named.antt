-- Only one answer says what an answer says, and only one thing goes by a number.
--     apart                        what has a number and can be told from it is told apart by it
--     one_says, one_named          the laws of specs/Unique
use Prim.Native.Nat.{ℕ, ◌<◌}
use mathlib.Core.Path.{◌≡◌, refl, sym, ap, ◌∙◌}
use mathlib.Core.List.{[], ◌∷◌}
use lib.ListN.{get_or}
use native.Mathlib.Omega.{arith}
use Rattle.std.proofs.Common.{Result, Ok, Err, lit<}
use Rattle.lock.specs.declared.LockState.{LockState}
use Rattle.lock.specs.declared.Edition.{Edition}
use Rattle.lock.specs.declared.Edition.TheVariants.{Plain, Drawn, Guarded, Old}
use Rattle.lock.specs.declared.Event.{Event}
use Rattle.lock.specs.declared.Event.TheVariants.{Step, Raise}
use Rattle.lock.specs.declared.places.Place.{Place}
use Rattle.lock.specs.declared.places.Place.TheVariants.{Rest, Gate, Clear, Swap, Arm, Link, Claim, Spin, Settle, Inside, Poll, Service, Back, Regain, Look, Close, Await, Hand, Fence, Park, Peek, Take, Lift, OldTry, OldPoll, OldService, OldFree, Reread, Lost}
use Rattle.lock.specs.declared.places.NoPlace.{NoPlace}
use Rattle.lock.specs.declared.Refusal.{Refusal}
use Rattle.lock.specs.declared.Refusal.TheVariants.{UnknownEdition, ProcessorCount, UnknownEvent, NoSuchProcessor, Unsound}
use Rattle.lock.specs.declared.Refused.{Refused}
use Rattle.lock.proofs.Ground.Editions.{edition_below}
use Rattle.lock.specs.Event.{Answer}
use Rattle.lock.specs.State.{editions}
use Rattle.lock.specs.Sound.{places}
use Rattle.lock.specs.Named.{edition_number, place_number, refusal_number, NamesEdition, NamesEvent, NamesPlace}
use Rattle.lock.specs.Unique.{OnlyOneSays, OnlyOneNamed}

apart : {A : Type 0} (number : A → ℕ) (back : ℕ → A) → ((x : A) → back (number x) ≡ x) → (a b : A) → number a ≡ number b → a ≡ b
apart number back same a b e = sym (same a) ∙ ap back e ∙ same b

-- ---- editions

edition_back : ℕ → Edition
edition_back k = get_or (Plain ∷ Drawn ∷ Guarded ∷ Old ∷ []) k Plain

edition_same : (e : Edition) → edition_back (edition_number e) ≡ e
unfolding edition_back
edition_same Plain = refl
edition_same Drawn = refl
edition_same Guarded = refl
edition_same Old = refl

one_edition : (k : ℕ) (a b : Result Edition Refusal) → NamesEdition k a → NamesEdition k b → a ≡ b
one_edition k (Ok e) (Ok f) p q = ap Ok (apart edition_number edition_back edition_same e f (sym p ∙ q))
one_edition k (Ok e) (Err r) p q = let small : edition_number e < editions = edition_below e in absurd (omega (arith, p, q.1, small))
one_edition k (Err r) (Ok f) p q = let small : edition_number f < editions = edition_below f in absurd (omega (arith, q, p.1, small))
one_edition k (Err r) (Err s) p q = ap Err (p.0 ∙ sym q.0)

-- ---- events

one_event : (k : ℕ) (a b : Result Event Refusal) → NamesEvent k a → NamesEvent k b → a ≡ b
one_event k (Ok Step) (Ok Step) p q = refl
one_event k (Ok Raise) (Ok Raise) p q = refl
one_event k (Ok Step) (Ok Raise) p q = absurd (omega (arith, p, q))
one_event k (Ok Raise) (Ok Step) p q = absurd (omega (arith, p, q))
one_event k (Ok Step) (Err r) p q = absurd (q.1 p)
one_event k (Ok Raise) (Err r) p q = absurd (q.2 p)
one_event k (Err r) (Ok Step) p q = absurd (p.1 q)
one_event k (Err r) (Ok Raise) p q = absurd (p.2 q)
one_event k (Err r) (Err s) p q = ap Err (p.0 ∙ sym q.0)

-- ---- places

place_back : ℕ → Place
place_back k = get_or (Rest ∷ Gate ∷ Clear ∷ Swap ∷ Arm ∷ Link ∷ Claim ∷ Spin ∷ Settle ∷ Inside ∷ Poll ∷ Service ∷ Back ∷ Regain ∷ Look ∷ Close ∷ Await ∷ Hand ∷ Fence ∷ Park ∷ Peek ∷ Take ∷ Lift ∷ OldTry ∷ OldPoll ∷ OldService ∷ OldFree ∷ Reread ∷ Lost ∷ []) k Rest

place_same : (place : Place) → place_back (place_number place) ≡ place
unfolding place_back
place_same Rest = refl
place_same Gate = refl
place_same Clear = refl
place_same Swap = refl
place_same Arm = refl
place_same Link = refl
place_same Claim = refl
place_same Spin = refl
place_same Settle = refl
place_same Inside = refl
place_same Poll = refl
place_same Service = refl
place_same Back = refl
place_same Regain = refl
place_same Look = refl
place_same Close = refl
place_same Await = refl
place_same Hand = refl
place_same Fence = refl
place_same Park = refl
place_same Peek = refl
place_same Take = refl
place_same Lift = refl
place_same OldTry = refl
place_same OldPoll = refl
place_same OldService = refl
place_same OldFree = refl
place_same Reread = refl
place_same Lost = refl

place_below : (place : Place) → place_number place < places
place_below Rest = lit< tt
place_below Gate = lit< tt
place_below Clear = lit< tt
place_below Swap = lit< tt
place_below Arm = lit< tt
place_below Link = lit< tt
place_below Claim = lit< tt
place_below Spin = lit< tt
place_below Settle = lit< tt
place_below Inside = lit< tt
place_below Poll = lit< tt
place_below Service = lit< tt
place_below Back = lit< tt
place_below Regain = lit< tt
place_below Look = lit< tt
place_below Close = lit< tt
place_below Await = lit< tt
place_below Hand = lit< tt
place_below Fence = lit< tt
place_below Park = lit< tt
place_below Peek = lit< tt
place_below Take = lit< tt
place_below Lift = lit< tt
place_below OldTry = lit< tt
place_below OldPoll = lit< tt
place_below OldService = lit< tt
place_below OldFree = lit< tt
place_below Reread = lit< tt
place_below Lost = lit< tt

one_place : (k : ℕ) (a b : Result Place NoPlace) → NamesPlace k a → NamesPlace k b → a ≡ b
one_place k (Ok e) (Ok f) p q = ap Ok (apart place_number place_back place_same e f (sym p ∙ q))
one_place k (Ok e) (Err r) p q = let small : place_number e < places = place_below e in absurd (omega (arith, p, q, small))
one_place k (Err r) (Ok f) p q = let small : place_number f < places = place_below f in absurd (omega (arith, q, p, small))
one_place k (Err r) (Err s) p q = refl

pub one_named : OnlyOneNamed
one_named =
    record {
      of_edition_number = λ e. λ a b i j. i ∙ sym j;
      of_event_number = λ e. λ a b i j. i ∙ sym j;
      of_locked_number = λ v. λ a b i j. i ∙ sym j;
      of_place_number = λ place. λ a b i j. i ∙ sym j;
      of_refusal_number = λ r. λ a b i j. i ∙ sym j;
      of_edition = one_edition;
      of_event = one_event;
      of_place = one_place;
    }

-- ---- refusals

refusal_back : ℕ → Refusal
refusal_back k =
    get_or
    (Unsound ∷ Unsound ∷ Unsound ∷ Unsound ∷ Unsound ∷ Unsound ∷ UnknownEdition ∷ ProcessorCount ∷ UnknownEvent ∷ NoSuchProcessor ∷ [])
    k Unsound

refusal_same : (r : Refusal) → refusal_back (refusal_number r) ≡ r
unfolding refusal_back
refusal_same UnknownEdition = refl
refusal_same ProcessorCount = refl
refusal_same UnknownEvent = refl
refusal_same NoSuchProcessor = refl
refusal_same Unsound = refl

-- no refusal is 0
refusal_above : (r : Refusal) → 0 < refusal_number r
refusal_above UnknownEdition = lit< tt
refusal_above ProcessorCount = lit< tt
refusal_above UnknownEvent = lit< tt
refusal_above NoSuchProcessor = lit< tt
refusal_above Unsound = lit< tt

accepted_is_none : (r : Refusal) → 0 ≡ refusal_number r → {A : Type 0} → A
accepted_is_none r e = let above : 0 < refusal_number r = refusal_above r in absurd (omega (arith, e, above))

one_refused : (r q : Refused) → r.refusal ≡ q.refusal → r.state ≡ q.state → r ≡ q
one_refused r q e f =
    ap (λ (a : Refusal). record { refusal = a; state = r.state }) e ∙ ap (λ (s : LockState). record { refusal = q.refusal; state = s }) f

pub one_says : OnlyOneSays
one_says (Ok s) (Ok t) e = ap Ok (ap (λ (a : Answer). a.state) e)
one_says (Ok s) (Err r) e = accepted_is_none r.refusal (ap (λ (a : Answer). a.refusal) e)
one_says (Err r) (Ok s) e = accepted_is_none r.refusal (sym (ap (λ (a : Answer). a.refusal) e))
one_says (Err r) (Err q) e =
    ap Err
    (one_refused r q (apart refusal_number refusal_back refusal_same r.refusal q.refusal (ap (λ (a : Answer). a.refusal) e))
    (ap (λ (a : Answer). a.state) e))
