-- What becomes of the rows that a step does not write, when the ghosts change. The ghosts fall in two halves: the
-- queue's (gone, served, who, linked, releaser) and the fences' (fencer, lagged, peeked). A step changes few of them,
-- and each row's clauses ask only for what changed of its own.
--     moved, refenced      a ghost with its first, or its second half replaced
--     queued_map           to stay in the queue
--     pass_fit             a row under a changed first half
--     refence_fit          a row under a changed second half
--     fenced_same, manned_same     a row of which the fences say the same
--     fencing_map          a row whose fencing stays
--     owner                who made a join that is still in the queue is in the queue
--     books_pop            the books when one goes from the front
use Prim.Native.Nat.{ℕ, suc, ◌<◌, ◌≤◌}
use mathlib.Core.Path.{◌≡◌, refl, sym, ap, ◌∙◌}
use mathlib.Core.Bool.{Bool, true, false, ◌||◌, cond}
use mathlib.Core.Logic.{◌≢◌}
use native.Mathlib.Omega.{arith}
use Rattle.lock.specs.State.{is_none}
use Rattle.lock.proofs.Ground.Facts.{Role, out, raw, wait, tok, rel, lag, Facts}
use Rattle.lock.proofs.Order.Tickets.{Tickets}
use Rattle.lock.proofs.Order.Roles.{is_queued}
use Rattle.lock.proofs.Order.Statement.{Ghost, Books, Linked, Queued, Raw, Wait, Tok, Rel, Lag, Duty, given_map, Fencing, Fenced, peeking_map, Fit}

abbrev pub moved : Ghost → (a u : ℕ) → (ℕ → ℕ) → (ℕ → Bool) → ℕ → Ghost
moved G a u J W r =
    record { gone = a; served = u; who = J; linked = W; releaser = r; fencer = G.fencer; lagged = G.lagged; peeked = G.peeked }

abbrev pub refenced : Ghost → (ℕ → ℕ) → (ℕ → Bool) → (ℕ → ℕ) → Ghost
refenced G F K Z =
    record {
      gone = G.gone;
      served = G.served;
      who = G.who;
      linked = G.linked;
      releaser = G.releaser;
      fencer = F;
      lagged = K;
      peeked = Z;
    }

-- the books do not look at the fences
pub refence_books :
    {g : Tickets} {G : Ghost} {t : ℕ} (F : ℕ → ℕ) (K : ℕ → Bool) (Z : ℕ → ℕ) → Books g G t
    → Books g (refenced G F K Z) t
refence_books F K Z b =
    record { low = b.low; least = b.least; most = b.most; known = b.known; past = b.past; empty = b.empty; last = b.last }

pub queued_map :
    {g h : Tickets} {G H : Ghost} {q next : ℕ} → Queued g G q next → h.latest q ≡ g.latest q → H.gone ≤ g.latest q
    → g.count ≤ h.count
    → ((i : ℕ) → i < g.count → H.who i ≡ G.who i)
    → ((i : ℕ) → i < g.count → G.linked i ≡ true → H.linked i ≡ true)
    → Queued h H q next
queued_map {g} {h} {G} {H} {q} {next} u same low grows who done =
    record {
      low = rw same low;
      high = let a = u.high in rw same (omega arith);
      mine = ap H.who same ∙ who (g.latest q) u.high ∙ u.mine;
      chain =
          λ d.
          let c = u.chain d in
          let at : suc (h.latest q) ≡ suc (g.latest q) = ap suc same in
          record {
            below = let b = c.below in omega arith;
            made = c.made ∙ sym (ap H.who at ∙ who (suc (g.latest q)) c.below);
            done = ap H.linked at ∙ done (suc (g.latest q)) c.below c.done;
          };
    }

-- who made a join stays
abbrev pub passed : Ghost → (a u : ℕ) → (ℕ → Bool) → ℕ → Ghost
passed G a u W r = moved G a u G.who W r

-- the books when one goes from the front and others stay behind it
pub books_pop :
    {g : Tickets} {G : Ghost} {t : ℕ} (u : ℕ) (W : ℕ → Bool) (r : ℕ) → Books g G t → suc G.gone < g.count
    → suc G.gone ≤ u → u ≤ suc (suc G.gone) → Books g (passed G (suc G.gone) u W r) t
books_pop {g} {G} u W r b more least most =
    record {
      low = omega arith;
      least = least;
      most = most;
      known = λ i low high. b.known i (omega arith) high;
      past = b.past;
      empty = λ z. absurd (let k = b.empty z in omega arith);
      last = λ z. (more, (b.last z).1);
    }

-- what a change of the first half asks of each role, for q to keep its clauses
pub record Asks (g : Tickets) (G : Ghost) (a u : ℕ) (W : ℕ → Bool) (r q next heir : ℕ) : Type 0 where
  pub raws : Raw g G q next → (W (g.latest q) ≡ false) × (a < g.latest q) × (u ≤ g.latest q)
  pub waits : Wait g G q next → (a ≤ g.latest q) × (u ≤ g.latest q)
  pub toks : Tok g G q next → (a ≤ g.latest q) × (g.latest q < u)
  pub rels : Rel g G q heir → (u ≡ a) × (q ≡ r) × Linked g (passed G a u W r) a heir

module _ (g : Tickets) (G : Ghost) (a u : ℕ) (W : ℕ → Bool) (r : ℕ) (more : G.gone ≤ a) (linked : (i : ℕ) → G.linked i ≡ true → W i ≡ true) where
  stay : {q next : ℕ} → Queued g G q next → a ≤ g.latest q → Queued g (passed G a u W r) q next
  stay v low = queued_map v refl low (omega arith) (λ i b. refl) (λ i b. linked i)

  pub pass :
      (ρ : Role) (q next succ heir : ℕ) → Asks g G a u W r q next heir → Duty ρ g G q next succ heir
      → Duty ρ g (passed G a u W r) q next succ heir
  pass out q next succ heir k d = λ x y z. d (omega arith) y z
  pass raw q next succ heir k d =
      let w = k.raws d in
      let low : a < g.latest q = w.1 in
      record { queued = stay d.queued (omega arith); unlinked = w.0; later = low; behind = w.2 }
  pass wait q next succ heir k d =
      let w = k.waits d in
      record { queued = stay d.queued w.0; done = linked (g.latest q) d.done; behind = w.1 }
  pass tok q next succ heir k d = let w = k.toks d in record { queued = stay d.queued w.0; first = w.1 }
  pass rel q next succ heir k d =
      let w = k.rels d in
      record { away = λ x y z. d.away (omega arith) y z; handing = w.0; only = w.1; front = w.2 }
  pass lag q next succ heir k d = record {
    away = λ x y z. d.away
        (omega arith) y z;
    fenced = d.fenced;
    parked = d.parked;
  }

  pub pass_fit :
      {e q : ℕ} {st : Facts} {l next pred succ nx : ℕ} {guard : Bool}
      → Asks g G a u W r q next (cond st.lifts nx succ)
      → Fit e g G q st l next pred succ nx guard → Fit e g (passed G a u W r) q st l next pred succ nx guard
  pass_fit {q = q} {st = st} {l = l} {next = next} {succ = succ} {nx = nx} k f =
      record {
        small = f.small;
        settles = f.settles;
        duty = pass (st.role l (is_none nx)) q next succ (cond st.lifts nx succ) k f.duty;
        joins = given_map st.joining (λ b j i x y. j i x (omega arith)) f.joins;
        blank = f.blank;
        fencing = f.fencing;
        peeking = f.peeking;
        shut = f.shut;
        fenced = f.fenced;
        manned = f.manned;
      }

requeue :
    {g : Tickets} {G : Ghost} {F : ℕ → ℕ} {K : ℕ → Bool} {Z : ℕ → ℕ} {q next : ℕ} → Queued g G q next
    → Queued g (refenced G F K Z) q next
requeue v = queued_map v refl v.low (omega arith) (λ i b. refl) (λ i b h. h)

-- a row of which the fences say the same
pub fenced_same :
    (G : Ghost) (F : ℕ → ℕ) (K : ℕ → Bool) (Z : ℕ → ℕ) (q l next : ℕ) (guard : Bool) → F q ≡ G.fencer q
    → K q ≡ G.lagged q
    → Z q ≡ G.peeked q → (G.fencer q ≢ 0 → Fenced (G.lagged q) (G.peeked q) l next guard) → F q ≢ 0
    → Fenced (K q) (Z q) l next guard
fenced_same G F K Z q l next guard f k z w d =
    let u = w (λ o. d (f ∙ o)) in
    record { set = u.set; still = λ b. u.still (sym k ∙ b); kept = λ n. u.kept (λ o. n (z ∙ o)) ∙ sym z }

pub manned_same :
    {e a b : ℕ} {guard : Bool} → b ≡ a → (guard ≡ true → (e ≢ 0) × (a ≢ 0)) → guard ≡ true → (e ≢ 0) × (b ≢ 0)
manned_same s m k = ((m k).0, λ n. (m k).1 (sym s ∙ n))

-- a row whose fencing stays, when fences change elsewhere
pub fencing_map :
    (b : Bool) (F E : ℕ → ℕ) (q succ : ℕ) → (b ≡ true → F succ ≡ suc q → E succ ≡ suc q)
    → ((x : ℕ) → E x ≡ suc q → F x ≡ suc q)
    → Fencing b F q succ → Fencing b E q succ
fencing_map true F E q succ on back w = (on refl w.0, w.1, λ x k. w.2 x (back x k))
fencing_map false F E q succ on back w = λ x k. w x (back x k)

module _ (g : Tickets) (G : Ghost) (F : ℕ → ℕ) (K : ℕ → Bool) (Z : ℕ → ℕ) where
  -- a role's duty under other fences: only who lags looks at them
  pub refence :
      (ρ : Role) (q next succ heir : ℕ) → (Lag g G q succ → (F succ ≡ suc q) × (K succ ≡ true))
      → Duty ρ g G q next succ heir
      → Duty ρ g (refenced G F K Z) q next succ heir
  refence out q next succ heir la d = d
  refence raw q next succ heir la d =
      record { queued = requeue d.queued; unlinked = d.unlinked; later = d.later; behind = d.behind }
  refence wait q next succ heir la d = record { queued = requeue d.queued; done = d.done; behind = d.behind }
  refence tok q next succ heir la d = record { queued = requeue d.queued; first = d.first }
  refence rel q next succ heir la d =
      record {
        away = d.away;
        handing = d.handing;
        only = d.only;
        front = record { below = d.front.below; made = d.front.made; done = d.front.done };
      }
  refence lag q next succ heir la d = let w = la d in record { away = d.away; fenced = w.0; parked = w.1 }

  pub refence_fit :
      {e q : ℕ} {st : Facts} {l next pred succ nx : ℕ} {guard old : Bool}
      → (Lag g G q succ → (F succ ≡ suc q) × (K succ ≡ true))
      → (Fencing st.fences G.fencer q succ → Fencing st.fences F q succ)
      → (st.takes || st.lifts ≡ true → Z succ ≡ G.peeked succ)
      → (guard ≡ true → st.opens ≡ true)
      → (F q ≢ 0 → Fenced (K q) (Z q) l next guard)
      → (guard ≡ true → (e ≢ 0) × (F q ≢ 0))
      → Fit e g G q st l next pred succ nx old → Fit e g (refenced G F K Z) q st l next pred succ nx guard
  refence_fit {q = q} {st = st} {l = l} {next = next} {succ = succ} {nx = nx} la fe pe sh fd mn f =
      record {
        small = f.small;
        settles = f.settles;
        duty = refence (st.role l (is_none nx)) q next succ (cond st.lifts nx succ) la f.duty;
        joins = f.joins;
        blank = f.blank;
        fencing = fe f.fencing;
        peeking = peeking_map st.takes st.lifts succ nx pe f.peeking;
        shut = sh;
        fenced = fd;
        manned = mn;
      }

-- who made a join that is still in the queue is in the queue
pub owner :
    {g : Tickets} {G : Ghost} (ρ : Role) (q next succ heir : ℕ) → G.gone ≤ g.latest q → g.latest q < g.count
    → G.who (g.latest q) ≡ q → Duty ρ g G q next succ heir → Queued g G q next × (is_queued ρ ≡ true)
owner out q next succ heir a b c d = absurd (d a b c)
owner raw q next succ heir a b c d = (d.queued, refl)
owner wait q next succ heir a b c d = (d.queued, refl)
owner tok q next succ heir a b c d = (d.queued, refl)
owner rel q next succ heir a b c d = absurd (d.away a b c)
owner lag q next succ heir a b c d = absurd (d.away a b c)
