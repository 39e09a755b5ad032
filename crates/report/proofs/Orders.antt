-- What specs/Order claims. A schedule that is not refused passes tests in which the table has no part, its counts fit, and the
-- table is raised by them; so all is said by sums of counts.
--     any_order               two neighbours in the other order: the same sums
--     parts_add_up            from a table, and from none: the difference stays
--     refused_adds_nothing    by the three tests
-- Assumes nothing.
use Prim.Native.Nat.{ℕ, ◌+◌, ◌≤◌, ◌<◌}
use native.Mathlib.Omega.{arith}
use mathlib.Core.Path.{◌≡◌, refl, sym, ap, ◌∙◌, subst}
use mathlib.Core.Logic.{◌≢◌}
use mathlib.Core.Bool.{Bool, true, false, cond, not, ◌&&◌}
use mathlib.Core.List.{List, [], ◌∷◌, ◌++◌}
use lib.ListN.{length, get_or, take, drop, replicate, get_or-replicate}
use lib.Dec.{eqb, ltb}
use borrow.Author.Tests.{eq-eqb, ne_eqb, leb-true, le-leb}
use Rattle.choice.proofs.Numbers.{every_at, every_from}
use Rattle.choice.proofs.Tests.{clash, and_left, and_right}
use Rattle.lock.specs.State.{processors}
use Rattle.bench.specs.Bridge.{processors_of}
use Rattle.bench.specs.Verdict.{verdict_of}
use Rattle.report.specs.Table.{Reported}
use Rattle.report.specs.Report.{Measured}
use Rattle.report.specs.declared.Tally.{Tally}
use Rattle.report.specs.Table.{upto, greatest, Counts, cell, holds, raised, counts_added, added_to}
use Rattle.report.specs.Report.{charges_of, reported_of, unmeasured, laid_down, measured_of, rows_after}
use Rattle.report.specs.Order.{Given, report_of, none_refused, table_after, no_counts}
use Rattle.report.specs.Order.{Rearranged, AnyOrder, PartsAddUp, RefusedAddsNothing}
use Rattle.report.proofs.Upto.{upto_at, upto_same}

-- ---- one schedule

-- the report by its three tests: nothing is refused in the schedule, too few rows are lent, the counts fit
module _ (text : List ℕ) (table : List (List ℕ)) where
  abbrev raised_by : Reported
  raised_by = record { refusal = 0; line = 0; table = raised table (charges_of text) }

  abbrev judged : Bool → Bool → Bool → Reported
  judged accepted few fits =
      cond accepted
      (cond few (record { refusal = 13; line = 0; table = table })
      (cond fits raised_by (record { refusal = 12; line = 0; table = table })))
      (record { refusal = (verdict_of text).refusal; line = (verdict_of text).line; table = table })

  judged_raised :
      (accepted few fits : Bool) → (accepted && not few) ≡ true → fits ≡ true → judged accepted few fits ≡ raised_by
  judged_raised true false true e h = refl
  judged_raised true false false e h = clash h refl
  judged_raised true true fits e h = clash e refl
  judged_raised false few fits e h = clash e refl

  judged_passed :
      (accepted few fits : Bool) → eqb (verdict_of text).refusal 0 ≡ accepted
      → eqb (judged accepted few fits).refusal 0 ≡ true → ((accepted && not few) ≡ true) × (fits ≡ true)
  judged_passed true false true e h = (refl, refl)
  judged_passed true false false e h = clash h refl
  judged_passed true true fits e h = clash h refl
  judged_passed false few fits e h = clash h e

  judged_stays :
      (accepted few fits : Bool) → (judged accepted few fits).refusal ≢ 0 → (judged accepted few fits).table ≡ table
  judged_stays true false true h = absurd (h refl)
  judged_stays true false false h = refl
  judged_stays true true fits h = refl
  judged_stays false few fits h = refl

-- the tests in which the table has no part
abbrev is_accepted : List ℕ → Bool
is_accepted text = eqb (verdict_of text).refusal 0

abbrev are_few : List ℕ → ℕ → Bool
are_few text lent = ltb lent (processors_of text)

abbrev pub passes : Given → Bool
passes g = is_accepted g.text && not (are_few g.text g.lent)

abbrev pub counts : Given → Counts
counts g = charges_of g.text

-- the first of a list is not refused, nor are the others after it
record Goes (table : List (List ℕ)) (g : Given) (more : List Given) : Type 0 where
  first : passes g ≡ true
  fits : holds table (counts g) ≡ true
  others : none_refused (raised table (counts g)) more ≡ true

module _ (table : List (List ℕ)) (g : Given) where
  told : passes g ≡ true → holds table (counts g) ≡ true → report_of table g ≡ raised_by g.text table
  unfolding reported_of counts_added
  told e h =
      judged_raised g.text table (is_accepted g.text) (are_few g.text g.lent) (holds table (counts g)) e h

  pub unrefused : eqb (report_of table g).refusal 0 ≡ true → (passes g ≡ true) × (holds table (counts g) ≡ true)
  unfolding reported_of counts_added
  unrefused h =
      judged_passed g.text table (is_accepted g.text) (are_few g.text g.lent) (holds table (counts g)) refl h

  -- counts that do not fit leave the table as it was
  pub not_added : holds table (counts g) ≡ false → (report_of table g).table ≡ table
  unfolding reported_of counts_added
  not_added h =
      judged_stays g.text table (is_accepted g.text) (are_few g.text g.lent) (holds table (counts g))
      (λ z. clash (unrefused (eq-eqb (report_of table g).refusal 0 z)).1 h)

  module _ (more : List Given) where
    pub table_then :
        passes g ≡ true → holds table (counts g) ≡ true
        → table_after table (g ∷ more) ≡ table_after (raised table (counts g)) more
    unfolding table_after
    table_then e h = ap (λ (r : Reported). table_after r.table more) (told e h)

    goes : none_refused table (g ∷ more) ≡ true → Goes table g more
    unfolding none_refused
    goes h =
        let rest : Bool = none_refused (report_of table g).table more in
        let own = unrefused (and_left (eqb (report_of table g).refusal 0) rest h) in
        record {
          first = own.0;
          fits = own.1;
          others =
              subst (λ (r : Reported). none_refused r.table more ≡ true) (told own.0 own.1)
              (and_right (eqb (report_of table g).refusal 0) rest h);
        }

    gone : Goes table g more → none_refused table (g ∷ more) ≡ true
    unfolding none_refused
    gone x =
        subst (λ (r : Reported). (eqb r.refusal 0 && none_refused r.table more) ≡ true)
        (sym (told x.first x.fits)) x.others

-- ---- cells

-- the table of these counts
abbrev table_of : Counts → List (List ℕ)
table_of f = upto processors (λ a. upto processors (f a))

raised_is :
    (t : List (List ℕ)) (f sums : Counts)
    → ((a b : ℕ) → a < processors → b < processors → cell t a b + f a b ≡ sums a b) → raised t f ≡ table_of sums
unfolding raised
raised_is t f sums h = upto_same _ _ processors (λ a la. upto_same _ _ processors (λ b lb. h a b la lb))

pub cell_raised :
    (t : List (List ℕ)) (f : Counts) (a b : ℕ) → a < processors → b < processors
    → cell (raised t f) a b ≡ cell t a b + f a b
unfolding raised cell
cell_raised t f a b la lb =
    ap (λ (r : List ℕ). get_or r b 0) (upto_at (λ x. upto processors (λ y. cell t x y + f x y)) processors a [] la)
    ∙ upto_at (λ y. cell t a y + f a y) processors b 0 lb

pub holds_at :
    (t : List (List ℕ)) (f : Counts) → holds t f ≡ true
    → (a b : ℕ) → a < processors → b < processors → cell t a b + f a b ≤ greatest
unfolding holds
holds_at t f e a b la lb = leb-true _ _ (every_at processors _ (every_at processors _ e a la) b lb)

pub holds_from :
    (t : List (List ℕ)) (f : Counts)
    → ((a b : ℕ) → a < processors → b < processors → cell t a b + f a b ≤ greatest) → holds t f ≡ true
unfolding holds
holds_from t f h = every_from processors _ (λ a la. every_from processors _ (λ b lb. le-leb _ _ (h a b la lb)))

-- ---- any order

-- two schedules, the one first or the other
module _ (t : List (List ℕ)) (f g : Counts) where
  swapped_raised : raised (raised t f) g ≡ raised (raised t g) f
  unfolding raised
  swapped_raised =
      raised_is (raised t f) g (λ a b. cell (raised t g) a b + f a b) (λ a b la lb.
      let one : cell (raised t f) a b ≡ cell t a b + f a b = cell_raised t f a b la lb in
      let other : cell (raised t g) a b ≡ cell t a b + g a b = cell_raised t g a b la lb in
      omega arith)

  second_first : holds (raised t f) g ≡ true → holds t g ≡ true
  second_first h =
      holds_from t g (λ a b la lb.
      let one : cell (raised t f) a b ≡ cell t a b + f a b = cell_raised t f a b la lb in
      let sum : cell (raised t f) a b + g a b ≤ greatest = holds_at (raised t f) g h a b la lb in
      omega arith)

  then_first : holds (raised t f) g ≡ true → holds (raised t g) f ≡ true
  then_first h =
      holds_from (raised t g) f (λ a b la lb.
      let one : cell (raised t f) a b ≡ cell t a b + f a b = cell_raised t f a b la lb in
      let other : cell (raised t g) a b ≡ cell t a b + g a b = cell_raised t g a b la lb in
      let sum : cell (raised t f) a b + g a b ≤ greatest = holds_at (raised t f) g h a b la lb in
      omega arith)

pub any_order : AnyOrder
any_order t _ _ Rearranged.none h = (h, refl)
any_order t _ _ (Rearranged.first g one other r) h =
    let x = goes t g one h in
    let more = any_order (raised t (counts g)) one other r x.others in (
      gone t g other (record { first = x.first; fits = x.fits; others = more.0 }),
      table_then t g one x.first x.fits ∙ more.1 ∙ sym (table_then t g other x.first x.fits),
    )
any_order t _ _ (Rearranged.swapped f g more) h =
    let x = goes t f (g ∷ more) h in
    let y = goes (raised t (counts f)) g more x.others in
    let now = second_first t (counts f) (counts g) y.fits in
    let then = then_first t (counts f) (counts g) y.fits in (
      gone t g (f ∷ more) (record {
        first = y.first;
        fits = now;
        others = gone (raised t (counts g)) f more (record {
          first = x.first;
          fits = then;
          others =
              subst (λ (s : List (List ℕ)). none_refused s more ≡ true) (swapped_raised t (counts f) (counts g)) y.others;
        });
      }),
      table_then t f (g ∷ more) x.first x.fits
          ∙ table_then (raised t (counts f)) g more y.first y.fits
          ∙ ap (λ (s : List (List ℕ)). table_after s more) (swapped_raised t (counts f) (counts g))
          ∙ sym (table_then (raised t (counts g)) f more x.first then)
          ∙ sym (table_then t g (f ∷ more) y.first now),
    )
any_order t _ _ (Rearranged.then one middle other r q) h =
    let x = any_order t one middle r h in
    let y = any_order t middle other q x.0 in
    (y.0, x.1 ∙ y.1)

-- ---- parts

none_append :
    (t : List (List ℕ)) (one other : List Given)
    → none_refused t (one ++ other) ≡ (none_refused t one && none_refused (table_after t one) other)
unfolding none_refused table_after
none_append t [] other = refl
none_append t (g ∷ one) other =
    ap (λ (b : Bool). eqb (report_of t g).refusal 0 && b) (none_append (report_of t g).table one other)
    ∙ by (eqb (report_of t g).refusal 0) (none_refused (report_of t g).table one) _
  where
    by : (x y z : Bool) → (x && (y && z)) ≡ ((x && y) && z)
    by true y z = refl
    by false y z = refl

after_append :
    (t : List (List ℕ)) (one other : List Given) → table_after t (one ++ other) ≡ table_after (table_after t one) other
unfolding table_after
after_append t [] other = refl
after_append t (g ∷ one) other = after_append (report_of t g).table one other

-- a table of 16 by 16 counts
record IsTable (t : List (List ℕ)) : Type 0 where
  shape : t ≡ table_of (cell t)
  within : (a b : ℕ) → a < processors → b < processors → cell t a b ≤ greatest

raised_is_table : (t : List (List ℕ)) (f : Counts) → holds t f ≡ true → IsTable (raised t f)
raised_is_table t f h = record {
  shape = raised_is t f (cell (raised t f)) (λ a b la lb. sym (cell_raised t f a b la lb));
  within = λ a b la lb. subst (λ (k : ℕ). k ≤ greatest) (sym (cell_raised t f a b la lb)) (holds_at t f h a b la lb);
}

after_is_table :
    (t : List (List ℕ)) (gs : List Given) → IsTable t → none_refused t gs ≡ true → IsTable (table_after t gs)
unfolding table_after
after_is_table t [] i h = i
after_is_table t (g ∷ gs) i h =
    let x = goes t g gs h in
    subst IsTable (sym (table_then t g gs x.first x.fits))
    (after_is_table (raised t (counts g)) gs (raised_is_table t (counts g) x.fits) x.others)

-- the cells of t are those of base and u, added
abbrev Sums : List (List ℕ) → List (List ℕ) → List (List ℕ) → Type 0
Sums base u t = (a b : ℕ) → a < processors → b < processors → cell t a b ≡ cell base a b + cell u a b

-- and after further schedules, none of them refused at t
record Apart (base u t : List (List ℕ)) (gs : List Given) : Type 0 where
  none : none_refused u gs ≡ true
  sums : Sums base (table_after u gs) (table_after t gs)

apart :
    (base u t : List (List ℕ)) (gs : List Given) → Sums base u t → none_refused t gs ≡ true → Apart base u t gs
unfolding none_refused table_after
apart base u t [] s h = record { none = refl; sums = s }
apart base u t (g ∷ gs) s h =
    let x = goes t g gs h in
    let fits : holds u (counts g) ≡ true =
    holds_from u (counts g) (λ a b la lb.
    let is : cell t a b ≡ cell base a b + cell u a b = s a b la lb in
    let all : cell t a b + counts g a b ≤ greatest = holds_at t (counts g) x.fits a b la lb in
    omega arith) in
    let rest = apart base (raised u (counts g)) (raised t (counts g)) gs (λ a b la lb.
    let is : cell t a b ≡ cell base a b + cell u a b = s a b la lb in
    let one : cell (raised u (counts g)) a b ≡ cell u a b + counts g a b = cell_raised u (counts g) a b la lb in
    let all : cell (raised t (counts g)) a b ≡ cell t a b + counts g a b = cell_raised t (counts g) a b la lb in
    omega arith) x.others in
    record {
      none = gone u g gs (record { first = x.first; fits = fits; others = rest.none });
      sums =
          subst (λ (v : List (List ℕ)). Sums base v (table_after t (g ∷ gs))) (sym (table_then u g gs x.first fits))
          (subst (Sums base (table_after (raised u (counts g)) gs)) (sym (table_then t g gs x.first x.fits))
          rest.sums);
    }

-- two tables whose sum is a table
added_is :
    (base u t : List (List ℕ)) → Sums base u t → IsTable t
    → added_to base u ≡ record { refusal = 0; line = 0; table = t }
unfolding counts_added
added_is base u t s i =
    ap (λ (b : Bool). cond b (told_sum (raised base (cell u))) (record { refusal = 12; line = 0; table = base }))
    (holds_from base (cell u) (λ a b la lb. subst (λ (k : ℕ). k ≤ greatest) (s a b la lb) (i.within a b la lb)))
    ∙ ap told_sum (raised_is base (cell u) (cell t) (λ a b la lb. sym (s a b la lb)) ∙ sym i.shape)
  where
    told_sum : List (List ℕ) → Reported
    told_sum x = record { refusal = 0; line = 0; table = x }

nothing_at : (a b : ℕ) → a < processors → b < processors → cell no_counts a b ≡ 0
unfolding cell
nothing_at a b la lb =
    ap (λ (r : List ℕ). get_or r b 0) (get_or-replicate processors a (replicate processors 0) [] la)
    ∙ get_or-replicate processors b 0 0 lb

nothing_is_table : IsTable no_counts
unfolding upto cell
nothing_is_table = record {
  shape = refl;
  within = λ a b la lb. let is : cell no_counts a b ≡ 0 = nothing_at a b la lb in omega arith;
}

pub parts_add_up : PartsAddUp
parts_add_up one other h =
    let base : List (List ℕ) = table_after no_counts one in
    let both = sym (none_append no_counts one other) ∙ h in
    let x = apart base no_counts base other (λ a b la lb.
    let is : cell no_counts a b ≡ 0 = nothing_at a b la lb in
    omega arith) (and_right (none_refused no_counts one) (none_refused base other) both) in (
      and_left (none_refused no_counts one) (none_refused base other) both,
      x.none,
      added_is base (table_after no_counts other) (table_after no_counts (one ++ other))
          (subst (Sums base (table_after no_counts other)) (sym (after_append no_counts one other)) x.sums)
          (after_is_table no_counts (one ++ other) nothing_is_table h),
    )

-- ---- refused

rows_stay :
    (text : List ℕ) (table : List (List ℕ)) (rows : List Tally) → (reported_of text table (length rows)).refusal ≢ 0
    → rows_after text table rows ≡ rows
unfolding rows_after measured_of
rows_stay text table rows h =
    let r : Reported = reported_of text table (length rows) in
    ap (λ (m : Measured). take m.count m.rows ++ drop m.count rows)
    (ap (λ (b : Bool). cond b (laid_down text r) (unmeasured r)) (ne_eqb r.refusal 0 h))

pub refused_adds_nothing : RefusedAddsNothing
unfolding reported_of counts_added
refused_adds_nothing text table rows h = record {
  table_stays =
      judged_stays text table (is_accepted text) (are_few text (length rows)) (holds table (charges_of text)) h;
  rows_stay = rows_stay text table rows h;
}
