-- Many schedules, one after the other: "a table .. carried from schedule to schedule and handed back", and "where no schedule is
-- refused, adding them in another order gives the same table".
--     AnyOrder              any rearrangement, each schedule keeping its number of lent rows
--     PartsAddUp            the tables of two parts, each begun from nothing, added: the table of both
--     RefusedAddsNothing    a refused schedule leaves the table and the lent rows as they were
use Rattle.std.specs.Prelude.{ℕ, ◌≡◌, ◌≢◌, Bool, true, ◌&&◌, List, [], ◌∷◌, ◌++◌, length, replicate, eqb}
use Rattle.lock.specs.State.{processors}
use Rattle.report.specs.declared.Tally.{Tally}
use Rattle.report.specs.Table.{Reported}
use Rattle.report.specs.Table.{added_to}
use Rattle.report.specs.Report.{reported_of, rows_after}

-- one schedule, and the number of rows lent for it
pub record Given : Type 0 where
  pub text : List ℕ
  pub lent : ℕ

-- the report of one of the list
abbrev pub report_of : List (List ℕ) → Given → Reported
report_of table g = reported_of g.text table g.lent

-- no schedule of the list is refused, by whatever number
unfoldable pub none_refused : List (List ℕ) → List Given → Bool
none_refused table [] = true
none_refused table (g ∷ more) = eqb (report_of table g).refusal 0 && none_refused (report_of table g).table more

-- the table after all of them; one that is refused hands it on as it was
unfoldable pub table_after : List (List ℕ) → List Given → List (List ℕ)
table_after table [] = table
table_after table (g ∷ more) = table_after (report_of table g).table more

-- the same things in another order
pub data Rearranged {A : Type 0} : List A → List A → Type 0 where
  none : Rearranged [] []
  first : (x : A) (xs ys : List A) → Rearranged xs ys → Rearranged (x ∷ xs) (x ∷ ys)
  swapped : (x y : A) (xs : List A) → Rearranged (x ∷ y ∷ xs) (y ∷ x ∷ xs)
  then : (xs ys zs : List A) → Rearranged xs ys → Rearranged ys zs → Rearranged xs zs

abbrev pub AnyOrder : Type 0
AnyOrder =
    (table : List (List ℕ)) (one other : List Given) → Rearranged one other → none_refused table one ≡ true
    → (none_refused table other ≡ true) × (table_after table one ≡ table_after table other)

-- a table of zeros
abbrev pub no_counts : List (List ℕ)
no_counts = replicate processors (replicate processors 0)

-- what lets a year's schedules be done in parts: where no schedule is refused, the tables of the parts add up, unrefused
abbrev pub PartsAddUp : Type 0
PartsAddUp =
    (one other : List Given) → none_refused no_counts (one ++ other) ≡ true
    → (none_refused no_counts one ≡ true) × (none_refused no_counts other ≡ true)
    × (added_to (table_after no_counts one) (table_after no_counts other)
    ≡ record { refusal = 0; line = 0; table = table_after no_counts (one ++ other) })

-- "a refused schedule adds nothing and changes no lent row"
pub record RefusedStays (text : List ℕ) (table : List (List ℕ)) (rows : List Tally) : Type 0 where
  pub table_stays : (reported_of text table (length rows)).table ≡ table
  pub rows_stay : rows_after text table rows ≡ rows

abbrev pub RefusedAddsNothing : Type 0
RefusedAddsNothing =
    (text : List ℕ) (table : List (List ℕ)) (rows : List Tally)
    → (reported_of text table (length rows)).refusal ≢ 0 → RefusedStays text table rows
