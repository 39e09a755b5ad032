-- A `Result` whose error `map_err` has changed, and what was known of it before.
--     kept_ok     its value is that of before
--     kept_err    its error is what the closure made of that of before
-- Assumes nothing.
use mathlib.Core.Path.{◌≡◌, sym, ◌∙◌, subst}
use Rattle.std.specs.Prelude.{Result, Ok, Err}
use Rattle.std.specs.Result.{MatchResult, IsErrAnd}

module _ {A D E : Type 0} (P : Result A D → Type 0) (m : Result A E) (Q : D → E → Type 0) where
  pub kept_ok : (r : Result A D) (x : A)
      → MatchResult r (λ y. m ≡ Ok y) (λ d. IsErrAnd m (Q d)) → m ≡ Ok x → P r → P (Ok x)
  kept_ok (Ok y) x h is known =
      let one : y ≡ x = cc (sym h ∙ is) in
      subst (λ (z : A). P (Ok z)) one known
  kept_ok (Err d) x h is known = absurd (subst (λ (k : Result A E). IsErrAnd k (Q d)) is h)

  pub kept_err : (r : Result A D) (y : E)
      → MatchResult r (λ x. m ≡ Ok x) (λ d. IsErrAnd m (Q d)) → m ≡ Err y → P r → (d : D) × P (Err d) × Q d y
  kept_err (Ok x) y h is known = absurd (cc (sym h ∙ is))
  kept_err (Err d) y h is known = (d, known, subst (λ (k : Result A E). IsErrAnd k (Q d)) is h)
