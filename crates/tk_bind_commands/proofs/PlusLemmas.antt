-- What stands behind a `+` in front of a word.
use Rattle.std.proofs.Common.{◌≡◌, ◌≢◌, ℕ, Bool, true, false, cond, List, [], ◌∷◌, ◌++◌, Some, None, refl, sym, ap}
use Rattle.std.specs.Prelude.{codes, ◌==◌}
use Rattle.std.proofs.lemmas.Bool.{eqb-true}
use Rattle.tk_bind_commands.specs.Bind.{behind_plus}

pub plus_some : (text more : List ℕ) → text ≡ codes "+" ++ more → Some more ≡ behind_plus text
plus_some text more is = sym (ap behind_plus is)

pub plus_none : (text : List ℕ) → ((more : List ℕ) → text ≢ codes "+" ++ more) → None ≡ behind_plus text
plus_none [] none = refl
plus_none (first ∷ rest) none = by (first == 43) refl
  where
    by : (same : Bool) → (first == 43) ≡ same → None ≡ cond same (Some rest) None
    by true is = absurd (none rest (ap (λ (c : ℕ). c ∷ rest) (eqb-true first 43 is)))
    by false is = refl
