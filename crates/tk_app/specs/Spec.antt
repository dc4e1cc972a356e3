-- Meaning. What an application is begun with.
use Rattle.std.specs.Prelude.{ℕ, List}
use Rattle.tk_base.specs.declared.budget.Budget.{Budget}

-- its aliases are their names, each with what it is set up with
pub record Spec (M : Type 0) : Type 0 where
  pub name : List ℕ
  pub width : ℕ
  pub height : ℕ
  pub script : List ℕ
  pub budget : Budget
  pub aliases : List (List ℕ × M)
