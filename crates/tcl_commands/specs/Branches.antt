-- Meaning. Bodies, each behind its condition or pattern: the pairs of `switch`. What the words of `if` are says IsIf of Shapes.
use Rattle.std.specs.Prelude.{ℕ, List, [], ◌∷◌, Option, Some, None, option_map}
use Rattle.tcl_commands.specs.declared.branches.Branch.{Branch}

abbrev pub branch_of : List ℕ → List ℕ → Branch
branch_of test body = record { test = test; body = body }

-- the pairs of `switch`, behind a pattern or not
abbrev pub arms_from : Option (List ℕ) → List (List ℕ) → Option (List Branch)
arms_from None [] = Some []
arms_from None (pattern ∷ items) = arms_from (Some pattern) items
arms_from (Some pattern) [] = None
arms_from (Some pattern) (body ∷ items) = option_map (λ arms. branch_of pattern body ∷ arms) (arms_from None items)

-- patterns and bodies in turn; none where the last pattern has no body
unfoldable pub arms_of : List (List ℕ) → Option (List Branch)
arms_of items = arms_from None items
