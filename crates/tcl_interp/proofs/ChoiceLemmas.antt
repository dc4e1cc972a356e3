-- The branches of `if` from a place on.
use Rattle.std.proofs.Common.{◌≡◌, ℕ, zero, suc, ◌+◌, ◌≤◌, ◌<◌, ◌==◌, ◌∙◌, Bool, true, false, true≢false, List, [], ◌∷◌, length, drop, get_or, Option, Ok, refl, ap, sym, arith, add-one}
use Rattle.tcl_commands.specs.declared.branches.Branch.{Branch}
use Rattle.tcl_interp.specs.Finish.{Begins, Waiting, ForChoice}
use Rattle.tcl_interp.specs.Moves.{moved, expression_begins, otherwise_move, choice_move, chosen_move}

module _ {K : Type 0} (room : ℕ) (otherwise : Option (List ℕ)) (waits : List (Waiting K)) where
  -- where none is left
  pub choice_past : (branches : List Branch) (place : ℕ) → length branches ≤ place → otherwise_move room otherwise waits ≡ choice_move room (drop place branches) otherwise waits
  choice_past [] zero past = refl
  choice_past [] (suc place) past = refl
  choice_past (branch ∷ branches) zero past = absurd (omega arith)
  choice_past (branch ∷ branches) (suc place) past = choice_past branches place (omega arith)

  chosen_on_suc : (branches : List Branch) (place : ℕ) → place < length branches → choice_move room (drop (suc place) branches) otherwise waits ≡ chosen_move room (drop place branches) otherwise waits (Ok false)
  chosen_on_suc [] place less = absurd (omega arith)
  chosen_on_suc (branch ∷ branches) zero less = refl
  chosen_on_suc (branch ∷ branches) (suc place) less = chosen_on_suc branches place (omega arith)

  -- where the condition at a place doesn't hold
  pub chosen_on : (branches : List Branch) (place : ℕ) → place < length branches → choice_move room (drop (place + 1) branches) otherwise waits ≡ chosen_move room (drop place branches) otherwise waits (Ok false)
  chosen_on branches place less = rw add-one (chosen_on_suc branches place less)

  -- the first condition begins
  pub first_begins : (branches : List Branch) (branch : Branch) → 0 < length branches → branch ≡ get_or branches 0 branch
      → moved (expression_begins room branch.test) (ForChoice room branches otherwise ∷ waits) ≡ choice_move room branches otherwise waits
  first_begins [] branch some is = absurd (omega (arith, some))
  first_begins (first ∷ branches) branch some is = ap (λ (b : Branch). moved (expression_begins room b.test) (ForChoice room (first ∷ branches) otherwise ∷ waits)) is

  -- it holds
  pub first_holds : (branches : List Branch) (branch : Branch) → 0 < length branches → branch ≡ get_or branches 0 branch
      → chosen_move room branches otherwise waits (Ok true) ≡ moved (Begins room branch.body) waits
  first_holds [] branch some is = absurd (omega (arith, some))
  first_holds (first ∷ branches) branch some is = ap (λ (b : Branch). moved (Begins room b.body) waits) (sym is)

-- where there are branches
pub some_branch : (branches : List Branch) (empty : Bool) → empty ≡ (length branches == 0) → empty ≡ false → 0 < length branches
some_branch [] empty is not_empty = absurd (true≢false (sym is ∙ not_empty))
some_branch (branch ∷ branches) empty is not_empty = omega arith
