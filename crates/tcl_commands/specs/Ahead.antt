-- Steps. Where one more word leads, and what was read so far in front of what the words behind it give.
use Rattle.std.specs.Prelude.{◌≡◌, ℕ, List, ◌∷◌, ◌++◌, Option, Some, None, option_map, Result, Ok, Err}
use Rattle.tcl_commands.specs.declared.branches.Branch.{Branch}
use Rattle.tcl_commands.specs.declared.branches.Clause.{Clause}
use Rattle.tcl_commands.specs.declared.branches.Choices.{Choices}
use Rattle.tcl_commands.specs.declared.groups.Group.{Group}
use Rattle.tcl_commands.specs.Branches.{arms_from}
use Rattle.tcl_commands.specs.IfWords.{choices_from}
use Rattle.tcl_commands.specs.Groups.{groups_from}

-- a list in front of what a reading gives
abbrev pub ahead : {T E : Type 0} → List T → Result (List T) E → Result (List T) E
ahead front (Ok rest) = Ok (front ++ rest)
ahead front (Err fault) = Err fault

-- choices with branches in front
abbrev pub with_branches : List Branch → Option Choices → Option Choices
with_branches branches choices = option_map (λ (c : Choices). record c { branches = branches ++ c.branches }) choices

-- One more word leads to this place, with these branches so far: for any words behind it, all that there is stays.
abbrev pub Follows : Clause → List ℕ → List Branch → Option Clause → List Branch → Type 0
Follows clause word branches (Some next) branches' =
    (words : List (List ℕ)) → with_branches branches' (choices_from next words) ≡ with_branches branches (choices_from clause (word ∷ words))
Follows clause word branches None branches' = (words : List (List ℕ)) → choices_from clause (word ∷ words) ≡ None

-- One more item leads to this, with these arms so far: for any items behind it, all that there is stays.
abbrev pub FollowsArm : Option (List ℕ) → List ℕ → List Branch → Option (List ℕ) → List Branch → Type 0
FollowsArm held item arms next arms' =
    (items : List (List ℕ)) → option_map (λ more. arms' ++ more) (arms_from next items) ≡ option_map (λ more. arms ++ more) (arms_from held (item ∷ items))

-- One more word leads to this, with these groups so far: for any words behind it, all that there is stays.
abbrev pub FollowsGroup : Option (List ℕ) → List ℕ → List Group → Result (Option (List ℕ)) (List ℕ) → List Group → Type 0
FollowsGroup held word groups (Ok next) groups' =
    (words : List (List ℕ)) → ahead groups' (groups_from next words) ≡ ahead groups (groups_from held (word ∷ words))
FollowsGroup held word groups (Err text) groups' = (words : List (List ℕ)) → groups_from held (word ∷ words) ≡ Err text
