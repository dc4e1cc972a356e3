-- Meaning. How the words of `if` and `foreach` and the pairs of `switch` are cut, as relations on whole lists.
use Rattle.std.specs.Prelude.{◌≡◌, ◌≢◌, ◌⊎◌, ℕ, zero, suc, List, [], ◌∷◌, ◌++◌, Option, Some, None, codes}
use Rattle.tcl_text.specs.Readings.{IsList}
use Rattle.tcl_text.specs.ListFaults.{IsListFault}
use Rattle.tcl_text.specs.FaultTexts.{list_text}
use Rattle.tcl_text.specs.declared.fault.ListFault.{ListFault}
use Rattle.tcl_commands.specs.declared.branches.Branch.{Branch}
use Rattle.tcl_commands.specs.declared.branches.Choices.{Choices}
use Rattle.tcl_commands.specs.declared.groups.Group.{Group}
use Rattle.tcl_commands.specs.Groups.{advanced, no_names_text}
use Rattle.tcl_text.specs.Answers.{message}

-- cond ?then? body: a `then` right behind the condition is never the body
abbrev pub IsBranch : List (List ℕ) → Branch → Type 0
IsBranch words branch = (words ≡ branch.test ∷ codes "then" ∷ branch.body ∷ []) ⊎ ((branch.body ≢ codes "then") × (words ≡ branch.test ∷ branch.body ∷ []))

-- nothing, or ?else? body: an `elseif` or `else` is the body only behind `else`
abbrev pub IsOtherwise : List (List ℕ) → Option (List ℕ) → Type 0
IsOtherwise words None = words ≡ []
IsOtherwise words (Some body) = (words ≡ codes "else" ∷ body ∷ []) ⊎ ((body ≢ codes "elseif") × (body ≢ codes "else") × (words ≡ body ∷ []))

-- ?elseif cond ?then? body ..? and then nothing, or ?else? body
abbrev pub AreFurtherBranches : List (List ℕ) → List Branch → Option (List ℕ) → Type 0
AreFurtherBranches words [] otherwise = IsOtherwise words otherwise
AreFurtherBranches words (branch ∷ branches) otherwise =
    (own : List (List ℕ)) × (rest : List (List ℕ)) × (words ≡ codes "elseif" ∷ (own ++ rest)) × IsBranch own branch × AreFurtherBranches rest branches otherwise

-- cond ?then? body ?elseif cond ?then? body ..? and then nothing, or ?else? body
abbrev pub AreChoices : List (List ℕ) → List Branch → Option (List ℕ) → Type 0
AreChoices words [] otherwise = ⊥
AreChoices words (branch ∷ branches) otherwise =
    (own : List (List ℕ)) × (rest : List (List ℕ)) × (words ≡ own ++ rest) × IsBranch own branch × AreFurtherBranches rest branches otherwise

-- The words behind `if` are these branches, and then this body.
abbrev pub IsIf : List (List ℕ) → Choices → Type 0
IsIf words choices = AreChoices words choices.branches choices.otherwise

-- The words behind `if` are these choices, or, where there are none, no choices at all.
abbrev pub IsIfOrNone : List (List ℕ) → Option Choices → Type 0
IsIfOrNone words (Some choices) = IsIf words choices
IsIfOrNone words None = (choices : Choices) → IsIf words choices → ⊥

-- each pattern, and its body behind it
abbrev pub arm_words : List Branch → List (List ℕ)
arm_words [] = []
arm_words (arm ∷ arms) = arm.test ∷ arm.body ∷ arm_words arms

-- A non-empty list of names, and a list of items, of which all are left.
abbrev pub IsGroup : List ℕ → List ℕ → Group → Type 0
IsGroup names items group = IsList names group.names × (group.names ≢ []) × IsList items group.items

-- a word that is no list, and the text of that error
abbrev pub IsNoList : List ℕ → List ℕ → Type 0
IsNoList word text = (fault : ListFault) × IsListFault word fault × (text ≡ message (list_text fault))

-- Names and items that are no group, and the text of the error: of the names, if they are at fault.
abbrev pub IsNoGroup : List ℕ → List ℕ → List ℕ → Type 0
IsNoGroup names items text =
    IsNoList names text
    ⊎ ((IsList names [] × (text ≡ no_names_text)) ⊎ ((own : List (List ℕ)) × IsList names own × (own ≢ []) × IsNoList items text))

-- ?names items ..?: the words before the body of `foreach`, which itself needs one pair at least
abbrev pub AreGroups : List (List ℕ) → List Group → Type 0
AreGroups words [] = words ≡ []
AreGroups words (group ∷ groups) =
    (names : List ℕ) × (items : List ℕ) × (rest : List (List ℕ)) × (words ≡ names ∷ items ∷ rest) × IsGroup names items group × AreGroups rest groups

-- groups, and then a pair that is none
abbrev pub AreGroupsBeforeFault : List (List ℕ) → List Group → List ℕ → Type 0
AreGroupsBeforeFault words [] text = (names : List ℕ) × (items : List ℕ) × (rest : List (List ℕ)) × (words ≡ names ∷ items ∷ rest) × IsNoGroup names items text
AreGroupsBeforeFault words (group ∷ groups) text =
    (names : List ℕ) × (items : List ℕ) × (rest : List (List ℕ)) × (words ≡ names ∷ items ∷ rest) × IsGroup names items group
    × AreGroupsBeforeFault rest groups text

-- the words before the body are at fault, with this text
abbrev pub AreFaulty : List (List ℕ) → List ℕ → Type 0
AreFaulty words text = (groups : List Group) × AreGroupsBeforeFault words groups text

-- a group after so many iterations
abbrev pub after_iterations : ℕ → Group → Group
after_iterations zero group = group
after_iterations (suc iterations) group = advanced (after_iterations iterations group)
