-- What is read behind an index of a list.
use Rattle.std.proofs.Common.{◌≡◌, ℕ, zero, suc, ◌+◌, ◌<◌, List, [], ◌∷◌, ◌++◌, length, drop, get_or, Option, Some, None, Result, Ok, Err, refl, ap, sym, ◌∙◌, add-one, arith}
use Rattle.tcl_commands.specs.declared.branches.Branch.{Branch}
use Rattle.tcl_commands.specs.declared.branches.Clause.{Clause}
use Rattle.tcl_commands.specs.declared.branches.Choices.{Choices}
use Rattle.tcl_commands.specs.declared.groups.Group.{Group}
use Rattle.tcl_commands.specs.Ahead.{ahead, with_branches}
use Rattle.tcl_commands.specs.Groups.{groups_from}
use Rattle.tcl_commands.specs.IfWords.{choices_from}

module _ {X : Type 0} where
  at_suc : (xs : List X) (i : ℕ) (d : X) → i < length xs → drop i xs ≡ get_or xs i d ∷ drop (suc i) xs
  at_suc [] i d less = absurd (omega arith)
  at_suc (y ∷ ys) zero d less = refl
  at_suc (y ∷ ys) (suc i) d less = at_suc ys i d (omega arith)

  pub drop_at : (xs : List X) (i : ℕ) (x : X) → i < length xs → x ≡ get_or xs i x → drop i xs ≡ x ∷ drop (i + 1) xs
  drop_at xs i x less at = rw add-one (at_suc xs i x less ∙ ap (λ y. y ∷ drop (suc i) xs) (sym at))

-- a word that doesn't fit
pub none_from : (branches : List Branch) (clause : Clause) (words : List (List ℕ)) (i : ℕ) (word : List ℕ) (all : Option Choices) → i < length words → word ≡ get_or words i word
    → ((rest : List (List ℕ)) → choices_from clause (word ∷ rest) ≡ None) → with_branches branches (choices_from clause (drop i words)) ≡ all → None ≡ all
none_from branches clause words i word all less at fails same =
    ap (with_branches branches) (sym (fails (drop (i + 1) words)) ∙ ap (choices_from clause) (sym (drop_at words i word less at))) ∙ same

-- a word that is at fault
pub fault_from : (groups : List Group) (open_names : Option (List ℕ)) (words : List (List ℕ)) (i : ℕ) (word text : List ℕ) (all : Result (List Group) (List ℕ)) → i < length words → word ≡ get_or words i word
    → ((rest : List (List ℕ)) → groups_from open_names (word ∷ rest) ≡ Err text) → ahead groups (groups_from open_names (drop i words)) ≡ all → Err text ≡ all
fault_from groups open_names words i word text all less at fails same =
    ap (ahead groups) (sym (fails (drop (i + 1) words)) ∙ ap (groups_from open_names) (sym (drop_at words i word less at))) ∙ same
