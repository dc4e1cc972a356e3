-- The words of `if`, as they are read and as they are cut.
use Rattle.std.proofs.Common.{◌≡◌, ◌≢◌, ℕ, Bool, true, false, if◌then◌else◌, List, [], ◌∷◌, ◌++◌, option_map, Option, Some, None, codes, bytes_eq, true≢false, refl, ap, sym, subst, ◌∙◌, inl, inr}
use Rattle.std.specs.Cmp.Lexicographic.{bytes_decides}
use Rattle.tcl_commands.specs.declared.branches.Branch.{Branch}
use Rattle.tcl_commands.specs.declared.branches.Clause.{Clause}
use Rattle.tcl_commands.specs.declared.branches.Clause.TheVariants.{AtTest, AtThen, AtBody, Behind, AtLast, AtEnd}
use Rattle.tcl_commands.specs.declared.branches.Choices.{Choices}
use Rattle.tcl_commands.specs.Branches.{branch_of}
use Rattle.tcl_commands.specs.IfWords.{with_branch, choices_from, choices_of}
use Rattle.tcl_commands.specs.Shapes.{IsBranch, IsOtherwise, AreFurtherBranches, AreChoices, IsIf}

-- a text that isn't another
apart : (a b : List ℕ) → a ≢ b → bytes_eq a b ≡ false
apart a b differs = by (bytes_eq a b) (bytes_decides a b).0
  where
    by : (told : Bool) → (told ≡ true → a ≡ b) → told ≡ false
    by true same = absurd (differs (same refl))
    by false same = refl

same_text : (a : List ℕ) → bytes_eq a a ≡ true
same_text a = (bytes_decides a a).1 refl

abbrev choices_with : List Branch → Option (List ℕ) → Choices
choices_with branches otherwise = record { branches = branches; otherwise = otherwise }

module _ (branch : Branch) where
  -- a branch's words at the front
  branch_read : (own rest : List (List ℕ)) → IsBranch own branch → choices_from AtTest (own ++ rest) ≡ option_map (with_branch branch.test branch.body) (choices_from Behind rest)
  branch_read own rest (inl same) = ap (λ o. choices_from AtTest (o ++ rest)) same
  branch_read own rest (inr both) =
      ap (λ o. choices_from AtTest (o ++ rest)) both.1
      ∙ ap (λ b. if b then choices_from (AtBody branch.test) rest else option_map (with_branch branch.test branch.body) (choices_from Behind rest)) (apart branch.body (codes "then") both.0)

further_read : (words : List (List ℕ)) (branches : List Branch) (otherwise : Option (List ℕ)) → AreFurtherBranches words branches otherwise → choices_from Behind words ≡ Some (choices_with branches otherwise)
further_read words [] None same = ap (choices_from Behind) same
further_read words [] (Some body) (inl same) = ap (choices_from Behind) same
further_read words [] (Some body) (inr all) =
    ap (choices_from Behind) all.2
    ∙ ap (λ b. if b then choices_from AtTest [] else (if bytes_eq body (codes "else") then choices_from AtLast [] else choices_from (AtEnd body) [])) (apart body (codes "elseif") all.0)
    ∙ ap (λ b. if b then choices_from AtLast [] else choices_from (AtEnd body) []) (apart body (codes "else") all.1)
further_read words (branch ∷ branches) otherwise (own, rest, same, is, more) =
    ap (choices_from Behind) same
    ∙ branch_read branch own rest is
    ∙ ap (option_map (with_branch branch.test branch.body)) (further_read rest branches otherwise more)

pub choices_read : (words : List (List ℕ)) (choices : Choices) → IsIf words choices → choices_of words ≡ Some choices
unfolding choices_of
choices_read words choices is = by choices.branches is refl
  where
    by : (branches : List Branch) → AreChoices words branches choices.otherwise → branches ≡ choices.branches → choices_from AtTest words ≡ Some choices
    by [] none same = absurd none
    by (branch ∷ branches) (own, rest, cut, is, more) same =
        ap (choices_from AtTest) cut
        ∙ branch_read branch own rest is
        ∙ ap (option_map (with_branch branch.test branch.body)) (further_read rest branches choices.otherwise more)
        ∙ ap (λ b. Some (choices_with b choices.otherwise)) same

mapped : (f : Choices → Choices) (inner : Option Choices) (all : Choices) → option_map f inner ≡ Some all → (c : Choices) × (inner ≡ Some c) × (f c ≡ all)
mapped f None all same = absurd (cc)
mapped f (Some c) all same = (c, refl, cc)

-- what the words from a place on are, with those that led to the place
abbrev Cut : Clause → List (List ℕ) → Choices → Type 0
Cut AtTest words choices = IsIf words choices
Cut (AtThen test) words choices = IsIf (test ∷ words) choices
Cut (AtBody test) words choices = IsIf (test ∷ codes "then" ∷ words) choices
Cut Behind words choices = AreFurtherBranches words choices.branches choices.otherwise
Cut AtLast words choices = AreFurtherBranches (codes "else" ∷ words) choices.branches choices.otherwise
Cut (AtEnd body) words choices = (words ≡ []) × (choices ≡ choices_with [] (Some body))

module _ (test body : List ℕ) (words : List (List ℕ)) (choices : Choices) where
  -- a branch in front of what is cut
  branch_cut : (own : List (List ℕ)) → IsBranch own (branch_of test body) → ((c : Choices) → choices_from Behind words ≡ Some c → AreFurtherBranches words c.branches c.otherwise)
      → option_map (with_branch test body) (choices_from Behind words) ≡ Some choices → IsIf (own ++ words) choices
  branch_cut own is more same =
      let inner = mapped (with_branch test body) (choices_from Behind words) choices same in
      subst (IsIf (own ++ words)) inner.2 (own, words, refl, is, more inner.0 inner.1)

-- likewise behind another body
further_cut : (words : List (List ℕ)) (choices : Choices) → IsIf words choices → AreFurtherBranches (codes "elseif" ∷ words) choices.branches choices.otherwise
further_cut words choices is = by choices.branches is
  where
    by : (branches : List Branch) → AreChoices words branches choices.otherwise → AreFurtherBranches (codes "elseif" ∷ words) branches choices.otherwise
    by [] none = absurd none
    by (branch ∷ branches) (own, rest, cut, is, more) = (own, rest, ap (λ w. codes "elseif" ∷ w) cut, is, more)

-- nothing behind the last body
last_cut : (own words : List (List ℕ)) (body : List ℕ) (choices : Choices) → (words ≡ [] → IsOtherwise own (Some body)) → Cut (AtEnd body) words choices → AreFurtherBranches own choices.branches choices.otherwise
last_cut own words body choices is end = subst (λ (c : Choices). AreFurtherBranches own c.branches c.otherwise) (sym end.1) (is end.0)

differs : (a b : List ℕ) → bytes_eq a b ≡ false → a ≢ b
differs a b told same = absurd (true≢false (sym ((bytes_decides a b).1 same) ∙ told))

cut_from : (clause : Clause) (words : List (List ℕ)) (choices : Choices) → choices_from clause words ≡ Some choices → Cut clause words choices
cut_from AtTest [] choices same = absurd (cc)
cut_from AtTest (word ∷ words) choices same = cut_from (AtThen word) words choices same
cut_from (AtThen test) [] choices same = absurd (cc)
cut_from (AtThen test) (word ∷ words) choices same = by (bytes_eq word (codes "then")) refl same (cut_from (AtBody test) words choices) (cut_from Behind words)
  where
    by : (b : Bool) → bytes_eq word (codes "then") ≡ b → (if b then choices_from (AtBody test) words else option_map (with_branch test word) (choices_from Behind words)) ≡ Some choices
        → (choices_from (AtBody test) words ≡ Some choices → IsIf (test ∷ codes "then" ∷ words) choices)
        → ((c : Choices) → choices_from Behind words ≡ Some c → AreFurtherBranches words c.branches c.otherwise) → IsIf (test ∷ word ∷ words) choices
    by true here found at_body behind = subst (λ w. IsIf (test ∷ w ∷ words) choices) (sym ((bytes_decides word (codes "then")).0 here)) (at_body found)
    by false here found at_body behind = branch_cut test word words choices (test ∷ word ∷ []) (inr (differs word (codes "then") here, refl)) behind found
cut_from (AtBody test) [] choices same = absurd (cc)
cut_from (AtBody test) (word ∷ words) choices same = branch_cut test word words choices (test ∷ codes "then" ∷ word ∷ []) (inl refl) (cut_from Behind words) same
cut_from Behind [] choices same = let is : choices_with [] None ≡ choices = cc in subst (λ (c : Choices). AreFurtherBranches [] c.branches c.otherwise) is refl
cut_from Behind (word ∷ words) choices same =
    by (bytes_eq word (codes "elseif")) (bytes_eq word (codes "else")) refl refl same (cut_from AtTest words choices) (cut_from AtLast words choices) (cut_from (AtEnd word) words choices)
  where
    by : (elseif_here else_here : Bool) → bytes_eq word (codes "elseif") ≡ elseif_here → bytes_eq word (codes "else") ≡ else_here
        → (if elseif_here then choices_from AtTest words else (if else_here then choices_from AtLast words else choices_from (AtEnd word) words)) ≡ Some choices
        → (choices_from AtTest words ≡ Some choices → IsIf words choices)
        → (choices_from AtLast words ≡ Some choices → AreFurtherBranches (codes "else" ∷ words) choices.branches choices.otherwise)
        → (choices_from (AtEnd word) words ≡ Some choices → Cut (AtEnd word) words choices)
        → AreFurtherBranches (word ∷ words) choices.branches choices.otherwise
    by true other here there found at_test at_last at_end =
        subst (λ w. AreFurtherBranches (w ∷ words) choices.branches choices.otherwise) (sym ((bytes_decides word (codes "elseif")).0 here)) (further_cut words choices (at_test found))
    by false true here there found at_test at_last at_end =
        subst (λ w. AreFurtherBranches (w ∷ words) choices.branches choices.otherwise) (sym ((bytes_decides word (codes "else")).0 there)) (at_last found)
    by false false here there found at_test at_last at_end =
        last_cut (word ∷ words) words word choices (λ none. inr (differs word (codes "elseif") here, differs word (codes "else") there, ap (λ w. word ∷ w) none)) (at_end found)
cut_from AtLast [] choices same = absurd (cc)
cut_from AtLast (word ∷ words) choices same =
    last_cut (codes "else" ∷ word ∷ words) words word choices (λ none. inl (ap (λ w. codes "else" ∷ word ∷ w) none)) (cut_from (AtEnd word) words choices same)
cut_from (AtEnd body) [] choices same = (refl, cc)
cut_from (AtEnd body) (word ∷ words) choices same = absurd (cc)

pub choices_cut : (words : List (List ℕ)) (choices : Choices) → choices_of words ≡ Some choices → IsIf words choices
unfolding choices_of
choices_cut words choices same = cut_from AtTest words choices same
