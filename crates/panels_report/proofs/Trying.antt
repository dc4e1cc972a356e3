-- Commands that are tried, and answers that are taken.
use Rattle.std.proofs.Common.{◌≡◌, List, ℕ, [], ◌∷◌, ◌++◌, ap, subst, ◌∙◌}
use Rattle.std.specs.List.{list_all}
use Rattle.panels_report.specs.Trials.{answer_in, is_short, with_answer, with_lines}

-- the words so far are texts, and so are those that are left, or they aren't all
pub record Texts (texts left all : List (List ℕ)) : Type 0 where
  pub joined : texts ++ left ≡ all
  pub are_short : list_all is_short left ≡ list_all is_short all

-- answers, line by line
pub lines_more : (line : List ℕ) (left next : List (List ℕ)) (answers later all : List (List ℕ)) → left ≡ line ∷ next → later ≡ with_answer (answer_in line) answers → with_lines left answers ≡ all
    → with_lines next later ≡ all
lines_more line left next answers later all here is before =
    let P : List (List ℕ) → Type 0 = λ ls. with_lines ls answers ≡ all in
    ap (with_lines next) is ∙ subst P here before

pub lines_all : (left answers all : List (List ℕ)) → left ≡ [] → with_lines left answers ≡ all → answers ≡ all
lines_all left answers all none before =
    let P : List (List ℕ) → Type 0 = λ ls. with_lines ls answers ≡ all in
    subst P none before
