-- Lemmas on what JSON tells of cases.
use Rattle.std.proofs.Common.{◌≡◌, ℕ, false, List, [], ◌∷◌, map, refl}
use Rattle.serde_json.specs.Data.{string}
use Rattle.serde_json.specs.View.{items_of}
use Rattle.serde_json.specs.Written.{has_float, items_have_float}
use Rattle.panels_text.specs.Reports.{case_data, problems_of, verdicts}
use Rattle.panels_text.specs.declared.cases.Case.{Case}

texts_have_none : (texts : List (List ℕ)) → items_have_float (items_of (map string texts)) ≡ false
texts_have_none [] = refl
texts_have_none (text ∷ texts) = texts_have_none texts

cases_have_none : (cases : List Case) → items_have_float (items_of (map case_data cases)) ≡ false
cases_have_none [] = refl
cases_have_none (case ∷ cases) = rw (texts_have_none (problems_of case)) (cases_have_none cases)

-- no number of it is one with a point
pub verdicts_have_none : (cases : List Case) → has_float (verdicts cases) ≡ false
verdicts_have_none cases = rw (cases_have_none cases) refl
